-- A head is one, and bytes that begin with one have no flaw there.
use Rattle.std.proofs.Common.{◌≡◌, ◌∙◌, ◌⊎◌, ℕ, List, ap, sym, refl, subst, inl, inr, arith}
use Rattle.rfb_session.specs.declared.netpbm.fault.Flaw.{Flaw}
use Rattle.rfb_session.specs.declared.netpbm.head.Sample.{Sample}
use Rattle.rfb_session.specs.declared.netpbm.head.Sample.TheVariants.{Byte, Word}
use Rattle.rfb_session.specs.netpbm.Head.{BlankNext, HasHeadFlaw, HasLateFlaw, HasSizeFlaw, IsHead, MagicNext}
use Rattle.rfb_session.specs.netpbm.Head.{MaximumNext, NoMaximumNext, NoSideNext, SideNext, maximum_of}
use Rattle.rfb_session.specs.netpbm.Number.{value_of}
use Rattle.rfb_session.specs.netpbm.Side.{IsSide}
use Rattle.rfb_session.proofs.NetpbmNumberLemmas.{next_once}

magic_once : (bytes a b : List ℕ) → MagicNext bytes a → MagicNext bytes b → a ≡ b
magic_once bytes a b one other = let e = sym one.0 ∙ other.0 in cc

side_once : (bytes : List ℕ) (m : ℕ) (a : List ℕ) (n : ℕ) (b : List ℕ) → SideNext bytes m a →
    SideNext bytes n b → (m ≡ n) × (a ≡ b)
side_once bytes m a n b one other =
    let p = next_once bytes one.0 a other.0 b one.1 other.1 in
    (one.2 ∙ ap value_of p.0 ∙ sym other.2, p.1)

same_sample : (s t : Sample) → maximum_of s ≡ maximum_of t → s ≡ t
same_sample Byte Byte e = refl
same_sample Byte Word e = absurd (omega arith)
same_sample Word Byte e = absurd (omega arith)
same_sample Word Word e = refl

maximum_once : (bytes : List ℕ) (s : Sample) (a : List ℕ) (t : Sample) (b : List ℕ) → MaximumNext bytes s a →
    MaximumNext bytes t b → (s ≡ t) × (a ≡ b)
maximum_once bytes s a t b one other =
    let p = next_once bytes one.0 a other.0 b one.1 other.1 in
    (same_sample s t (one.2 ∙ ap value_of p.0 ∙ sym other.2), p.1)

blank_once : (bytes a b : List ℕ) → BlankNext bytes a → BlankNext bytes b → a ≡ b
blank_once bytes a b one other = let e = sym one.1 ∙ other.1 in cc

-- what two heads of the same bytes have in common: all
pub record SameHead (w h : ℕ) (s : Sample) (p : List ℕ) (v g : ℕ) (t : Sample) (q : List ℕ) : Type 0 where
  pub width : w ≡ v
  pub height : h ≡ g
  pub sample : s ≡ t
  pub places : p ≡ q

pub head_once : (bytes : List ℕ) (w h : ℕ) (s : Sample) (p : List ℕ) (v g : ℕ) (t : Sample) (q : List ℕ) →
    IsHead bytes w h s p → IsHead bytes v g t q → SameHead w h s p v g t q
head_once bytes w h s p v g t q one other =
    let a = magic_once bytes one.magic other.magic one.is_magic other.is_magic in
    let width = side_once other.magic w one.one v other.one
    (subst (λ (l : List ℕ). SideNext l w one.one) a one.is_width) other.is_width in
    let height = side_once other.one h one.two g other.two
    (subst (λ (l : List ℕ). SideNext l h one.two) width.1 one.is_height) other.is_height in
    let maximum = maximum_once other.two s one.three t other.three
    (subst (λ (l : List ℕ). MaximumNext l s one.three) height.1 one.is_maximum) other.is_maximum in
    record {
      width = width.0;
      height = height.0;
      sample = maximum.0;
      places = blank_once other.three p q (subst (λ (l : List ℕ). BlankNext l p) maximum.1 one.is_blank) other.is_blank;
    }

-- ---- no flaw

no_side_flaw : (bytes : List ℕ) (n : ℕ) (a : List ℕ) (flaw : Flaw) → SideNext bytes n a → NoSideNext bytes flaw → ⊥
no_side_flaw bytes n a flaw is (inl none) = none.1 is.0 a is.1
no_side_flaw bytes n a flaw is (inr bad) =
    let same = is.2 ∙ ap value_of (next_once bytes is.0 a bad.1 bad.2 is.1 bad.3).0 in
    bad.4 (subst IsSide same is.3)

no_maximum_flaw : (bytes : List ℕ) (s : Sample) (a : List ℕ) (flaw : Flaw) → MaximumNext bytes s a →
    NoMaximumNext bytes flaw → ⊥
no_maximum_flaw bytes s a flaw is (inl none) = none.1 is.0 a is.1
no_maximum_flaw bytes s a flaw is (inr bad) =
    bad.4 s (is.2 ∙ ap value_of (next_once bytes is.0 a bad.1 bad.2 is.1 bad.3).0)

no_late_flaw : (bytes : List ℕ) (s : Sample) (a p : List ℕ) (flaw : Flaw) → MaximumNext bytes s a →
    BlankNext a p → HasLateFlaw bytes flaw → ⊥
no_late_flaw bytes s a p flaw is blank (inl none) = no_maximum_flaw bytes s a flaw is none
no_late_flaw bytes s a p flaw is blank (inr bad) =
    let same = (maximum_once bytes s a bad.0 bad.1 is bad.2).1 in
    bad.4 p (subst (λ (l : List ℕ). BlankNext l p) same blank)

no_height_flaw : (bytes : List ℕ) (h : ℕ) (two : List ℕ) (s : Sample) (three p : List ℕ) (flaw : Flaw) →
    SideNext bytes h two → MaximumNext two s three → BlankNext three p →
    NoSideNext bytes flaw ⊎ ((height : ℕ) × (two : List ℕ) × SideNext bytes height two × HasLateFlaw two flaw) → ⊥
no_height_flaw bytes h two s three p flaw side most blank (inl none) = no_side_flaw bytes h two flaw side none
no_height_flaw bytes h two s three p flaw side most blank (inr late) =
    let same = (side_once bytes late.0 late.1 h two late.2 side).1 in
    no_late_flaw two s three p flaw most blank (subst (λ (l : List ℕ). HasLateFlaw l flaw) same late.3)

no_size_flaw : (bytes : List ℕ) (w : ℕ) (one : List ℕ) (h : ℕ) (two : List ℕ) (s : Sample)
    (three p : List ℕ) (flaw : Flaw) →
    SideNext bytes w one → SideNext one h two → MaximumNext two s three → BlankNext three p → HasSizeFlaw bytes flaw → ⊥
no_size_flaw bytes w one h two s three p flaw side next most blank (inl none) = no_side_flaw bytes w one flaw side none
no_size_flaw bytes w one h two s three p flaw side next most blank (inr later) =
    let same = (side_once bytes w one later.0 later.1 side later.2).1 in
    no_height_flaw later.1 h two s three p flaw (subst (λ (l : List ℕ). SideNext l h two) same next) most blank later.3

pub no_head_flaw : (bytes : List ℕ) (w h : ℕ) (s : Sample) (p : List ℕ) (flaw : Flaw) →
    IsHead bytes w h s p → HasHeadFlaw bytes flaw → ⊥
no_head_flaw bytes w h s p flaw head (inl none) = none.1 head.magic head.is_magic
no_head_flaw bytes w h s p flaw head (inr later) =
    let same = magic_once bytes later.0 head.magic later.1 head.is_magic in
    no_size_flaw head.magic w head.one h head.two s head.three p flaw head.is_width head.is_height
    head.is_maximum head.is_blank
    (subst (λ (l : List ℕ). HasSizeFlaw l flaw) same later.2)
