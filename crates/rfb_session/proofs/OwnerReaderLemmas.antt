-- A reader of the owner's lines, from slice to slice.
use Rattle.std.proofs.Common.{true, false, zero, suc, None, Some, slice_index_or, drop, ◌≡◌, ◌≢◌, ◌<◌}
use Rattle.std.proofs.Common.{◌≤◌, ◌+◌, ◌-◌, ◌∙◌, ap, refl, subst, inl, inr, length, ℕ, List, [], ◌∷◌}
use Rattle.std.proofs.Common.{◌++◌, Option, arith}
use Rattle.std.specs.Option.{is_some}
use Rattle.std.proofs.lemmas.List.{append_assoc, length-append}
use Rattle.std.proofs.lemmas.List.Elements.{All-append}
use Rattle.rfb_picture.specs.declared.rect.Rect.{Rect}
use Rattle.rfb_session.specs.declared.language.screen.Screen.{Screen as Size}
use Rattle.rfb_session.specs.declared.owner.order.OwnerLine.{OwnerLine}
use Rattle.rfb_session.specs.owner.Lines.{AreAfterPixels, IsInPlace, IsOneLine, IsSpoilt, data_length}
use Rattle.rfb_session.specs.owner.Reader.{AreComing}

-- more of the pixels' bytes come
pub more_after : (rect : Rect) (text bytes more : List ℕ) → AreAfterPixels rect text bytes →
    AreAfterPixels rect (text ++ more) (bytes ++ more)
more_after rect text bytes more b = record {
  head = b.head;
  whole = ap (λ (t : List ℕ). t ++ more) b.whole ∙ append_assoc b.head (10 ∷ bytes) more;
  is_short = b.is_short;
  says = b.says;
}

pub more_coming : (rect : Rect) (text bytes more : List ℕ) (left : ℕ) → AreComing rect text bytes left →
    length more ≤ left → AreComing rect (text ++ more) (bytes ++ more) (left - length more)
more_coming rect text bytes more left coming few =
    (more_after rect text bytes more coming.0, omega (arith, coming.1, few, length-append bytes more))

-- a line grows
pub more_line : (text part more : List ℕ) → text ≡ part → IsOneLine text → IsOneLine more →
    (text ++ more ≡ part ++ more) × IsOneLine (text ++ more)
more_line text part more same one_line plain = (
  ap (λ (t : List ℕ). t ++ more) same,
  All-append (λ (b : ℕ). b ≢ 10) text more one_line plain,
)

-- or grows too long
pub spoilt_line : (text part more : List ℕ) → text ≡ part → IsOneLine text → IsOneLine more →
    96 < length part + length more → IsSpoilt (text ++ more)
spoilt_line text part more same one_line plain long =
    let size = ap (λ (t : List ℕ). length t) same in
    inl (All-append (λ (b : ℕ). b ≢ 10) text more one_line plain, omega (arith, size, long, length-append text more))

-- what is spoilt stays so
pub still_spoilt : (text more : List ℕ) → IsSpoilt text → IsOneLine more → IsSpoilt (text ++ more)
still_spoilt text more (inl long) one_line =
    inl (All-append (λ (b : ℕ). b ≢ 10) text more long.0 one_line, omega (arith, long.1, length-append text more))
still_spoilt text more (inr after) one_line =
    inr (
      after.0,
      after.1,
      after.2 ++ more,
      subst (λ (b : List ℕ). AreAfterPixels after.0 (text ++ more) b)
          (append_assoc after.1 after.2 more) (more_after after.0 text (after.1 ++ after.2) more after.3),
      after.4,
      some after.2 more after.5,
      All-append (λ (b : ℕ). b ≢ 10) after.2 more after.6 one_line,
    )
  where
    some : (rest more : List ℕ) → rest ≢ [] → rest ++ more ≢ []
    some [] more none e = none refl
    some (x ∷ rest) more none e = cc

-- something after the bytes of pixels
pub spoilt_pixels : (rect : Rect) (text bytes more : List ℕ) → AreAfterPixels rect text bytes →
    length bytes ≡ data_length rect → more ≢ [] → IsOneLine more → IsSpoilt (text ++ more)
spoilt_pixels rect text bytes more b whole some one_line =
    inr (rect, bytes, more, more_after rect text bytes more b, whole, some, one_line)

-- the byte at an index, where that is a newline
pub newline_at : (bytes : List ℕ) (i : ℕ) → i < length bytes → slice_index_or bytes i 0 ≡ 10 →
    (rest : List ℕ) × (drop i bytes ≡ 10 ∷ rest)
newline_at [] i within newline = absurd (omega arith)
newline_at (x ∷ bytes) zero within newline = (bytes, ap (λ (y : ℕ). y ∷ bytes) newline)
newline_at (x ∷ bytes) (suc i) within newline = newline_at bytes i (omega arith) newline

-- the screen's size is in place where none is known
pub in_place : (known : Option Size) (line : OwnerLine) (size : Size) → is_some known ≡ false →
    line ≡ OwnerLine.Screen size → IsInPlace known line
in_place None line size none is = (size, is)
in_place (Some k) line size none is = let e : true ≡ false = none in absurd (cc)
