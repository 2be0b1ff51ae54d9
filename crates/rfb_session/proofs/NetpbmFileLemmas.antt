-- A file, from its front and what follows.
use Rattle.std.proofs.Common.{◌≡◌, ◌∙◌, ◌<◌, ◌≤◌, ◌*◌, ◌++◌, ℕ, List, [], Option, Some, None, Result, Ok, Err, IfOk}
use Rattle.std.proofs.Common.{IfErr, IfSome, length, take, drop, ap, sym, refl, subst, inl, inr, arith, append-nil}
use Rattle.std.proofs.Common.{take_all, drop_of_length-le, length-take}
use Rattle.std.proofs.Math.Seq.{drop-append_seam, take-append_seam}
use Rattle.std.proofs.lemmas.Bool.{cases_lt}
use Rattle.std.specs.Fmt.{option_append}
use Rattle.std.specs.Io.KnownBytes.{Consumes, IsAtEnd}
use Rattle.rfb_pixel.specs.declared.colour.Colour.{Colour}
use Rattle.rfb_picture.specs.Grid.{Grid, grid}
use Rattle.rfb_session.specs.declared.netpbm.fault.Flaw.{Flaw}
use Rattle.rfb_session.specs.declared.netpbm.fault.PixmapError.{PixmapError}
use Rattle.rfb_session.specs.declared.netpbm.fault.PixmapError.TheVariants.{Flaw as FlawError, Input, NoMemory}
use Rattle.rfb_session.specs.declared.netpbm.head.Sample.{Sample}
use Rattle.rfb_session.specs.declared.netpbm.Pixmap.{Pixmap}
use Rattle.rfb_session.specs.netpbm.File.{FailsToSpell, HasFlaw, Spells, SpellsKnown, front_of, picture_of, tail_of}
use Rattle.rfb_session.specs.netpbm.Head.{HasHeadFlaw, IsHead}
use Rattle.rfb_session.specs.netpbm.Places.{ArePlaces, HasPlacesFlaw}
use Rattle.rfb_session.specs.netpbm.PlacesRead.{FailsToFill}
use Rattle.rfb_session.proofs.NetpbmHeadLemmas.{head_once, no_head_flaw}

-- ---- the front that is read at once

front_by : (xs ys : List ℕ) → length xs ≡ 8192 → (front_of (xs ++ ys) ≡ xs) × (tail_of (xs ++ ys) ≡ ys)
front_by xs ys size = (
  subst (λ (n : ℕ). take n (xs ++ ys) ≡ xs) size (take-append_seam xs ys),
  subst (λ (n : ℕ). drop n (xs ++ ys) ≡ ys) size (drop-append_seam xs ys),
)

front_all : (xs : List ℕ) → length xs < 8192 → (front_of xs ≡ xs) × (tail_of xs ≡ [])
front_all xs short =
    let few : length xs ≤ 8192 = omega arith in
    (take_all 8192 xs few, drop_of_length-le xs few)

pub front_is : (front rest bytes : List ℕ) → bytes ≡ front ++ rest → length front ≤ 8192 →
    (length front < 8192 → rest ≡ []) →
    (front_of bytes ≡ front) × (tail_of bytes ≡ rest)
front_is front rest bytes is few end =
    elim (cases_lt (length front) 8192) [
      | inl short ↦
          let none = end short in
          let whole = is ∙ ap (λ (l : List ℕ). front ++ l) none ∙ append-nil front in
          let p = front_all front short in
          (ap front_of whole ∙ p.0, ap tail_of whole ∙ p.1 ∙ sym none)
      | inr long ↦
          let p = front_by front rest (omega arith) in
          (ap front_of is ∙ p.0, ap tail_of is ∙ p.1)
    ]

-- ---- what was read

-- the front of what is read: at most 8,192 bytes, and fewer only where it ends
pub record IsFront (old mid : Option (List ℕ)) (front : List ℕ) : Type 0 where
  pub came : Consumes old mid front
  pub few : length front ≤ 8192
  pub end : length front < 8192 → IsAtEnd mid

-- it is what was put first into a buffer
pub first_in : (old mid : Option (List ℕ)) (buffer : List ℕ) (n : ℕ) → length buffer ≤ 8192 →
    n ≤ length buffer → Consumes old mid (take n buffer) → (n < 8192 → IsAtEnd mid) →
    IsFront old mid (take n buffer)
first_in old mid buffer n size within came end = record {
  came = came;
  few = omega (arith, length-take n buffer);
  end = λ short. end (omega (arith, length-take n buffer, short));
}

pub head_flaw_read : (old mid : Option (List ℕ)) (front : List ℕ) (flaw : Flaw) →
    IsFront old mid front → HasHeadFlaw front flaw → FailsToSpell old (FlawError flaw)
head_flaw_read None mid front flaw read bad = tt
head_flaw_read (Some bytes) None front flaw read bad = absurd read.came
head_flaw_read (Some bytes) (Some rest) front flaw read bad =
    let p = front_is front rest bytes read.came read.few read.end in
    inl (subst (λ (l : List ℕ). HasHeadFlaw l flaw) (sym p.0) bad)

pub spells_read : (old mid : Option (List ℕ)) (front rest : List ℕ) (w h : ℕ) (s : Sample) (places : List Colour) →
    IsFront old mid front → IsHead front w h s rest →
    IfSome (option_append (Some rest) mid) (λ bytes. ArePlaces s (h * w) bytes places) →
    SpellsKnown old (grid w h places)
spells_read None mid front rest w h s places read head are = tt
spells_read (Some bytes) None front rest w h s places read head are = absurd read.came
spells_read (Some bytes) (Some more) front rest w h s places read head are =
    let p = front_is front more bytes read.came read.few read.end in
    record {
      sample = s;
      rest = rest;
      is_head = subst (λ (l : List ℕ). IsHead l w h s rest) (sym p.0) head;
      are_places = subst (λ (l : List ℕ). ArePlaces s (h * w) (rest ++ l) places) (sym p.1) are;
    }

pub places_flaw_read : (old mid : Option (List ℕ)) (front rest : List ℕ) (w h : ℕ) (s : Sample) (error : PixmapError) →
    IsFront old mid front → IsHead front w h s rest →
    FailsToFill s (h * w) (option_append (Some rest) mid) error → FailsToSpell old error
places_flaw_read None mid front rest w h s error read head fails = tt
places_flaw_read (Some bytes) None front rest w h s error read head fails = absurd read.came
places_flaw_read (Some bytes) (Some more) front rest w h s (Input input) read head fails = tt
places_flaw_read (Some bytes) (Some more) front rest w h s NoMemory read head fails = tt
places_flaw_read (Some bytes) (Some more) front rest w h s (FlawError flaw) read head fails =
    let p = front_is front more bytes read.came read.few read.end in
    inr (
      w,
      h,
      s,
      rest,
      subst (λ (l : List ℕ). IsHead l w h s rest) (sym p.0) head,
      subst (λ (l : List ℕ). HasPlacesFlaw s (h * w) (rest ++ l) flaw) (sym p.1) fails,
    )

pub input_read : (old : Option (List ℕ)) (error : PixmapError) →
    ((flaw : Flaw) → ¬ (error ≡ FlawError flaw)) → FailsToSpell old error
input_read None error other = tt
input_read (Some bytes) (FlawError flaw) other = absurd (other flaw refl)
input_read (Some bytes) (Input input) other = tt
input_read (Some bytes) NoMemory other = tt

-- ---- both ways

same_grid : (w h v g : ℕ) (xs ys : List Colour) → w ≡ v → h ≡ g → xs ≡ ys → grid w h xs ≡ grid v g ys
same_grid w h v g xs ys a b c = cc

-- a file spells one picture
pub spells_once : (bytes : List ℕ) (one other : Grid Colour) → Spells bytes one → Spells bytes other → one ≡ other
spells_once bytes one other p q =
    let same = head_once (front_of bytes) one.width one.height p.sample p.rest other.width other.height q.sample
    q.rest p.is_head q.is_head in
    let places : one.places ≡ other.places = p.are_places.1 ∙ rw (same.sample, same.places) (sym q.are_places.1) in
    same_grid one.width one.height other.width other.height one.places other.places same.width same.height places

no_places_flaw : (s : Sample) (n : ℕ) (bytes : List ℕ) (places : List Colour) (flaw : Flaw) →
    ArePlaces s n bytes places → HasPlacesFlaw s n bytes flaw → ⊥
no_places_flaw s n bytes places flaw are (inl short) = omega (arith, are.0, short.1)
no_places_flaw s n bytes places flaw are (inr long) = omega (arith, are.0, long.1)

-- what spells a picture has no flaw
pub spelled_whole : (bytes : List ℕ) (picture : Grid Colour) (flaw : Flaw) →
    Spells bytes picture → HasFlaw bytes flaw → ⊥
spelled_whole bytes picture flaw p (inl bad) =
    no_head_flaw (front_of bytes) picture.width picture.height p.sample p.rest flaw p.is_head bad
spelled_whole bytes picture flaw p (inr bad) =
    let same = head_once (front_of bytes) bad.0 bad.1 bad.2 bad.3 picture.width picture.height
    p.sample p.rest bad.4 p.is_head in
    let there : HasPlacesFlaw p.sample (picture.height * picture.width) (p.rest ++ tail_of bytes) flaw =
    rw (← same.sample, ← same.height, ← same.width, ← same.places) bad.5 in
    no_places_flaw p.sample (picture.height * picture.width) (p.rest ++ tail_of bytes)
    picture.places flaw p.are_places there

pub one_read : (r : Result Pixmap PixmapError) (old : Option (List ℕ)) (bytes : List ℕ) (picture : Grid Colour) →
    IfOk r (λ pixmap. SpellsKnown old (picture_of pixmap)) → old ≡ Some bytes → Spells bytes picture →
    IfOk r (λ pixmap. picture_of pixmap ≡ picture)
one_read (Err error) old bytes picture read known spells = tt
one_read (Ok pixmap) old bytes picture read known spells =
    spells_once bytes (picture_of pixmap) picture
    (subst (λ (o : Option (List ℕ)). SpellsKnown o (picture_of pixmap)) known read) spells

pub none_refused : (r : Result Pixmap PixmapError) (old : Option (List ℕ)) (bytes : List ℕ)
    (picture : Grid Colour) (flaw : Flaw) →
    IfErr r (FailsToSpell old) → old ≡ Some bytes → Spells bytes picture → ¬ (r ≡ Err (FlawError flaw))
none_refused r old bytes picture flaw fails known spells is =
    let there : FailsToSpell old (FlawError flaw) =
    subst (λ (s : Result Pixmap PixmapError). IfErr s (FailsToSpell old)) is fails in
    spelled_whole bytes picture flaw spells
    (subst (λ (o : Option (List ℕ)). FailsToSpell o (FlawError flaw)) known there)
