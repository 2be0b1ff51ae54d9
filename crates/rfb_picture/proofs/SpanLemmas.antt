-- The rows that the marks of a plane are in, after its marks changed.
use Rattle.std.proofs.Common.{ℕ, List, Bool, true, false, ◌≡◌, ◌*◌, ◌/◌, ◌<◌, ◌≤◌, ◌||◌, ◌∙◌, refl, sym, ap, arith}
use Rattle.std.proofs.Common.{length, inl, inr, if◌then◌else◌}
use Rattle.std.proofs.lemmas.Bool.{cases_Bool, cases_lt}
use Rattle.rfb_picture.specs.declared.rect.Rect.{Rect}
use Rattle.rfb_picture.specs.Rect.{contains}
use Rattle.rfb_picture.specs.Grid.{changed, filled, at_or}
use Rattle.rfb_picture.specs.Box.{is_in}
use Rattle.rfb_picture.specs.layout.Marks.{AreRowsClear}
use Rattle.rfb_picture.specs.layout.Plane.{AreUnused, has_place, plane, IsPlane, IsSpanned, MarksWithin}
use Rattle.rfb_picture.proofs.GridLemmas.{at-changed}
use Rattle.rfb_picture.proofs.PlaneLemmas.{at-plane, whole-plane}
use Rattle.rfb_picture.proofs.NextCellLemmas.{rows_clear}

-- ---- marks that are taken away

-- what a change makes of a mark
pub mark-changed : (f : ℕ → ℕ → Bool → Bool) (w h across : ℕ) (old new : List ℕ) →
    plane w h across new ≡ changed f (plane w h across old) →
    (x y : ℕ) → x < w → y < h →
    has_place new across x y ≡ f x y (has_place old across x y)
mark-changed f w h across old new is x y p q =
    let now = at-plane w h across new x y false p q in
    let was = at-plane w h across old x y false p q in
    let there = at-changed f (plane w h across old) x y false (whole-plane w h across old) p q in
    sym now ∙ ap (λ g. at_or g x y false) is ∙ there ∙ ap (f x y) was

-- a change that adds no mark leaves them in these rows
pub within-less : (f : ℕ → ℕ → Bool → Bool) (w h across : ℕ) (old new : List ℕ) (first last : ℕ) →
    ((x y : ℕ) → f x y false ≡ false) →
    plane w h across new ≡ changed f (plane w h across old) →
    MarksWithin w h across old first last →
    MarksWithin w h across new first last
within-less f w h across old new first last less is within =
    λ x y p q e.
    let now = mark-changed f w h across old new is x y p q in
    elim (cases_Bool (has_place old across x y)) [
      | inl was ↦ within x y p q was
      | inr was ↦
          let none : has_place new across x y ≡ false = now ∙ ap (f x y) was ∙ less x y in
          let bad : true ≡ false = sym e ∙ none in
          absurd cc
    ]

unmarked : (b : Bool) → (if b then false else false) ≡ false
unmarked true = refl
unmarked false = refl

-- so does one that takes a rectangle's marks
pub within-cleared : (w h across : ℕ) (old new : List ℕ) (first last : ℕ) (rect : Rect) →
    plane w h across new ≡ filled rect false (plane w h across old) →
    MarksWithin w h across old first last →
    MarksWithin w h across new first last
within-cleared w h across old new first last rect is within =
    within-less (λ x y old. if contains rect x y then false else old) w h across old new first last
    (λ x y. unmarked (contains rect x y)) is within

-- ---- rows that are passed over

-- rows whose words have no bit are not among them
pub within-passed : (w h across : ℕ) (words : List ℕ) (first last n : ℕ) →
    IsPlane w h across words →
    n ≤ length words →
    AreUnused words words (first * across) n →
    MarksWithin w h across words first last →
    MarksWithin w h across words (n / across) last
within-passed w h across words first last n sound few none within =
    λ x y p q e.
    let (low, below) = within x y p q e in
    elim (cases_lt y (n / across)) [
      | inl passed ↦
          let clear = rows_clear w h across w h across words words first n sound sound refl refl few
          none x y p low passed in
          let here = at-plane w h across words x y false p q ∙ e in
          let bad : true ≡ false = rw here at clear in
          absurd cc
      | inr after ↦ (after, below)
    ]

-- where none is left, they are in any rows
pub within-none : (w h across : ℕ) (words : List ℕ) (first last n m : ℕ) →
    last ≤ first →
    MarksWithin w h across words first last →
    MarksWithin w h across words n m
within-none w h across words first last n m empty within =
    λ x y p q e.
    let (low, below) = within x y p q e in
    absurd (omega arith)

-- a row that the marks are not in has none
no_mark : (w h across : ℕ) (words : List ℕ) (first last x y : ℕ) →
    MarksWithin w h across words first last →
    x < w →
    y < h →
    (first ≤ y → y < last → ⊥) →
    is_in (plane w h across words) x y ≡ false
no_mark w h across words first last x y within p q out =
    let here = at-plane w h across words x y false p q in
    elim (cases_Bool (has_place words across x y)) [
      | inl e ↦ let (low, below) = within x y p q e in absurd (out low below)
      | inr e ↦ here ∙ e
    ]

-- rows above those of both, and rows whose words have no bit, are clear
pub rows_clear_within : (w h across ow oh oacross : ℕ) (words other : List ℕ)
    (first last second end y from n : ℕ) →
    IsSpanned w h across words first last →
    IsSpanned ow oh oacross other second end →
    w ≡ ow →
    h ≡ oh →
    n ≤ length words →
    from ≤ h →
    ((j : ℕ) → y ≤ j → j < from → (j < first) × (j < second)) →
    AreUnused words other (from * across) n →
    AreRowsClear
    (λ i j. is_in (plane w h across words) i j || is_in (plane ow oh oacross other) i j) w y
    (n / across)
rows_clear_within w h across ow oh oacross words other first last second end y from n sound
    sound_too wide tall few high before none =
    λ i j p q l.
    elim (cases_lt j from) [
      | inl passed ↦
          let (a, b) = before j q passed in
          let here = no_mark w h across words first last i j sound.within p (omega arith)
          (λ low _. omega arith) in
          let there = no_mark ow oh oacross other second end i j sound_too.within (rw (← wide) p)
          (rw (← tall) (omega arith)) (λ low _. omega arith) in
          rw (here, there) refl
      | inr after ↦
          rows_clear w h across ow oh oacross words other from n sound.sound sound_too.sound wide
          tall few none i j p after l
    ]

-- rows below those of both are clear
pub rows_clear_past : (w h across ow oh oacross : ℕ) (words other : List ℕ)
    (first last second end y : ℕ) →
    IsSpanned w h across words first last →
    IsSpanned ow oh oacross other second end →
    w ≡ ow →
    h ≡ oh →
    last ≤ y →
    end ≤ y →
    AreRowsClear
    (λ i j. is_in (plane w h across words) i j || is_in (plane ow oh oacross other) i j) w y h
rows_clear_past w h across ow oh oacross words other first last second end y sound sound_too wide
    tall a b =
    λ i j p q l.
    let here = no_mark w h across words first last i j sound.within p l (λ _ low. omega arith) in
    let there = no_mark ow oh oacross other second end i j sound_too.within (rw (← wide) p)
    (rw (← tall) l) (λ _ low. omega arith) in
    rw (here, there) refl
