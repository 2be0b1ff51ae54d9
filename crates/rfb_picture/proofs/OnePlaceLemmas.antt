-- One place that is marked, and what a set says once one place was put into it.
use Rattle.std.proofs.Common.{ℕ, List, Bool, true, false, ◌≡◌, ◌+◌, ◌*◌, ◌/◌}
use Rattle.std.proofs.Common.{◌%◌, ◌^◌, ◌<◌, ◌||◌, min, max, refl, sym}
use Rattle.std.proofs.Common.{◌∙◌, arith, slice_index_or, slice_set, nat_eq}
use Rattle.std.proofs.Common.{bit_or, if◌then◌else◌, inl, inr, subst}
use Rattle.std.specs.Int.{w64}
use Rattle.std.proofs.lemmas.Bool.{cases_Bool, cases_eq}
use Rattle.std.proofs.lemmas.Bool.Decides.{nat_tests}
use Rattle.std.proofs.lemmas.Nat.{same_from_place, div-add-mod', mod_below}
use Rattle.std.proofs.lemmas.Nat.Bits.{bit_at_set_same, bit_at_set_other}
use Rattle.std.proofs.lemmas.List.{get_or-set_same, get_or-set_other}
use Rattle.rfb_picture.specs.declared.place_set.layers.Layers.{Layers}
use Rattle.rfb_picture.specs.Rect.{contains}
use Rattle.rfb_picture.specs.Grid.{filled}
use Rattle.rfb_picture.specs.Box.{is_in}
use Rattle.rfb_picture.specs.Places.{has_bit}
use Rattle.rfb_picture.specs.layout.Plane.{has_place, plane, IsPlane, MarksWithin}
use Rattle.rfb_picture.specs.layout.Cells.{one_cell, touched}
use Rattle.rfb_picture.specs.layout.PlaceSet.{in_set, layered, notes_of, with_marks, IsLayers, IsOpened}
use Rattle.rfb_picture.proofs.GridLemmas.{contains_true, width-changed, height-changed, whole-changed, at-filled}
use Rattle.rfb_picture.proofs.PlaneLemmas.{column_below, place_word_below}
use Rattle.rfb_picture.proofs.WordLemmas.{cases_place}
use Rattle.rfb_picture.proofs.TakenPlaneLemmas.{plane-each}
use Rattle.rfb_picture.proofs.SpanLemmas.{mark-changed}
use Rattle.rfb_picture.proofs.PlaceSetLemmas.{layered_is, at-layered, whole-layered}
use Rattle.rfb_picture.proofs.NotedLemmas.{sound-marked}
use Rattle.rfb_picture.proofs.OpenedLemmas.{layered-part}

-- ---- its bit

-- a word with one bit more
has_bit-more : (a k i : ℕ) →
    k < 64 →
    has_bit (bit_or a (1 * 2 ^ k % 2 ^ 64)) i ≡ (has_bit a i || nat_eq i k)
has_bit-more a k i low =
    elim (cases_eq i k) [
      | inl e ↦
          let some = bit_at_set_same w64 a k low in
          rw (e, some) (grind (arith, nat_tests))
      | inr other ↦
          let same = bit_at_set_other w64 a k low i other in
          rw same (grind (arith, nat_tests))
    ]

set_if : (b t : Bool) → (b || t) ≡ (if t then true else b)
set_if true true = refl
set_if true false = refl
set_if false true = refl
set_if false false = refl

-- a word with one place's bit
pub plane-one : (w h across : ℕ) (old : List ℕ) (x y : ℕ) →
    IsPlane w h across old →
    x < w →
    y < h →
    plane w h across
    (slice_set old (y * across + x / 64)
    (bit_or (slice_index_or old (y * across + x / 64) 0) (1 * 2 ^ (x % 64) % 2 ^ 64)))
    ≡ filled (one_cell x y) true (plane w h across old)
plane-one w h across old x y sound p q =
    let index = y * across + x / 64 in
    let value = bit_or (slice_index_or old index 0) (1 * 2 ^ (x % 64) % 2 ^ 64) in
    let within = place_word_below w h across old x y sound p q in
    plane-each (λ i j was. if contains (one_cell x y) i j then true else was) w h across old
    (slice_set old index value)
    (λ i j a b.
    elim (cases_place (i / 64) (x / 64) j y) [
      | inl same ↦
          let e = same.0 in
          let f = same.1 in
          let there : j * across + i / 64 ≡ index = rw (e, f) refl in
          let low = mod_below x 64 (omega arith) in
          let here : has_place (slice_set old index value) across i j
          ≡ (has_place old across i j || nat_eq (i % 64) (x % 64)) =
          rw (
            there,
            get_or-set_same old index value 0 within,
            has_bit-more (slice_index_or old index 0) (x % 64) (i % 64) low,
          ) refl in
          let cell : contains (one_cell x y) i j ≡ nat_eq (i % 64) (x % 64) =
          grind (arith, nat_tests, div-add-mod' i 64, div-add-mod' x 64) in
          rw cell (here ∙ set_if (has_place old across i j) (nat_eq (i % 64) (x % 64)))
      | inr apart ↦
          let elsewhere : (j * across + i / 64 ≡ index) → ⊥ =
          λ e. let place =
          same_from_place j (i / 64) y (x / 64) across (column_below w h across old i sound a)
          (column_below w h across old x sound p) e in apart place.1 place.0 in
          let cell : contains (one_cell x y) i j ≡ false =
          elim (cases_Bool (contains (one_cell x y) i j)) [
            | inl e ↦ let (x0, x1, y0, y1) =
                contains_true (one_cell x y) i j e in absurd (apart (omega arith) (omega arith))
            | inr e ↦ e
          ] in
          rw (get_or-set_other old index (j * across + i / 64) value 0 elsewhere, cell) refl
    ])

-- the rows that have marks then
pub within-one : (w h across : ℕ) (old new : List ℕ) (first last x y : ℕ) →
    plane w h across new ≡ filled (one_cell x y) true (plane w h across old) →
    MarksWithin w h across old first last →
    MarksWithin w h across new (min first y) (max last (y + 1))
within-one w h across old new first last x y is within =
    λ i j p q e.
    let now = mark-changed (λ i j was. if contains (one_cell x y) i j then true else was) w h across
    old new is i j p q in
    elim (cases_Bool (contains (one_cell x y) i j)) [
      | inl c ↦ let (x0, x1, y0, y1) =
          contains_true (one_cell x y) i j c in (omega arith, omega arith)
      | inr c ↦
          let was : has_place old across i j ≡ true = sym (rw c at now) ∙ e in
          let (low, below) = within i j p q was in (omega arith, omega arith)
    ]

-- ---- the set

-- the cell of a place is the one that it touches
touched-one : (x y : ℕ) → touched (one_cell x y) ≡ one_cell (x / 64) (y / 64)
touched-one x y =
    let wide : (touched (one_cell x y)).w ≡ 1 = omega arith in
    let high : (touched (one_cell x y)).h ≡ 1 = omega arith in
    rw (wide, high) refl

-- its row is noted once
notes-one : (x y : ℕ) → notes_of (one_cell x y) ≡ one_cell y (x / 64)
notes-one x y =
    let high : (notes_of (one_cell x y)).h ≡ 1 = omega arith in
    rw high refl

-- and then its mark is noted
pub sound-one : (l : Layers) (x y : ℕ) → IsLayers l →
    IsLayers (record {
      places = filled (one_cell x y) true l.places;
      full = l.full;
      used = l.used;
      noted = filled (one_cell y (x / 64)) true l.noted;
    })
sound-one l x y sound =
    subst (λ r. IsLayers (record {
      places = filled (one_cell x y) true l.places;
      full = l.full;
      used = l.used;
      noted = filled r true l.noted;
    })) (notes-one x y) (sound-marked l (one_cell x y) sound)

-- with the mark of a place, in a cell that was opened
pub layered-one : (old new : Layers) (x y : ℕ) →
    IsLayers old →
    IsOpened (one_cell (x / 64) (y / 64)) old new →
    layered (with_marks (one_cell x y) new) ≡ filled (one_cell x y) true (layered old)
layered-one old new x y sound opens =
    layered-part old new (one_cell x y) sound (rw touched-one opens)

-- a place whose cell is in the set whole is in it
pub layered-same : (l : Layers) (x y : ℕ) →
    is_in l.full (x / 64) (y / 64) ≡ true →
    layered l ≡ filled (one_cell x y) true (layered l)
layered-same l x y full =
    layered_is l (filled (one_cell x y) true (layered l))
    (whole-changed _ (layered l) (whole-layered l))
    (width-changed _ (layered l))
    (height-changed _ (layered l))
    (λ i j d p q.
    let after = at-filled (one_cell x y) true (layered l) i j d (whole-layered l) p q in
    let was = at-layered l i j d p q in
    elim (cases_Bool (contains (one_cell x y) i j)) [
      | inl c ↦
          let (x0, x1, y0, y1) = contains_true (one_cell x y) i j c in
          let e : i ≡ x = omega arith in
          let f : j ≡ y = omega arith in
          let here : in_set l i j ≡ true = rw (e, f, full) refl in
          here ∙ sym (rw c at after)
      | inr c ↦ sym was ∙ sym (rw c at after)
    ])
