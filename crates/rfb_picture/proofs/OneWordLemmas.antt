-- One word of a plane: its marks as bits, and what the plane says once they were taken away.
use Rattle.std.proofs.Common.{ℕ, List, Bool, true, false, ◌≡◌, ◌+◌, ◌*◌}
use Rattle.std.proofs.Common.{◌/◌, ◌<◌, ◌≤◌, ◌&&◌, refl, sym, ◌∙◌, arith}
use Rattle.std.proofs.Common.{slice_index_or, slice_set, bit_and, if◌then◌else◌, inl, inr, nat_le, nat_lt}
use Rattle.std.proofs.lemmas.Bool.{cases_Bool}
use Rattle.std.proofs.lemmas.Bool.Decides.{nat_tests}
use Rattle.std.proofs.lemmas.Nat.{same_from_place}
use Rattle.std.proofs.lemmas.Nat.Bits.{bit_at-zero}
use Rattle.std.proofs.lemmas.List.{get_or-set_same, get_or-set_other}
use Rattle.rfb_picture.specs.Rect.{contains}
use Rattle.rfb_picture.specs.Grid.{filled}
use Rattle.rfb_picture.specs.Box.{is_in}
use Rattle.rfb_picture.specs.Places.{has_bit}
use Rattle.rfb_picture.specs.layout.Plane.{has_place, plane, IsPlane}
use Rattle.rfb_picture.specs.layout.Cells.{word_places}
use Rattle.rfb_picture.proofs.GridLemmas.{contains_true}
use Rattle.rfb_picture.proofs.PlaneLemmas.{at-plane, column_below, word_below}
use Rattle.rfb_picture.proofs.WordLemmas.{cases_place, has_bit-and}
use Rattle.rfb_picture.proofs.TakenWordLemmas.{bit_of_place}
use Rattle.rfb_picture.proofs.TakenPlaneLemmas.{plane-each}

-- the marks of a word's places from one column up to another
pub bits_between-plane : (w h across : ℕ) (words : List ℕ) (y from to i mask : ℕ) →
    y < h →
    to ≤ w →
    i < 64 →
    has_bit mask i ≡ (nat_le from (from / 64 * 64 + i) && nat_lt (from / 64 * 64 + i) to) →
    has_bit (bit_and (slice_index_or words (y * across + from / 64) 0) mask) i
    ≡ ((nat_le from (from / 64 * 64 + i) && nat_lt (from / 64 * 64 + i) to)
    && is_in (plane w h across words) (from / 64 * 64 + i) y)
bits_between-plane w h across words y from to i mask q room l is =
    let x = from / 64 * 64 + i in
    elim (cases_Bool (nat_le from x && nat_lt x to)) [
      | inl e ↦
          let within : x < w = grind (arith, nat_tests) in
          let there = at-plane w h across words x y false within q in
          let bit = bit_of_place words across (from / 64) i y l in
          let set = is ∙ e in
          rw (has_bit-and, e, there, set, and_on) (sym bit)
      | inr e ↦
          let off = is ∙ e in
          rw (has_bit-and, e, off, and_off) refl
    ]
  where
    and_on : (b : Bool) → (b && true) ≡ b
    and_on true = refl
    and_on false = refl

    and_off : (b : Bool) → (b && false) ≡ false
    and_off true = refl
    and_off false = refl

-- without a word's bits, its places are not marked
pub plane-word_cleared : (w h across : ℕ) (old : List ℕ) (column y : ℕ) →
    IsPlane w h across old →
    column * 64 < w →
    y < h →
    plane w h across (slice_set old (y * across + column) 0)
    ≡ filled (word_places column y) false (plane w h across old)
plane-word_cleared w h across old column y sound p q =
    let index = y * across + column in
    let room = sound.room in
    let below : column < across = omega (arith, room) in
    let within = word_below w h across old column y sound below q in
    plane-each (λ i j was. if contains (word_places column y) i j then false else was) w h across old
    (slice_set old index 0)
    (λ i j a b.
    elim (cases_place (i / 64) column j y) [
      | inl same ↦
          let e = same.0 in
          let f = same.1 in
          let there : j * across + i / 64 ≡ index = rw (e, f) refl in
          let here : has_place (slice_set old index 0) across i j ≡ false =
          rw (there, get_or-set_same old index 0 0 within, bit_at-zero) refl in
          let cell : contains (word_places column y) i j ≡ true = grind (arith, nat_tests) in
          rw cell here
      | inr apart ↦
          let elsewhere : (j * across + i / 64 ≡ index) → ⊥ =
          λ e. let place =
          same_from_place j (i / 64) y column across (column_below w h across old i sound a) below e in
          apart place.1 place.0 in
          let cell : contains (word_places column y) i j ≡ false =
          elim (cases_Bool (contains (word_places column y) i j)) [
            | inl e ↦ let (x0, x1, y0, y1) =
                contains_true (word_places column y) i j e in absurd (apart (omega arith) (omega arith))
            | inr e ↦ e
          ] in
          rw (get_or-set_other old index (j * across + i / 64) 0 0 elsewhere, cell) refl
    ])
