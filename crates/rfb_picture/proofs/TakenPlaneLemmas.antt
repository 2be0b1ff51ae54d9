-- What marks say of places after some were taken away, of a whole rectangle, and of a row.
use Rattle.std.proofs.Common.{ℕ, List, Bool, true, false, ◌≡◌, ◌+◌, ◌*◌, ◌/◌, ◌%◌, ◌^◌, ◌<◌, ◌&&◌, not, min, refl, sym}
use Rattle.std.proofs.Common.{◌∙◌, arith, slice_index_or, slice_set, nat_eq, nat_le, nat_lt, bit_and, if◌then◌else◌}
use Rattle.std.proofs.Common.{inl, inr}
use Rattle.std.specs.Int.{w64, bit_not}
use Rattle.std.proofs.lemmas.Bool.{cases_Bool}
use Rattle.std.proofs.lemmas.Bool.Decides.{nat_tests}
use Rattle.std.proofs.lemmas.Nat.{same_from_place, div-add-mod', mod_below}
use Rattle.std.proofs.lemmas.List.{get_or-set_same, get_or-set_other}
use Rattle.rfb_picture.specs.declared.rect.Rect.{Rect}
use Rattle.rfb_picture.specs.Rect.{contains}
use Rattle.rfb_picture.specs.Grid.{Holds, changed, filled}
use Rattle.rfb_picture.specs.Box.{is_in}
use Rattle.rfb_picture.specs.Places.{has_bit, AllMarked, without, NoneInRow}
use Rattle.rfb_picture.specs.layout.Plane.{has_at, has_place, plane, IsPlane, MarksWithin}
use Rattle.rfb_picture.specs.layout.Marks.{without_in, IsNext}
use Rattle.rfb_picture.specs.layout.Cells.{cell_at, one_cell}
use Rattle.rfb_picture.proofs.GridLemmas.{contains_true, at-changed, width-changed, height-changed, whole-changed}
use Rattle.rfb_picture.proofs.PlaneLemmas.{plane_is, whole-plane, at-plane, column_below, place_word_below, same_across}
use Rattle.rfb_picture.proofs.WordLemmas.{has_bit-and, cases_place}
use Rattle.rfb_picture.proofs.TakenWordLemmas.{has_bit-less, bit_of_place}

-- words that say of each place what a change makes of what others say of it make the changed set
pub plane-each : (f : ℕ → ℕ → Bool → Bool) (w h across : ℕ) (old new : List ℕ) →
    ((x y : ℕ) → x < w → y < h → has_place new across x y ≡ f x y (has_place old across x y)) →
    plane w h across new ≡ changed f (plane w h across old)
plane-each f w h across old new each =
    plane_is w h across new (changed f (plane w h across old))
    (whole-changed f (plane w h across old) (whole-plane w h across old))
    (width-changed f (plane w h across old))
    (height-changed f (plane w h across old))
    (λ x y d p q.
    let there = at-changed f (plane w h across old) x y d (whole-plane w h across old) p q in
    let was = at-plane w h across old x y d p q in
    each x y p q ∙ (rw (← was) (sym there)))

-- ---- without one place

unset : (t b : Bool) → (b && not t) ≡ (if t then false else b)
unset true true = refl
unset true false = refl
unset false true = refl
unset false false = refl

-- a word without one place's bit
pub plane-removed : (w h across : ℕ) (old : List ℕ) (x y : ℕ) →
    IsPlane w h across old →
    x < w →
    y < h →
    plane w h across
    (slice_set old (y * across + x / 64)
    (bit_and (slice_index_or old (y * across + x / 64) 0)
    (bit_not w64 (1 * 2 ^ (x % 64) % 2 ^ 64))))
    ≡ filled (one_cell x y) false (plane w h across old)
plane-removed w h across old x y sound p q =
    let index = y * across + x / 64 in
    let value = bit_and (slice_index_or old index 0) (bit_not w64 (1 * 2 ^ (x % 64) % 2 ^ 64)) in
    let within = place_word_below w h across old x y sound p q in
    plane-each (λ i j was. if contains (one_cell x y) i j then false else was) w h across old
    (slice_set old index value)
    (λ i j a b.
    elim (cases_place (i / 64) (x / 64) j y) [
      | inl same ↦
          let e = same.0 in
          let f = same.1 in
          let there : j * across + i / 64 ≡ index = rw (e, f) refl in
          let low = mod_below x 64 (omega arith) in
          let low_too = mod_below i 64 (omega arith) in
          let here : has_place (slice_set old index value) across i j
          ≡ (has_place old across i j && not (nat_eq (i % 64) (x % 64))) =
          rw (
            there,
            get_or-set_same old index value 0 within,
            has_bit-less (slice_index_or old index 0) (x % 64) (i % 64) low low_too,
          ) refl in
          let cell : contains (one_cell x y) i j ≡ nat_eq (i % 64) (x % 64) =
          grind (arith, nat_tests, div-add-mod' i 64, div-add-mod' x 64) in
          rw cell (here ∙ unset (nat_eq (i % 64) (x % 64)) (has_place old across i j))
      | inr apart ↦
          let elsewhere : (j * across + i / 64 ≡ index) → ⊥ =
          λ e. let place =
          same_from_place j (i / 64) y (x / 64) across (column_below w h across old i sound a)
          (column_below w h across old x sound p) e in apart place.1 place.0 in
          let cell : contains (one_cell x y) i j ≡ false =
          elim (cases_Bool (contains (one_cell x y) i j)) [
            | inl e ↦ let (x0, x1, y0, y1) =
                contains_true (one_cell x y) i j e in absurd (apart (omega arith) (omega arith))
            | inr e ↦ e
          ] in
          rw (get_or-set_other old index (j * across + i / 64) value 0 elsewhere, cell) refl
    ])

-- ---- without another set's places

-- words without the bits of others, of a set of one size, in the rows that had marks
pub plane-taken : (w h across ow oh oacross first last : ℕ) (old new other : List ℕ) →
    IsPlane w h across old →
    IsPlane ow oh oacross other →
    w ≡ ow →
    h ≡ oh →
    MarksWithin w h across old first last →
    ((k y i : ℕ) → k < across → i < 64 →
    has_at new across y k i
    ≡ (has_at old across y k i
    && not ((nat_le first y && nat_lt y last) && has_at other across y k i))) →
    plane w h across new ≡ without (plane ow oh oacross other) (plane w h across old)
plane-taken w h across ow oh oacross first last old new other sound sound_too wide high within each =
    let same = same_across w h across old oh oacross other sound (rw wide sound_too) in
    plane-each (λ x y was. was && not (is_in (plane ow oh oacross other) x y)) w h across old new
    (λ x y p q.
    let there = at-plane ow oh oacross other x y false (rw (← wide) p) (rw (← high) q) in
    let here = each (x / 64) y (x % 64) (column_below w h across old x sound p)
    (mod_below x 64 (omega arith)) in
    elim (cases_Bool (has_at old across y (x / 64) (x % 64))) [
      | inl e ↦
          let (low, below) = within x y p q e in
          let test : (nat_le first y && nat_lt y last) ≡ true = grind (arith, nat_tests) in
          rw (there, ← same) (rw test at here)
      | inr e ↦ rw e (rw e at here)
    ])

-- and of a cell of it alone
pub plane-cell_taken : (w h across ow oh oacross column row bottom : ℕ) (old new other : List ℕ) →
    IsPlane w h across old →
    IsPlane ow oh oacross other →
    w ≡ ow →
    h ≡ oh →
    bottom ≡ min (row * 64 + 64) h →
    ((k y i : ℕ) → k < across → i < 64 →
    has_at new across y k i
    ≡ (has_at old across y k i
    && not ((nat_eq k column && (nat_le (row * 64) y && nat_lt y bottom))
    && has_at other across y k i))) →
    plane w h across new
    ≡ without_in (cell_at column row) (plane ow oh oacross other) (plane w h across old)
plane-cell_taken w h across ow oh oacross column row bottom old new other sound sound_too wide high
    low each =
    let same = same_across w h across old oh oacross other sound (rw wide sound_too) in
    plane-each (λ x y was. was
    && not (contains (cell_at column row) x y && is_in (plane ow oh oacross other) x y)) w h
    across old new
    (λ x y p q.
    let there = at-plane ow oh oacross other x y false (rw (← wide) p) (rw (← high) q) in
    let here = each (x / 64) y (x % 64) (column_below w h across old x sound p)
    (mod_below x 64 (omega arith)) in
    let cell : (nat_eq (x / 64) column && (nat_le (row * 64) y && nat_lt y bottom))
    ≡ contains (cell_at column row) x y = grind (arith, nat_tests) in
    rw (there, ← same) (rw cell at here))

-- ---- a whole rectangle, a row

-- the rectangle's places are marked where their bits are set
pub all-plane : (w h across : ℕ) (words : List ℕ) (r : Rect) →
    Holds (plane w h across words) r →
    AllMarked (has_place words across) r →
    AllMarked (is_in (plane w h across words)) r
all-plane w h across words r room all =
    λ x y inside.
    let (x0, x1, y0, y1) = contains_true r x y inside in
    at-plane w h across words x y false (omega (arith, room.0)) (omega (arith, room.1))
    ∙ all x y inside

pub all-words : (w h across : ℕ) (words : List ℕ) (r : Rect) →
    Holds (plane w h across words) r →
    AllMarked (is_in (plane w h across words)) r →
    AllMarked (has_place words across) r
all-words w h across words r room all =
    λ x y inside.
    let (x0, x1, y0, y1) = contains_true r x y inside in
    sym (at-plane w h across words x y false (omega (arith, room.0)) (omega (arith, room.1)))
    ∙ all x y inside

-- the marks of a word's places
pub row_bits-plane : (w h across : ℕ) (words : List ℕ) (x y i mask : ℕ) →
    x % 64 ≡ 0 →
    y < h →
    i < 64 →
    has_bit mask i ≡ (nat_le x (x / 64 * 64 + i) && nat_lt (x / 64 * 64 + i) w) →
    has_bit (bit_and (slice_index_or words (y * across + x / 64) 0) mask) i
    ≡ (nat_lt (x + i) w && is_in (plane w h across words) (x + i) y)
row_bits-plane w h across words x y i mask start q l is =
    let place : x / 64 * 64 + i ≡ x + i = omega (arith, div-add-mod' x 64) in
    let masked = rw place at is in
    elim (cases_Bool (nat_lt (x + i) w)) [
      | inl e ↦
          let within : x + i < w = grind (arith, nat_tests) in
          let there = at-plane w h across words (x + i) y false within q in
          let bit = bit_of_place words across (x / 64) i y l in
          let set : has_bit mask i ≡ true = masked ∙ grind (arith, nat_tests) in
          rw (has_bit-and, e, there, set, and_on) (sym (rw place at bit))
      | inr e ↦
          let off : has_bit mask i ≡ false = masked ∙ grind (arith, nat_tests) in
          rw (has_bit-and, e, off, and_off) refl
    ]
  where
    and_on : (b : Bool) → (b && true) ≡ b
    and_on true = refl
    and_on false = refl

    and_off : (b : Bool) → (b && false) ≡ false
    and_off true = refl
    and_off false = refl

-- the next place by the bits is the next marked one
pub next-plane : (w h across : ℕ) (words : List ℕ) (y from column : ℕ) →
    y < h → IsNext (has_place words across) y from w column →
    IsNext (is_in (plane w h across words)) y from w column
next-plane w h across words y from column q next = record {
  after = next.after;
  before = next.before;
  none = λ x p l. let less =
      next.before in at-plane w h across words x y false (omega arith) q ∙ next.none x p l;
  here = at-plane w h across words column y false next.before q ∙ next.here;
}

-- or there is none
pub none-plane : (w h across : ℕ) (words : List ℕ) (y from : ℕ) →
    y < h → NoneInRow (has_place words across) y from w →
    NoneInRow (is_in (plane w h across words)) y from w
none-plane w h across words y from q none =
    λ x p l. at-plane w h across words x y false l q ∙ none x p l
