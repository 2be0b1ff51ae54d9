-- The notes of rows in which a set may have marks, after places were marked or a cell was cleared.
use Rattle.std.proofs.Common.{ℕ, Bool, true, false, ◌≡◌, ◌+◌, ◌-◌, ◌*◌, ◌/◌}
use Rattle.std.proofs.Common.{◌%◌, ◌^◌, ◌<◌, ◌&&◌, not, refl, sym, ◌∙◌}
use Rattle.std.proofs.Common.{arith, bit_and, if◌then◌else◌, inl, inr, min, nat_eq, nat_le, nat_lt}
use Rattle.std.specs.Int.{w64, bit_not}
use Rattle.std.proofs.lemmas.Bool.{cases_Bool, cases_eq, both_ways, and_parts, false≢true}
use Rattle.std.proofs.lemmas.Bool.Decides.{nat_tests}
use Rattle.std.proofs.lemmas.Nat.{and_le_l}
use Rattle.std.proofs.lemmas.List.{get_or_default}
use Rattle.std.proofs.lemmas.Nat.Bits.{bit_at-zero}
use Rattle.rfb_picture.specs.declared.rect.Rect.{Rect}
use Rattle.rfb_picture.specs.declared.place_set.layers.Layers.{Layers}
use Rattle.rfb_picture.specs.Rect.{contains}
use Rattle.rfb_picture.specs.Grid.{Grid, IsGrid, at_or, filled}
use Rattle.rfb_picture.specs.Box.{is_in}
use Rattle.rfb_picture.specs.Places.{has_bit, HasBitsBetween}
use Rattle.rfb_picture.specs.layout.Cells.{cell_at, touched, word_places}
use Rattle.rfb_picture.specs.layout.PlaceSet.{notes_of, with_marks, without_marks, IsLayers}
use Rattle.rfb_picture.proofs.GridLemmas.{contains_true, contains_row, width-changed, height-changed, whole-changed}
use Rattle.rfb_picture.proofs.GridLemmas.{at-filled, place_below, same_grid}
use Rattle.rfb_picture.proofs.TakenWordLemmas.{and_true, has_bit-less}
use Rattle.rfb_picture.proofs.PlaceSetLemmas.{cell_below, same_sizes}

-- ---- notes of places

-- the cell of a place of a rectangle is one of those that it touches
pub touched_cell : (r : Rect) (x y : ℕ) → contains r x y ≡ true →
    contains (touched r) (x / 64) (y / 64) ≡ true
touched_cell r x y c =
    let (x0, x1, y0, y1) = contains_true r x y c in
    contains_row (touched r) (x / 64) (y / 64) (omega arith) (omega arith) (omega arith)
    (omega arith)

-- and its row is one of those that are noted for it
note_of : (r : Rect) (x y : ℕ) → contains r x y ≡ true →
    contains (notes_of r) y (x / 64) ≡ true
note_of r x y c =
    let (x0, x1, y0, y1) = contains_true r x y c in
    contains_row (notes_of r) y (x / 64) (omega arith) (omega arith) (omega arith) (omega arith)

-- the note of a place is one
pub note_below : (l : Layers) (x y : ℕ) → IsLayers l → x < l.places.width → y < l.places.height →
    (y < l.noted.width) × (x / 64 < l.noted.height)
note_below l x y sound p q =
    (rw sound.noted_wide q, cell_below x l.places.width l.noted.height sound.noted_high p)

still_noted : (b f : Bool) → f ≡ true → (if b then true else f) ≡ true
still_noted true f e = refl
still_noted false f e = e

-- marks of a rectangle's places are noted with them
pub sound-marked : (l : Layers) (r : Rect) → IsLayers l → IsLayers (with_marks r l)
sound-marked l r sound =
    same_sizes l (with_marks r l) sound (width-changed _ l.places) (height-changed _ l.places) refl
    refl refl refl (width-changed _ l.noted) (height-changed _ l.noted)
    (whole-changed _ l.places sound.all_places) sound.all_full sound.all_used
    (whole-changed _ l.noted sound.all_noted)
    (λ x y p0 q0 e.
    let p : x < l.places.width = rw width-changed at p0 in
    let q : y < l.places.height = rw height-changed at q0 in
    let (a, b) = note_below l x y sound p q in
    let there = at-filled r true l.places x y false sound.all_places p q in
    let note = at-filled (notes_of r) true l.noted y (x / 64) false sound.all_noted a b in
    elim (cases_Bool (contains r x y)) [
      | inl c ↦ rw (note, note_of r x y c) refl
      | inr c ↦
          let was : is_in l.places x y ≡ true = sym (rw c at there) ∙ e in
          rw note (still_noted (contains (notes_of r) y (x / 64)) (is_in l.noted y (x / 64))
          (sound.marks_noted x y p q was))
    ])

-- a cell with no mark needs no note
pub sound-cleared : (l : Layers) (column row : ℕ) → IsLayers l →
    IsLayers (without_marks column row l)
sound-cleared l column row sound =
    same_sizes l (without_marks column row l) sound (width-changed _ l.places)
    (height-changed _ l.places) refl refl refl refl (width-changed _ l.noted)
    (height-changed _ l.noted) (whole-changed _ l.places sound.all_places) sound.all_full
    sound.all_used (whole-changed _ l.noted sound.all_noted)
    (λ x y p0 q0 e.
    let p : x < l.places.width = rw width-changed at p0 in
    let q : y < l.places.height = rw height-changed at q0 in
    let (a, b) = note_below l x y sound p q in
    let there = at-filled (cell_at column row) false l.places x y false sound.all_places p q in
    let note = at-filled (word_places row column) false l.noted y (x / 64) false sound.all_noted a b in
    let same : contains (word_places row column) y (x / 64) ≡ contains (cell_at column row) x y =
    grind (arith, nat_tests) in
    elim (cases_Bool (contains (cell_at column row) x y)) [
      | inl c ↦ absurd (both_ways _ (rw c at there) e)
      | inr c ↦
          let was : is_in l.places x y ≡ true = sym (rw c at there) ∙ e in
          rw (note, same, c) (sound.marks_noted x y p q was)
    ])

-- ---- a cell that is cleared row by row

-- a word without one of its bits is less
pub less_left : (n k : ℕ) → k < 64 → has_bit n k ≡ true →
    bit_and n (bit_not w64 (1 * 2 ^ k % 2 ^ 64)) < n
less_left n k small set =
    elim (cases_eq (bit_and n (bit_not w64 (1 * 2 ^ k % 2 ^ 64))) n) [
      | inl e ↦
          let gone = rw e at (has_bit-less n k k small small) in
          let never : has_bit n k ≡ false = gone ∙ grind (arith, nat_tests) in
          absurd (both_ways (has_bit n k) never set)
      | inr other ↦
          let most = and_le_l n (bit_not w64 (1 * 2 ^ k % 2 ^ 64)) in omega (arith, most, other)
    ]

-- the cell's places in rows whose bits are not left have no mark, and the others what they had
pub record AreCleared (column row left : ℕ) (old new : Layers) : Type 0 where
  pub low : (i : ℕ) → i < 64 → has_bit left i ≡ true → row * 64 + i < old.places.height
  pub wide : new.places.width ≡ old.places.width
  pub high : new.places.height ≡ old.places.height
  pub whole : IsGrid new.places
  pub same_full : new.full ≡ old.full
  pub same_used : new.used ≡ old.used
  pub same_noted : new.noted ≡ old.noted
  pub each : (x y : ℕ) → x < old.places.width → y < old.places.height →
      is_in new.places x y
      ≡ (if contains (cell_at column row) x y && not (has_bit left (y - row * 64)) then false
      else is_in old.places x y)

-- at first rows that are noted are left
pub clearing_begins : (column row bottom left : ℕ) (l : Layers) →
    IsLayers l →
    bottom ≡ min (row * 64 + 64) l.places.height →
    HasBitsBetween (is_in l.noted) column (row * 64) bottom left →
    AreCleared column row left l l
clearing_begins column row bottom left l sound end notes = record {
  low = λ i p set.
      let place : row * 64 / 64 * 64 + i ≡ row * 64 + i = omega arith in
      let note = rw place at (notes i p) in
      let both : ((nat_le (row * 64) (row * 64 + i) && nat_lt (row * 64 + i) bottom)
      && is_in l.noted (row * 64 + i) column) ≡ true = sym note ∙ set in
      let below : row * 64 + i < bottom = grind (arith, nat_tests) in
      omega (arith, end, below);
  wide = refl;
  high = refl;
  whole = sound.all_places;
  same_full = refl;
  same_used = refl;
  same_noted = refl;
  each = λ x y p q.
      elim (cases_Bool (contains (cell_at column row) x y && not (has_bit left (y - row * 64)))) [
        | inl c ↦ elim (cases_Bool (is_in l.places x y)) [
          | inl marked ↦
              let (inside, off) = and_parts (contains (cell_at column row) x y)
              (not (has_bit left (y - row * 64))) c in
              let (x0, x1, y0, y1) = contains_true (cell_at column row) x y inside in
              let place : row * 64 / 64 * 64 + (y - row * 64) ≡ y = omega arith in
              let note = rw place at (notes (y - row * 64) (omega arith)) in
              let cell : x / 64 ≡ column = omega arith in
              let noted : is_in l.noted y column ≡ true =
              rw cell at (sound.marks_noted x y p q marked) in
              let test : (nat_le (row * 64) y && nat_lt y bottom) ≡ true =
              grind (arith, nat_tests, end) in
              let set : has_bit left (y - row * 64) ≡ true = note ∙ (rw (test, noted) refl) in
              let never : false ≡ true = rw set at off in
              absurd (false≢true never)
          | inr none ↦ rw (c, none) refl
        ]
        | inr c ↦ rw c refl
      ];
}

one_row_less : (c b e w : Bool) (was : Bool) →
    w ≡ (c && e) →
    (if w then false else (if c && not b then false else was))
    ≡ (if c && not (b && not e) then false else was)
one_row_less true true true w was is = rw is refl
one_row_less true true false w was is = rw is refl
one_row_less true false true w was is = rw is refl
one_row_less true false false w was is = rw is refl
one_row_less false b e w was is = rw is refl

-- then one row less
pub clearing_more : (column row left bit : ℕ) (old mid : Layers) →
    bit < 64 →
    AreCleared column row left old mid →
    AreCleared column row (bit_and left (bit_not w64 (1 * 2 ^ bit % 2 ^ 64))) old
    (record {
      places = filled (word_places column (row * 64 + bit)) false mid.places;
      full = mid.full;
      used = mid.used;
      noted = mid.noted;
    })
clearing_more column row left bit old mid small so_far = record {
  low = λ i p set.
      let both : (has_bit left i && not (nat_eq i bit)) ≡ true =
      sym (has_bit-less left bit i small p) ∙ set in
      so_far.low i p (and_parts (has_bit left i) (not (nat_eq i bit)) both).0;
  wide = width-changed _ mid.places ∙ so_far.wide;
  high = height-changed _ mid.places ∙ so_far.high;
  whole = whole-changed _ mid.places so_far.whole;
  same_full = so_far.same_full;
  same_used = so_far.same_used;
  same_noted = so_far.same_noted;
  each = λ x y p q.
      let there = at-filled (word_places column (row * 64 + bit)) false mid.places x y false
      so_far.whole (rw so_far.wide p) (rw so_far.high q) in
      elim (cases_Bool (contains (cell_at column row) x y)) [
        | inl c ↦
            let (x0, x1, y0, y1) = contains_true (cell_at column row) x y c in
            let less = has_bit-less left bit (y - row * 64) small (omega arith) in
            let word : contains (word_places column (row * 64 + bit)) x y
            ≡ (contains (cell_at column row) x y && nat_eq (y - row * 64) bit) =
            grind (arith, nat_tests) in
            rw (there, so_far.each x y p q, less)
            (one_row_less (contains (cell_at column row) x y) (has_bit left (y - row * 64))
            (nat_eq (y - row * 64) bit) (contains (word_places column (row * 64 + bit)) x y)
            (is_in old.places x y) word)
        | inr c ↦
            let word : contains (word_places column (row * 64 + bit)) x y ≡ false =
            grind (arith, nat_tests) in
            rw (there, word, c) (rw c at (so_far.each x y p q))
      ];
}

-- a place has one mark, whatever there would be beyond the last
pub any_default : (g : Grid Bool) (x y : ℕ) (d : Bool) →
    IsGrid g → x < g.width → y < g.height → at_or g x y d ≡ is_in g x y
any_default g x y d whole p q =
    get_or_default g.places (y * g.width + x) d false
    (rw whole (place_below g.width g.height x y p q))

-- where none is left, the cell has no mark
pub clearing_ends : (column row : ℕ) (old mid : Layers) →
    IsLayers old →
    AreCleared column row 0 old mid →
    mid.places ≡ filled (cell_at column row) false old.places
clearing_ends column row old mid sound cleared =
    same_grid mid.places (filled (cell_at column row) false old.places) cleared.whole
    (whole-changed _ old.places sound.all_places)
    (cleared.wide ∙ sym (width-changed _ old.places))
    (cleared.high ∙ sym (height-changed _ old.places))
    (λ x y d p0 q0.
    let p : x < old.places.width = rw cleared.wide at p0 in
    let q : y < old.places.height = rw cleared.high at q0 in
    let new = filled (cell_at column row) false old.places in
    let wide : x < new.width = rw width-changed p in
    let high : y < new.height = rw height-changed q in
    let after = at-filled (cell_at column row) false old.places x y false sound.all_places p q in
    let none : has_bit 0 (y - row * 64) ≡ false = rw bit_at-zero refl in
    let here = rw (none, and_true) at (cleared.each x y p q) in
    any_default mid.places x y d cleared.whole p0 q0
    ∙ (here ∙ (sym after
    ∙ sym (any_default new x y d (whole-changed _ old.places sound.all_places) wide high))))
