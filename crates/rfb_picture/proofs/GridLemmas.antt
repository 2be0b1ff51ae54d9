-- Laws of grids, for this crate's proofs and those above it: which value is where after a change.
use Rattle.std.proofs.Common.{ℕ, zero, suc, List, [], ◌∷◌, ◌≡◌, ◌+◌, ◌-◌, ◌*◌, ◌/◌}
use Rattle.std.proofs.Common.{◌%◌, ◌<◌, ◌≤◌, length, get_or}
use Rattle.std.proofs.Common.{drop}
use Rattle.std.proofs.Common.{refl, ap, sym, ◌∙◌, arith, add-zero, zero-add, if◌then◌else◌, slice_index_or}
use Rattle.std.proofs.Common.{nat_le}
use Rattle.std.proofs.Common.{nat_lt, ◌&&◌, ◌||◌, inl, inr, Bool, true, false}
use Rattle.std.proofs.lemmas.List.{same_lists, get_or-replicate, get_or-take, get_or-drop, get_or_default}
use Rattle.std.proofs.lemmas.List.{length-take-le, length-drop, length-replicate}
use Rattle.std.proofs.lemmas.Bool.{cases_order}
use Rattle.std.proofs.lemmas.Bool.Decides.{nat_tests}
use Rattle.std.proofs.Math.Nat.{mul-le-mul_right}
use Rattle.std.proofs.lemmas.Nat.{div-add-mod', mod_below, div_below, div-mul-add, mod-mul-add, rows}
use Rattle.rfb_picture.specs.declared.rect.Rect.{Rect}
use Rattle.rfb_picture.specs.Rect.{contains}
use Rattle.rfb_picture.specs.Grid.{Grid, grid, IsGrid, at_or, row_of, by_index, changed, filled, with_row, uniform}

-- ---- numbers: place (x, y) has index y * w + x

-- it is one of the places
pub place_below : (w h x y : ℕ) → x < w → y < h → y * w + x < h * w
place_below w h x y p q = grind (arith, rows)

-- it is one of the n places from (x0, y0) on in that row where it lies in their rectangle
pub index_in_row : (x0 y0 n w x y : ℕ) →
    x0 + n ≤ w →
    x < w →
    (nat_le (y0 * w + x0) (y * w + x) && nat_lt (y * w + x) (y0 * w + x0 + n))
    ≡ contains (record { x = x0; y = y0; w = n; h = 1 }) x y
index_in_row x0 y0 n w x y p q =
    elim (cases_order y0 y) [
      | inl e ↦ rw e (grind (arith, nat_tests))
      | inr (inl l) ↦
          let over : (y0 + 1) * w ≤ y * w = mul-le-mul_right w (omega arith) in
          grind (arith, nat_tests)
      | inr (inr l) ↦
          let over : (y + 1) * w ≤ y0 * w = mul-le-mul_right w (omega arith) in
          grind (arith, nat_tests)
    ]

-- a rectangle with one row more has the places of that row too
pub contains_more : (r : Rect) (n x y : ℕ) →
    contains (record r { h = n + 1 }) x y
    ≡ (contains (record r { h = n }) x y
    || contains (record { x = r.x; y = r.y + n; w = r.w; h = 1 }) x y)
contains_more r n x y = grind (arith, nat_tests)

-- what the test of a place says
pub contains_true : (r : Rect) (x y : ℕ) →
    contains r x y ≡ true → (r.x ≤ x) × (x < r.x + r.w) × (r.y ≤ y) × (y < r.y + r.h)
contains_true r x y e = (
  grind (arith, nat_tests),
  grind (arith, nat_tests),
  grind (arith, nat_tests),
  grind (arith, nat_tests),
)

-- a place between the edges passes the test
pub contains_row : (r : Rect) (x y : ℕ) → r.x ≤ x → x < r.x + r.w → r.y ≤ y → y < r.y + r.h →
    contains r x y ≡ true
contains_row r x y a b c d = grind (arith, nat_tests)

-- in the rectangle of a row, the index in the row is the distance from its first column
pub column_in_row : (x0 y0 n w x y : ℕ) →
    contains (record { x = x0; y = y0; w = n; h = 1 }) x y ≡ true →
    (y * w + x - (y0 * w + x0) ≡ x - x0) × (x - x0 < n)
column_in_row x0 y0 n w x y e =
    let h = contains_true (record { x = x0; y = y0; w = n; h = 1 }) x y e in
    let same : y ≡ y0 = omega arith in
    (rw same (omega arith), omega arith)

-- where there is a place, a row has one
pub some_in_row : (k h w : ℕ) → k < h * w → 0 < w
some_in_row k h zero l = omega arith
some_in_row k h (suc w) l = omega arith

module _ {X : Type 0} where
  -- ---- lists

  length-by_index : (f : ℕ → X → X) (n : ℕ) (xs : List X) → length (by_index f n xs) ≡ length xs
  length-by_index f n [] = refl
  length-by_index f n (x ∷ xs) = ap suc (length-by_index f (n + 1) xs)

  get_or-by_index : (f : ℕ → X → X) (n : ℕ) (xs : List X) (i : ℕ) (d : X) →
      i < length xs → get_or (by_index f n xs) i d ≡ f (n + i) (get_or xs i d)
  get_or-by_index f n [] i d l = absurd (omega arith)
  get_or-by_index f n (x ∷ xs) zero d l = rw add-zero
  get_or-by_index f n (x ∷ xs) (suc i) d l =
      let e : n + suc i ≡ (n + 1) + i = omega arith in
      let h : i < length xs = omega arith in
      rw e (get_or-by_index f (n + 1) xs i d h)

  by_index_twice : (f k : ℕ → X → X) (n : ℕ) (xs : List X) →
      by_index k n (by_index f n xs) ≡ by_index (λ i old. k i (f i old)) n xs
  by_index_twice f k n [] = refl
  by_index_twice f k n (x ∷ xs) = ap (λ ys. k n (f n x) ∷ ys) (by_index_twice f k (n + 1) xs)

  -- ---- one place in a loop's step

  pub either : (a b : Bool) (now u v : X) → now ≡ (if b then u else (if a then u else v)) →
      now ≡ (if a || b then u else v)
  either true true now u v e = e
  either true false now u v e = e
  either false b now u v e = e

  pub at_value : (b : Bool) (now u v w : X) → now ≡ (if b then u else w) → (b ≡ true → u ≡ v) →
      now ≡ (if b then v else w)
  at_value true now u v w e same = e ∙ same refl
  at_value false now u v w e same = e

  -- values written from (x, y) on are in their row
  pub row_written : (x y w i j : ℕ) (row : List X) (d now old : X) →
      x + length row ≤ w →
      i < w →
      now ≡ (if nat_le (y * w + x) (j * w + i) && nat_lt (j * w + i) (y * w + x + length row)
      then slice_index_or row (j * w + i - (y * w + x)) d else old) →
      now ≡ (if contains (record { x = x; y = y; w = length row; h = 1 }) i j
      then slice_index_or row (i - x) old else old)
  row_written x y w i j row d now old p q is =
      let written = rw (index_in_row x y (length row) w i j p q) at is in
      at_value (contains (record { x = x; y = y; w = length row; h = 1 }) i j) now _ _ old written
      (λ e.
      let h = column_in_row x y (length row) w i j e in
      rw (h.0) (get_or_default row (i - x) d old h.1))

  -- ---- any change

  -- a list that has f x y old at each place (x, y) that had old makes the changed grid
  pub changed_is : (f : ℕ → ℕ → X → X) (g : Grid X) (new : List X) →
      IsGrid g →
      length new ≡ length g.places →
      ((x y : ℕ) (d : X) → x < g.width → y < g.height →
      slice_index_or new (y * g.width + x) d ≡ f x y (at_or g x y d)) →
      grid g.width g.height new ≡ changed f g
  unfolding changed
  changed_is f g new whole len each =
      ap (grid g.width g.height)
      (same_lists new (by_index (λ i old. f (i % g.width) (i / g.width) old) 0 g.places)
      (len ∙ sym (length-by_index _ 0 g.places))
      (λ k d l.
      let within : k < length g.places = omega arith in
      let below : k < g.height * g.width = omega arith in
      let some : 0 < g.width = some_in_row k g.height g.width below in
      let place : k / g.width * g.width + k % g.width ≡ k = div-add-mod' k g.width in
      let there = each (k % g.width) (k / g.width) d (mod_below k g.width some)
      (div_below k g.width g.height some below) in
      let read = get_or-by_index (λ i old. f (i % g.width) (i / g.width) old) 0 g.places k d
      within in
      rw place at there ∙ sym (rw zero-add at read)))

  -- the value at a place of the changed grid
  pub at-changed : (f : ℕ → ℕ → X → X) (g : Grid X) (x y : ℕ) (d : X) →
      IsGrid g → x < g.width → y < g.height → at_or (changed f g) x y d ≡ f x y (at_or g x y d)
  unfolding changed
  at-changed f g x y d whole p q =
      let below = place_below g.width g.height x y p q in
      let within : y * g.width + x < length g.places = omega arith in
      let read = get_or-by_index (λ i old. f (i % g.width) (i / g.width) old) 0 g.places
      (y * g.width + x) d within in
      rw (zero-add, mod-mul-add y g.width x p, div-mul-add y g.width x p) at read

  -- a change keeps the size, and the number of values
  pub width-changed : (f : ℕ → ℕ → X → X) (g : Grid X) → (changed f g).width ≡ g.width
  unfolding changed
  width-changed f g = refl

  pub height-changed : (f : ℕ → ℕ → X → X) (g : Grid X) → (changed f g).height ≡ g.height
  unfolding changed
  height-changed f g = refl

  pub length-changed : (f : ℕ → ℕ → X → X) (g : Grid X) →
      length (changed f g).places ≡ length g.places
  unfolding changed
  length-changed f g = length-by_index _ 0 g.places

  -- so a grid with one value for each place still has
  pub whole-changed : (f : ℕ → ℕ → X → X) (g : Grid X) → IsGrid g → IsGrid (changed f g)
  unfolding changed
  whole-changed f g whole = length-by_index _ 0 g.places ∙ whole

  -- and it had one value for each place if it has now
  pub whole_before : (f : ℕ → ℕ → X → X) (g : Grid X) → IsGrid (changed f g) → IsGrid g
  unfolding changed
  whole_before f g whole = sym (length-by_index _ 0 g.places) ∙ whole

  -- one change after another is one change
  pub changed_twice : (f k : ℕ → ℕ → X → X) (g : Grid X) →
      changed k (changed f g) ≡ changed (λ x y old. k x y (f x y old)) g
  unfolding changed
  changed_twice f k g =
      ap (grid g.width g.height)
      (by_index_twice (λ i old. f (i % g.width) (i / g.width) old)
      (λ i old. k (i % g.width) (i / g.width) old) 0 g.places)

  -- two changes that put the same at each place are one
  pub same_changes : (f k : ℕ → ℕ → X → X) (g : Grid X) →
      IsGrid g →
      ((x y : ℕ) (d : X) → x < g.width → y < g.height →
      f x y (at_or g x y d) ≡ k x y (at_or g x y d)) →
      changed f g ≡ changed k g
  unfolding changed
  same_changes f k g whole each =
      changed_is k g (changed f g).places whole (length-changed f g)
      (λ x y d p q. at-changed f g x y d whole p q ∙ each x y d p q)

  -- ---- the value at a place after each call

  pub at-filled : (r : Rect) (c : X) (g : Grid X) (x y : ℕ) (d : X) →
      IsGrid g →
      x < g.width →
      y < g.height →
      at_or (filled r c g) x y d ≡ (if contains r x y then c else at_or g x y d)
  at-filled r c g x y d whole p q = at-changed _ g x y d whole p q

  pub at-with_row : (x y : ℕ) (row : List X) (g : Grid X) (i j : ℕ) (d : X) →
      IsGrid g →
      i < g.width →
      j < g.height →
      at_or (with_row x y row g) i j d
      ≡ (if contains (record { x = x; y = y; w = length row; h = 1 }) i j
      then slice_index_or row (i - x) (at_or g i j d) else at_or g i j d)
  at-with_row x y row g i j d whole p q = at-changed _ g i j d whole p q

  pub at-uniform : (w h : ℕ) (c : X) (x y : ℕ) (d : X) → x < w → y < h →
      at_or (uniform w h c) x y d ≡ c
  unfolding uniform
  at-uniform w h c x y d p q = get_or-replicate (h * w) (y * w + x) c d (place_below w h x y p q)

  -- the size of a grid with one value everywhere
  pub width-uniform : (w h : ℕ) (c : X) → (uniform w h c).width ≡ w
  unfolding uniform
  width-uniform w h c = refl

  pub height-uniform : (w h : ℕ) (c : X) → (uniform w h c).height ≡ h
  unfolding uniform
  height-uniform w h c = refl

  pub whole-uniform : (w h : ℕ) (c : X) → IsGrid (uniform w h c)
  unfolding uniform
  whole-uniform w h c = length-replicate (h * w) c

  -- grids of one size with the same places are one
  pub same_parts : (g k : Grid X) → g.width ≡ k.width → g.height ≡ k.height → g.places ≡ k.places →
      g ≡ k
  same_parts g k widths heights places =
      let parts : grid g.width g.height g.places ≡ grid k.width k.height k.places =
      rw (widths, heights, places) in
      parts

  -- two grids of one size with equal values at equal places are one
  pub same_grid : (g k : Grid X) →
      IsGrid g →
      IsGrid k →
      g.width ≡ k.width →
      g.height ≡ k.height →
      ((x y : ℕ) (d : X) → x < g.width → y < g.height → at_or g x y d ≡ at_or k x y d) →
      g ≡ k
  same_grid g k whole_g whole_k widths heights each =
      same_parts g k widths heights
      (same_lists g.places k.places (whole_g ∙ (rw (widths, heights) (sym whole_k)))
      (λ n d l.
      let below : n < g.height * g.width = omega arith in
      let some : 0 < g.width = some_in_row n g.height g.width below in
      let there = each (n % g.width) (n / g.width) d (mod_below n g.width some)
      (div_below n g.width g.height some below) in
      let there_too = rw (← widths) at there in
      rw (div-add-mod' n g.width) at there_too))

  -- ---- rows

  -- a part of a row has as many values as it was asked for
  pub length-row_of : (g : Grid X) (x y w : ℕ) → IsGrid g → x + w ≤ g.width → y < g.height →
      length (row_of g x y w) ≡ w
  length-row_of g x y w whole p q =
      let below = mul-le-mul_right g.width q in
      length-take-le w (drop (y * g.width + x) g.places) (rw length-drop (omega arith))

  -- the value at index i of a part of a row is the one i places on in the row
  pub slice_index_or-row_of : (g : Grid X) (x y w i : ℕ) (d : X) →
      i < w → slice_index_or (row_of g x y w) i d ≡ at_or g (x + i) y d
  slice_index_or-row_of g x y w i d l =
      let e : y * g.width + (x + i) ≡ y * g.width + x + i = omega arith in
      get_or-take w (drop (y * g.width + x) g.places) i d l
      ∙ (get_or-drop (y * g.width + x) g.places i d ∙ ap (λ n. get_or g.places n d) (sym e))
