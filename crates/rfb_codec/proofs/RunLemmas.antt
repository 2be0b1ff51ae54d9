-- Pixels of one row of a rectangle, painted after those of the places before them.
use Rattle.std.proofs.Common.{◌≡◌, ℕ, ◌+◌, ◌-◌, ◌*◌, ◌<◌, ◌≤◌, ◌&&◌, ◌||◌, nat_lt, nat_le, Bool, true, false}
use Rattle.std.proofs.Common.{if◌then◌else◌, List, ◌++◌, length, take, drop, slice_index_or, refl, sym, ◌∙◌, ap, arith}
use Rattle.std.proofs.Common.{length-drop}
use Rattle.std.proofs.lemmas.List.{drop-append-le, take-append-le}
use Rattle.std.proofs.Math.Nat.{mul-le-mul_right}
use Rattle.std.proofs.Math.Seq.{drop-append-add}
use Rattle.std.proofs.lemmas.Bool.Decides.{nat_tests}
use Rattle.rfb_pixel.specs.declared.colour.Colour.{Colour}
use Rattle.rfb_pixel.specs.Format.{PixelFormat, size_of, colour_of, pixel_number}
use Rattle.rfb_picture.specs.declared.rect.Rect.{Rect}
use Rattle.rfb_picture.specs.Rect.{contains}
use Rattle.rfb_picture.specs.Grid.{Grid, IsGrid, at_or, with_row}
use Rattle.rfb_picture.proofs.GridLaws.{changed_twice, same_changes, contains_true, index_in_row}
use Rattle.rfb_codec.specs.Raw.{raw_pixel}
use Rattle.rfb_codec.specs.Front.{pixels_over}
use Rattle.rfb_pixel.proofs.FormatLaws.{pixel_number-take}

-- a pixel whose bytes are there is the same whatever follows
pub pixel_longer : (f : PixelFormat) (bytes more : List ℕ) (n : ℕ) → n + size_of f ≤ length bytes →
    pixel_number f (drop n (bytes ++ more)) ≡ pixel_number f (drop n bytes)
pixel_longer f bytes more n within =
    let left : length (drop n bytes) ≡ length bytes - n = length-drop n bytes in
    let front : take (size_of f) (drop n bytes ++ more) ≡ take (size_of f) (drop n bytes) =
    take-append-le (size_of f) (drop n bytes) more (omega arith) in
    ap (pixel_number f) (drop-append-le n bytes more (omega arith))
    ∙ sym (pixel_number-take f (drop n bytes ++ more) (size_of f) (omega arith))
    ∙ ap (pixel_number f) front
    ∙ pixel_number-take f (drop n bytes) (size_of f) (omega arith)

-- those that follow are read from the rest
pub pixel_after : (f : PixelFormat) (bytes more : List ℕ) (n m : ℕ) → n ≡ length bytes + m →
    pixel_number f (drop n (bytes ++ more)) ≡ pixel_number f (drop m more)
pixel_after f bytes more n m is =
    ap (λ (k : ℕ). pixel_number f (drop k (bytes ++ more))) is ∙ ap (pixel_number f) (drop-append-add bytes more m)

outside : (b : Bool) → (b ≡ true → ⊥) → b ≡ false
outside true never = absurd (never refl)
outside false never = refl

more_places : (k from n : ℕ) → nat_lt k (from + n) ≡ (nat_lt k from || (nat_le from k && nat_lt k (from + n)))
more_places k from n = grind (arith, nat_tests)

moved_row : (left top column row n x y : ℕ) → left ≤ x → top ≤ y → contains (record {
  x = left + column;
  y = top + row;
  w = n;
  h = 1;
}) x y ≡ contains (record { x = column; y = row; w = n; h = 1 }) (x - left) (y - top)
moved_row left top column row n x y a b = grind (arith, nat_tests)

within : (rect : Rect) (row column n x y : ℕ) → column + n ≤ rect.w → row < rect.h → (rect.x + column ≤ x)
    × (x < rect.x + column + n) × (rect.y + row ≤ y) × (y < rect.y + row + 1) → contains rect x y ≡ true
within rect row column n x y wide high (a, b, c, d) = grind (arith, nat_tests)

-- the places of a run are those that follow
run_place : (rect : Rect) (row column n x y : ℕ) → column + n ≤ rect.w →
    row < rect.h → (contains rect x y && nat_lt ((y - rect.y) * rect.w + (x - rect.x)) (row * rect.w + column + n))
    ≡ ((contains rect x y && nat_lt ((y - rect.y) * rect.w + (x - rect.x)) (row * rect.w + column))
    || contains (record { x = rect.x + column; y = rect.y + row; w = n; h = 1 }) x y)
run_place rect row column n x y wide high = by (contains rect x y) refl
  where
    by : (b : Bool) → contains rect x y ≡ b →
        (b && nat_lt ((y - rect.y) * rect.w + (x - rect.x)) (row * rect.w + column + n))
        ≡ ((b && nat_lt ((y - rect.y) * rect.w + (x - rect.x)) (row * rect.w + column))
        || contains (record { x = rect.x + column; y = rect.y + row; w = n; h = 1 }) x y)
    by true e =
        let h = contains_true rect x y e in
        let i = x - rect.x in
        let j = y - rect.y in
        let here = moved_row rect.x rect.y column row n x y h.0 h.2 in
        let line = index_in_row column row n rect.w i j wide (omega arith) in
        more_places (j * rect.w + i) (row * rect.w + column) n ∙ rw (line, here) refl
    by false e = sym (outside (contains (record { x = rect.x + column; y = rect.y + row; w = n; h = 1 }) x y) (λ inner.
        let h = contains_true (record { x = rect.x + column; y = rect.y + row; w = n; h = 1 }) x y inner in
        let inside : contains rect x y ≡ true = within rect row column n x y wide high h in
        cc))

-- the value at a place of the picture with a run more
painted_place : {A : Type 0} (first run : Bool) (written before now old : A) →
    (run ≡ true → written ≡ now) → (run ≡ false → first ≡ true → before ≡ now) →
    (if run then written else (if first then before else old)) ≡ (if first || run then now else old)
painted_place true true written before now old a b = a refl
painted_place true false written before now old a b = b refl refl
painted_place false true written before now old a b = a refl
painted_place false false written before now old a b = refl

-- a place's pixel among more of them
earlier_pixel : (f : PixelFormat) (w i j count : ℕ) (pixels bytes : List ℕ) → length pixels ≡ count * size_of f →
    j * w + i < count → raw_pixel f w pixels i j ≡ raw_pixel f w (pixels ++ bytes) i j
earlier_pixel f w i j count pixels bytes size below =
    let fits : (j * w + i + 1) * size_of f ≤ count * size_of f = mul-le-mul_right (size_of f) (omega arith) in
    sym (pixel_longer f pixels bytes ((j * w + i) * size_of f) (omega (arith, fits, size)))

later_pixel : (f : PixelFormat) (w i j count k : ℕ) (pixels bytes : List ℕ) → length pixels ≡ count * size_of f →
    j * w + i ≡ count + k → pixel_number f (drop (k * size_of f) bytes) ≡ raw_pixel f w (pixels ++ bytes) i j
later_pixel f w i j count k pixels bytes size is =
    let place : (j * w + i) * size_of f ≡ count * size_of f + k * size_of f = rw is (omega arith) in
    sym (pixel_after f pixels bytes ((j * w + i) * size_of f) (k * size_of f) (omega (arith, place, size)))

first_below : (inside : Bool) (k count : ℕ) → (inside && nat_lt k count) ≡ true → k < count
first_below true k count e = grind (arith, nat_tests)
first_below false k count e = cc

pub run_over : (f : PixelFormat) (rect : Rect) (row column n : ℕ) (pixels bytes : List ℕ)
    (run : List Colour) (before : Grid Colour) → IsGrid before → column + n ≤ rect.w → row < rect.h → length run ≡ n →
    length pixels ≡ (row * rect.w + column) * size_of f → length bytes ≡ n * size_of f → ((k : ℕ) (d : Colour) →
    k < n → slice_index_or run k d ≡ colour_of f (pixel_number f (drop (k * size_of f) bytes))) →
    with_row (rect.x + column) (rect.y + row) run (pixels_over f rect (row * rect.w + column) pixels before)
    ≡ pixels_over f rect (row * rect.w + column + n) (pixels ++ bytes) before
run_over f rect row column n pixels bytes run before whole wide high size_is size bytes_is each =
    changed_twice _ _ before
    ∙ same_changes _ _ before whole
    (λ x y d p q.
    let i = x - rect.x in
    let j = y - rect.y in
    let old = at_or before x y d in
    let first = contains rect x y && nat_lt (j * rect.w + i) (row * rect.w + column) in
    let in_run = contains (record { x = rect.x + column; y = rect.y + row; w = n; h = 1 }) x y in
    let earlier = colour_of f (raw_pixel f rect.w pixels i j) in
    let colour = colour_of f (raw_pixel f rect.w (pixels ++ bytes) i j) in
    let was = if first then earlier else old in
    rw (size_is, run_place rect row column n x y wide high)
    (painted_place first in_run (slice_index_or run (x - (rect.x + column)) was) earlier colour old
    (λ e.
    let h = contains_true (record { x = rect.x + column; y = rect.y + row; w = n; h = 1 }) x y e in
    let k = x - (rect.x + column) in
    let line : j ≡ row = omega arith in
    let place : j * rect.w + i ≡ row * rect.w + column + k = rw line (omega arith) in
    each k was (omega arith)
    ∙ ap (colour_of f) (later_pixel f rect.w i j (row * rect.w + column) k pixels bytes size place))
    (λ off e. ap (colour_of f) (earlier_pixel f rect.w i j (row * rect.w + column) pixels bytes size
    (first_below (contains rect x y) (j * rect.w + i) (row * rect.w + column) e)))))
