-- What contracts see of a `Picture`: its size, and the values at its places.
use Rattle.std.specs.Prelude.{ℕ, ℤ, List, [], ◌∷◌, ◌≡◌, ◌+◌, ◌-◌, ◌*◌, ◌/◌, ◌%◌, ◌≤◌, ◌&&◌, nat_le, nat_lt, length}
use Rattle.std.specs.Prelude.{take, drop, replicate, slice_index_or, if◌then◌else◌, refl}
use Rattle.std.specs.Coded.{Coded, code_by, coded×, coded_list, coded_ℕ}
use Rattle.rfb_picture.specs.declared.rect.Rect.{Rect}
use Rattle.rfb_picture.specs.Rect.{contains, scrolled_to, scrolled_from}

-- columns and rows of places, and the values at them, row after row from the top, each from the
-- left
pub record Grid (X : Type 0) : Type 0 where
  pub width : ℕ
  pub height : ℕ
  pub places : List X

module _ {X : Type 0} where
  -- the grid of that width, height and list of values
  abbrev pub grid : ℕ → ℕ → List X → Grid X
  grid w h xs = record { width = w; height = h; places = xs }

  -- a grid is stored as its width, its height and its places
  abbrev pub grid_code : Coded X → Coded (Grid X)
  grid_code c =
      code_by (ℕ × (ℕ × List X))
      (coded× coded_ℕ (coded× coded_ℕ (coded_list c)))
      (λ g. (g.width, (g.height, g.places)))
      (λ p. grid p.0 p.1.0 p.1.1)
      (λ _. refl)

  -- it has as many values as places: each row has as many as the grid is wide
  abbrev pub IsGrid : Grid X → Type 0
  IsGrid g = length g.places ≡ g.height * g.width

  -- the rectangle's right edge and its lower edge do not pass those of the grid
  abbrev pub Holds : Grid X → Rect → Type 0
  Holds g r = (r.x + r.w ≤ g.width) × (r.y + r.h ≤ g.height)

  -- the value at column x of row y, or d where there is no such place
  abbrev pub at_or : Grid X → ℕ → ℕ → X → X
  at_or g x y d = slice_index_or g.places (y * g.width + x) d

  -- the values at w places of row y, from column x on
  abbrev pub row_of : Grid X → ℕ → ℕ → ℕ → List X
  row_of g x y w = take w (drop (y * g.width + x) g.places)

  -- a list with each element changed as its index says, where the first has index n
  abbrev pub by_index : (ℕ → X → X) → ℕ → List X → List X
  by_index f n [] = []
  by_index f n (x ∷ xs) = f n x ∷ by_index f (n + 1) xs

  -- the grid with f x y old at each place (x, y) that had old
  unfoldable pub changed : (ℕ → ℕ → X → X) → Grid X → Grid X
  changed f g =
      grid g.width g.height (by_index (λ i old. f (i % g.width) (i / g.width) old) 0 g.places)

  -- the grid with value c at each place of the rectangle, and the others as they were
  abbrev pub filled : Rect → X → Grid X → Grid X
  filled r c g = changed (λ x y old. if contains r x y then c else old) g

  -- the grid where each place of the rectangle has what its place of the rectangle of that size at
  -- (sx, sy) had, and the others are as they were
  abbrev pub copied : Rect → ℕ → ℕ → Grid X → Grid X
  copied r sx sy g =
      changed (λ x y old. if contains r x y then at_or g (sx + (x - r.x)) (sy + (y - r.y)) old
      else old) g

  -- the grid where all that lay in the rectangle has moved, dx columns to the right and dy rows
  -- down, but for what left the rectangle; the places that nothing came to are as they were
  abbrev pub scrolled : Rect → ℤ → ℤ → Grid X → Grid X
  scrolled r dx dy g =
      copied (scrolled_to dx dy r) (scrolled_from dx dy r).x (scrolled_from dx dy r).y g

  -- the grid with the list's values at (x, y) and on to the right, and the others as they were
  abbrev pub with_row : ℕ → ℕ → List X → Grid X → Grid X
  with_row x y row g =
      changed
      (λ i j old. if contains (record { x = x; y = y; w = length row; h = 1 }) i j
      then slice_index_or row (i - x) old else old)
      g

  -- the same for a list that may be longer than what is left of the row: it goes on in the rows
  -- below, as far as there are places
  abbrev pub with_run : ℕ → ℕ → List X → Grid X → Grid X
  with_run x y run g =
      grid g.width g.height
      (changed
      (λ i j old. if nat_le (y * g.width + x) (j * g.width + i)
      && nat_lt (j * g.width + i) (y * g.width + x + length run)
      then slice_index_or run (j * g.width + i - (y * g.width + x)) old else old)
      g).places

  -- the grid with the list's values at the places of the rectangle, row after row from the top, each
  -- from the left, and the others as they were
  abbrev pub with_rows : Rect → List X → Grid X → Grid X
  with_rows r rows g =
      changed
      (λ x y old. if contains r x y
      then slice_index_or rows ((y - r.y) * r.w + (x - r.x)) old else old)
      g

  -- the grid of that width and height with value c at every place
  unfoldable pub uniform : ℕ → ℕ → X → Grid X
  uniform w h c = grid w h (replicate (h * w) c)
