-- How a `Picture` keeps its rows: each in a line of its own, and which line is which row's. So rows
-- that move take no place with them. No public clause reads these words.
use Rattle.std.specs.Prelude.{ℕ, Bool, false, List, ◌≡◌, ◌+◌, ◌*◌, ◌<◌, length, slice_index_or}
use Rattle.std.specs.Prelude.{nat_eq, if◌then◌else◌}
use Rattle.rfb_picture.specs.Grid.{Grid, grid, IsGrid, changed}

-- the index of place x of row y among the places, in lines of that width
abbrev pub place_in : List ℕ → ℕ → ℕ → ℕ → ℕ
place_in lines width x y = slice_index_or lines y 0 * width + x

-- each row has a line, and no two have the same
pub record AreLines (height : ℕ) (lines : List ℕ) : Type 0 where
  pub each : length lines ≡ height
  pub there : (y : ℕ) → y < height → slice_index_or lines y 0 < height
  pub apart : (i j : ℕ) → i < height → j < height →
      slice_index_or lines i 0 ≡ slice_index_or lines j 0 → i ≡ j

-- each row is in the line of its number
pub record AreInOrder (height : ℕ) (lines : List ℕ) : Type 0 where
  pub each : length lines ≡ height
  pub same : (y : ℕ) → y < height → slice_index_or lines y 0 ≡ y

-- of two lines that change places the other one, and else the same
abbrev pub other_of : ℕ → ℕ → ℕ → ℕ
other_of a b line = if nat_eq line a then b else (if nat_eq line b then a else line)

module _ {X : Type 0} where
  -- the rows, one after another from the top
  abbrev pub shown : ℕ → ℕ → List ℕ → List X → Grid X
  shown width height lines places =
      grid width height
      (changed (λ x y old. slice_index_or places (place_in lines width x y) old) (grid width height places)).places

  -- there are as many lines as rows, and places for each
  pub record IsKept (width height : ℕ) (lines : List ℕ) (places : List X) : Type 0 where
    pub whole : IsGrid (grid width height places)
    pub lines_are : AreLines height lines

  -- and they are in order, unless rows have moved by their lines
  pub record IsPicture (width height : ℕ) (turned : Bool) (lines : List ℕ) (places : List X) : Type 0 where
    pub kept : IsKept width height lines places
    pub order : turned ≡ false → AreInOrder height lines
