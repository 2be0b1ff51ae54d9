-- Whether a part of a picture shows another.
use Rattle.std.specs.Prelude.{◌≡◌, ◌+◌, ◌*◌, ◌<◌, ℕ, zero, suc, List, [], ◌++◌, Option, None, Some}
use Rattle.rfb_picture.specs.Grid.{Grid, row_of}
use Rattle.rfb_pixel.specs.declared.colour.Colour.{Colour}
use Rattle.rfb_session.specs.declared.drive.comparing.Difference.{Difference}
use Rattle.rfb_session.specs.declared.drive.near.RowDifference.{RowDifference}
use Rattle.rfb_session.specs.drive.Near.{IsFirstFar, far_places}

-- what is at w places of each of h rows, from column x of row y on, row after row
abbrev pub rows_of : Grid Colour → ℕ → ℕ → ℕ → ℕ → List Colour
rows_of g x y w zero = []
rows_of g x y w (suc h) = rows_of g x y w h ++ row_of g x (y + h) w

-- places, w to a row, are too far from what was expected: where first in row order, and how many
pub record Differs (within : ℕ) (shown wanted : List Colour) (w : ℕ) (found : Difference)
    : Type 0 where
  pub column : found.x < w
  pub first : IsFirstFar within shown wanted (found.y * w + found.x)
  pub count : found.count ≡ far_places within shown wanted

-- the differences of the rows above a row, and of that row
abbrev pub joined : Option Difference → ℕ → Option RowDifference → Option Difference
joined found row None = found
joined None row (Some here) =
    Some (record { x = here.first; y = row; count = here.count })
joined (Some above) row (Some here) =
    Some (record above { count = above.count + here.count })
