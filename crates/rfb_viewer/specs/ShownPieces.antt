-- What a viewer shows: the picture, and of a rectangle under way the whole pieces that came, over
-- the picture before it.
use Rattle.std.specs.Prelude.{◌≡◌, ℕ, ◌<◌, List, ◌++◌, length, Option, Some, ◌⊎◌}
use Rattle.rfb_pixel.specs.declared.colour.Colour.{Colour}
use Rattle.rfb_picture.specs.Grid.{Grid}
use Rattle.rfb_wire.specs.declared.rect_head.RectHead.{RectHead}
use Rattle.rfb_wire.specs.stream.Sequel.{First, Second}
use Rattle.rfb_codec.specs.Front.{ShowsFront}
use Rattle.rfb_codec.specs.Painter.{AwaitsData}
use Rattle.rfb_codec.specs.UpdateStream.{UpdatePoint}
use Rattle.rfb_viewer.specs.ServerBytes.{ServerAt}
use Rattle.rfb_viewer.specs.Viewer.{ViewerState}

-- the bytes are a rectangle's head and data so far, whose whole pieces are shown
pub record ShowsPieces (p : UpdatePoint) (prefix : List ℕ) (before now : Grid Colour) : Type 0 where
  pub head : RectHead
  pub front : List ℕ
  pub body : List ℕ
  pub prefix_is : prefix ≡ front ++ body
  pub awaits : AwaitsData p head front before
  pub pending : List ℕ
  pub shown : ShowsFront p.form head.rect head.encoding before body pending now

-- no rectangle is under way, or no more than a part of its head came
abbrev pub HasNoData : UpdatePoint → List ℕ → Type 0
HasNoData p prefix = 0 < p.left → length prefix < 12

-- there what is stored is the picture, and elsewhere it shows pieces
abbrev pub ShowsAt : ServerAt → Option (Grid Colour) → List ℕ → Option (Grid Colour) → Type 0
ShowsAt (First point) picture prefix stored = stored ≡ picture
ShowsAt (Second p) picture prefix stored =
    (HasNoData p prefix × (stored ≡ picture))
    ⊎ ((before now : Grid Colour) × (picture ≡ Some before) × (stored ≡ Some now)
    × ShowsPieces p prefix before now)

-- what is stored shows a state, where these bytes came of the next item
abbrev pub Shows : ViewerState → List ℕ → Option (Grid Colour) → Type 0
Shows s prefix stored = ShowsAt s.point s.picture prefix stored
