-- What bytes of one item add to the damage, as the steps of a viewer have it.
use Rattle.std.specs.Prelude.{◌≡◌, ℕ, ◌++◌, false, List, Option, Some, None}
use Rattle.rfb_pixel.specs.declared.colour.Colour.{Colour}
use Rattle.rfb_picture.specs.declared.rect.Rect.{Rect}
use Rattle.rfb_picture.specs.Rect.{rect}
use Rattle.rfb_picture.specs.Grid.{Grid}
use Rattle.rfb_wire.specs.RectStream.{rect_head}
use Rattle.rfb_viewer.specs.declared.fault.ViewerFault.{ViewerFault}
use Rattle.rfb_viewer.specs.declared.viewer.Viewer.{Viewer}
use Rattle.rfb_viewer.specs.declared.viewer.damage.Edges.{Edges}
use Rattle.rfb_viewer.specs.declared.viewer.progress.Progress.{Progress}
use Rattle.rfb_viewer.specs.declared.viewer.progress.Progress.TheVariants.{Handshake, RectHead as RectHeadPart}
use Rattle.rfb_viewer.specs.declared.viewer.progress.Progress.TheVariants.{Data}
use Rattle.rfb_viewer.specs.Damage.{joined, under_way, ended_of, damage_of, head_rect, holds, colour_at}
use Rattle.rfb_viewer.specs.Failed.{EndsAt}
use Rattle.rfb_viewer.specs.Model.{StandsFor, picture_of}
use Rattle.rfb_viewer.specs.Viewer.{Viewing, ViewerState}

-- where a screen was made it counts whole
abbrev pub screen_made : Option (Grid Colour) → Option (Grid Colour) → Option Edges → Option Edges
screen_made None None d = d
screen_made None (Some screen) d = joined d (rect 0 0 screen.width screen.height)
screen_made (Some picture) now d = d

-- a rectangle whose head is there counts once it is not under way any more
abbrev pub ended_with : Option Rect → Option Rect → Option Edges → Option Edges
ended_with now None d = d
ended_with None (Some r) d = joined d r
ended_with (Some other) (Some r) d = d

-- the rectangle whose head these bytes begin with, on that screen
abbrev pub begun_on : Option (Grid Colour) → List ℕ → Option Rect
begun_on None bytes = None
begun_on (Some g) bytes = head_rect (rect_head g.width g.height bytes)

abbrev pub DamagesAt : Progress → Viewer → List ℕ → Viewer → Type 0
DamagesAt Handshake old bytes new =
    ended_of new ≡ screen_made old.picture new.picture (ended_of old)
DamagesAt (RectHeadPart more part) old bytes new =
    ended_of new ≡ ended_with (under_way new.progress)
    (begun_on old.picture (part.items ++ bytes)) (ended_of old)
DamagesAt (Data more painter) old bytes new =
    ended_of new ≡ ended_with (under_way new.progress) (Some painter.rect) (ended_of old)
DamagesAt progress old bytes new = ended_of new ≡ ended_of old

-- what bytes of one item add, wherever they come
abbrev pub Damages : Viewer → List ℕ → Viewer → Type 0
Damages old bytes new = DamagesAt old.progress old bytes new

-- the damage holds what it held, and outside of it the picture is what it was
abbrev pub KeepsOutside : Viewer → Viewer → Type 0
KeepsOutside old new =
    (x y : ℕ) → holds (damage_of new) x y ≡ false →
    (holds (damage_of old) x y ≡ false)
    × (colour_at (picture_of new) x y ≡ colour_at (picture_of old) x y)

-- bytes of one item are at fault, or memory is wanting there; what is stored then shows what came
-- before
abbrev pub EndsHere : Viewing → ViewerFault → Option (Grid Colour) → Viewer → List ℕ → Type 0
EndsHere viewing fault stored old bytes =
    (s : ViewerState) (prefix : List ℕ) → StandsFor viewing old s prefix →
    (front later : List ℕ) × (prefix ++ bytes ≡ front ++ later) × EndsAt viewing fault stored s front

abbrev pub EndsIn : ViewerFault → Viewer → List ℕ → Viewer → Type 0
EndsIn fault old bytes new =
    (viewing : Viewing) → EndsHere viewing fault (picture_of new) old bytes
