-- What changed of a viewer's picture: the least rectangle that holds the rectangles of updates.
use Rattle.std.specs.Prelude.{◌≡◌, ℕ, zero, suc, ◌+◌, ◌-◌, ◌&&◌, nat_lt, min, max, Bool, true, false, List, [], ◌∷◌}
use Rattle.std.specs.Prelude.{Option, Some, None, if◌then◌else◌}
use Rattle.rfb_pixel.specs.declared.colour.Colour.{Colour}
use Rattle.rfb_picture.specs.declared.rect.Rect.{Rect}
use Rattle.rfb_picture.specs.Rect.{rect, contains}
use Rattle.rfb_picture.specs.Grid.{Grid, at_or}
use Rattle.rfb_wire.specs.declared.fault.WireFault.{WireFault}
use Rattle.rfb_wire.specs.declared.rect_head.RectHead.{RectHead}
use Rattle.rfb_wire.specs.RectStream.{rect_head}
use Rattle.rfb_wire.specs.stream.Prefix.{Next, More, Got, Bad}
use Rattle.rfb_wire.specs.stream.Sequel.{First, Second}
use Rattle.rfb_wire.specs.stream.End.{Machine, RunsOutBy}
use Rattle.rfb_codec.specs.UpdateStream.{UpdatePoint, UpdateItem, Message, Rectangle}
use Rattle.rfb_hello.specs.ServerHandshake.{ServerItem, ProtocolVersion, SecurityNone, SecurityTypes, SecurityResult}
use Rattle.rfb_hello.specs.ServerHandshake.{ServerInit, Name}
use Rattle.rfb_viewer.specs.declared.fault.ViewerFault.{ViewerFault}
use Rattle.rfb_viewer.specs.declared.viewer.Viewer.{Viewer}
use Rattle.rfb_viewer.specs.declared.viewer.damage.Edges.{Edges}
use Rattle.rfb_viewer.specs.declared.viewer.progress.Progress.{Progress}
use Rattle.rfb_viewer.specs.declared.viewer.progress.Progress.TheVariants.{Handshake, Head, RectHead as RectHeadPart}
use Rattle.rfb_viewer.specs.declared.viewer.progress.Progress.TheVariants.{Data, Colours, CutText, Failed}
use Rattle.rfb_viewer.specs.ServerBytes.{ServerAt, FromServer, server_bytes}
use Rattle.rfb_viewer.specs.Told.{ViewerTold}
use Rattle.rfb_viewer.specs.Viewer.{Viewing, ViewerState, black, shows, viewer_tells}
use Rattle.rfb_viewer.specs.Model.{StandsFor, picture_of}
use Rattle.rfb_viewer.specs.Failed.{EndsAt}

-- ---- the least rectangle that holds others, by its edges

abbrev pub edges_of : Rect → Edges
edges_of r = record { left = r.x; top = r.y; right = r.x + r.w; lower = r.y + r.h }

abbrev pub rect_between : Edges → Rect
rect_between e = rect e.left e.top (e.right - e.left) (e.lower - e.top)

-- the outermost edges of two rectangles are those of the least one that holds both
abbrev pub outermost : Edges → Edges → Edges
outermost a b =
    record {
      left = min a.left b.left;
      top = min a.top b.top;
      right = max a.right b.right;
      lower = max a.lower b.lower;
    }

abbrev pub with_edges : Option Edges → Edges → Option Edges
with_edges None e = Some e
with_edges (Some d) e = Some (outermost d e)

-- a rectangle joined to others: where it has no place it adds nothing
abbrev pub joined : Option Edges → Rect → Option Edges
joined d r = if nat_lt 0 r.w && nat_lt 0 r.h then with_edges d (edges_of r) else d

abbrev pub joined_if : Option Edges → Option Rect → Option Edges
joined_if d None = d
joined_if d (Some r) = joined d r

abbrev pub rect_of_damage : Option Edges → Option Rect
rect_of_damage None = None
rect_of_damage (Some e) = Some (rect_between e)

-- the damage of rectangles one after another
abbrev pub joined_all : Option Edges → List Rect → Option Edges
joined_all d [] = d
joined_all d (r ∷ rects) = joined_all (joined d r) rects

-- ---- what it holds, and what lies outside

abbrev pub holds : Option Rect → ℕ → ℕ → Bool
holds None x y = false
holds (Some r) x y = contains r x y

-- each place that the first holds lies in the second
abbrev pub IsWithin : Option Rect → Rect → Type 0
IsWithin inner outer = (x y : ℕ) → holds inner x y ≡ true → contains outer x y ≡ true

-- the colour at a place, where the picture has it
abbrev pub colour_at : Option (Grid Colour) → ℕ → ℕ → Option Colour
colour_at None x y = None
colour_at (Some g) x y =
    if nat_lt x g.width && nat_lt y g.height then Some (at_or g x y black) else None

-- at each place that the damage does not hold, both pictures have the same colour, or none
abbrev pub IsSameOutside : Option Rect → Option (Grid Colour) → Option (Grid Colour) → Type 0
IsSameOutside damage old new =
    (x y : ℕ) → holds damage x y ≡ false → colour_at new x y ≡ colour_at old x y

-- ---- the damage of a viewer: rectangles that have ended, and the one that is under way

abbrev pub under_way : Progress → Option Rect
under_way Handshake = None
under_way (Head bytes) = None
under_way (RectHeadPart more head) = None
under_way (Data more painter) = Some painter.rect
under_way (Colours more) = None
under_way (CutText text_length more kept) = None
under_way (Failed fault) = None

-- of the rectangles that have ended since it was asked last
abbrev pub ended_of : Viewer → Option Edges
ended_of viewer = viewer.damage

abbrev pub damage_of : Viewer → Option Rect
damage_of viewer = rect_of_damage (joined_if (ended_of viewer) (under_way viewer.progress))

-- ---- the same by the server's bytes

-- the rectangle of a head that was read
abbrev pub head_rect : Next RectHead WireFault → Option Rect
head_rect More = None
head_rect (Got head rest) = Some head.rect
head_rect (Bad fault) = None

-- the rectangle of the head that the bytes begin with, if it is good: by how many rectangles are
-- left
abbrev pub begun_next : UpdatePoint → ℕ → List ℕ → Option Rect
begun_next p zero bytes = None
begun_next p (suc left) bytes = head_rect (rect_head p.width p.height bytes)

abbrev pub begun : ServerAt → List ℕ → Option Rect
begun (First point) bytes = None
begun (Second p) bytes = begun_next p p.left bytes

-- what a step of the handshake adds: ServerInit the whole screen
abbrev pub step_damage : ServerItem → Option Edges → Option Edges
step_damage (ProtocolVersion version) d = d
step_damage SecurityNone d = d
step_damage (SecurityTypes types) d = d
step_damage SecurityResult d = d
step_damage (ServerInit width height name_length) d = joined d (rect 0 0 width height)
step_damage (Name text) d = d

-- what an item after it adds: a rectangle itself
abbrev pub item_damage : UpdateItem → Option Edges → Option Edges
item_damage (Message message) d = d
item_damage (Rectangle head body) d = joined d head.rect

abbrev pub damage_after : ServerAt → FromServer → Option Edges → Option Edges
damage_after (First point) (First step) d = step_damage step d
damage_after (First point) (Second item) d = d
damage_after (Second p) (First step) d = d
damage_after (Second p) (Second item) d = item_damage item d

-- ---- the machine whose states have the damage too

-- a state, and the damage of the items that led to it since it was asked last
pub record Damaged : Type 0 where
  pub state : ViewerState
  pub ended : Option Edges

abbrev pub damages : Viewing → Damaged → FromServer → Damaged
damages viewing s item = record {
  state = shows viewing s.state item;
  ended = damage_after s.state.point item s.ended;
}

abbrev pub damaging : Viewing → Machine Damaged ServerAt FromServer ViewerFault ViewerTold
damaging viewing = record {
  grammar = server_bytes viewing.form viewing.hello;
  point = λ s. s.state.point;
  act = damages viewing;
  tells = λ s item. viewer_tells viewing s.state item;
}

-- a viewer stands for a state and a prefix, with that damage
pub record IsDamaged (viewing : Viewing) (viewer : Viewer) (s : Damaged)
    (prefix : List ℕ) : Type 0 where
  pub stands : StandsFor viewing viewer s.state prefix
  pub ended_is : ended_of viewer ≡ s.ended

-- after a fault: the bytes have led there, and the damage is that of the items before it and of the
-- rectangle whose data are at fault
abbrev pub KeepsDamage : ViewerFault → Viewer → List ℕ → Viewer → Type 0
KeepsDamage fault old bytes new =
    (viewing : Viewing) → RunsOutBy (damaging viewing)
    (λ s front. EndsAt viewing fault (picture_of new) s.state front
    × (damage_of new ≡ rect_of_damage (joined_if s.ended (begun s.state.point front))))
    (IsDamaged viewing) old bytes
