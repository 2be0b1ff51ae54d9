-- The copies within a viewer's picture: the CopyRect rectangles of updates, RFC 6143 section 7.7.2.
use Rattle.std.specs.Prelude.{◌≡◌, ℕ, ◌+◌, ◌-◌, List, [], ◌∷◌, ◌++◌, length, drop, Option, Some, None}
use Rattle.rfb_picture.specs.declared.rect.Rect.{Rect}
use Rattle.rfb_wire.specs.stream.Sequel.{First, Second}
use Rattle.rfb_wire.specs.stream.End.{Machine, RunsOutBy}
use Rattle.rfb_codec.specs.RectData.{source_in}
use Rattle.rfb_codec.specs.UpdateStream.{UpdateItem, Message, Rectangle}
use Rattle.rfb_viewer.specs.declared.fault.ViewerFault.{ViewerFault}
use Rattle.rfb_viewer.specs.declared.viewer.Viewer.{Viewer}
use Rattle.rfb_viewer.specs.declared.viewer.moved.Move.{Move}
use Rattle.rfb_viewer.specs.ServerBytes.{ServerAt, FromServer, server_bytes}
use Rattle.rfb_viewer.specs.Told.{ViewerTold}
use Rattle.rfb_viewer.specs.Viewer.{Viewing, ViewerState, shows, viewer_tells}
use Rattle.rfb_viewer.specs.Model.{StandsFor, picture_of}
use Rattle.rfb_viewer.specs.Failed.{EndsAt}

-- ---- the last sixteen, the oldest first

-- the copies of a viewer since it was asked for them
abbrev pub moved_of : Viewer → List Move
moved_of viewer = viewer.moved.items

-- one copy more: of seventeen the oldest is dropped
abbrev pub with_move : List Move → Move → List Move
with_move moves m = drop (length moves + 1 - 16) (moves ++ m ∷ [])

-- a rectangle that is painted, with the corner that its data name to copy from, if they do
abbrev pub moved_if : List Move → Rect → Option (ℕ × ℕ) → List Move
moved_if moves to None = moves
moved_if moves to (Some source) =
    with_move moves (record { to = to; sx = source.0; sy = source.1 })

-- ---- the same by the server's bytes

-- an item adds a copy where it is a CopyRect rectangle
abbrev pub item_moves : UpdateItem → List Move → List Move
item_moves (Message message) moves = moves
item_moves (Rectangle head body) moves = moved_if moves head.rect (source_in head.encoding body)

abbrev pub moves_after : FromServer → List Move → List Move
moves_after (First step) moves = moves
moves_after (Second item) moves = item_moves item moves

-- ---- the machine whose states have the copies too

-- a state, and the last copies of the items that led to it since it was asked for them
pub record Moving : Type 0 where
  pub state : ViewerState
  pub moves : List Move

abbrev pub moves_on : Viewing → Moving → FromServer → Moving
moves_on viewing s item = record {
  state = shows viewing s.state item;
  moves = moves_after item s.moves;
}

abbrev pub moving : Viewing → Machine Moving ServerAt FromServer ViewerFault ViewerTold
moving viewing = record {
  grammar = server_bytes viewing.form viewing.hello;
  point = λ s. s.state.point;
  act = moves_on viewing;
  tells = λ s item. viewer_tells viewing s.state item;
}

-- a viewer stands for a state and a prefix, with those copies
pub record HasMoved (viewing : Viewing) (viewer : Viewer) (s : Moving)
    (prefix : List ℕ) : Type 0 where
  pub stands : StandsFor viewing viewer s.state prefix
  pub moves_are : moved_of viewer ≡ s.moves

-- after a fault: the bytes have led there, and the copies are those of the items before it
abbrev pub KeepsMoved : ViewerFault → Viewer → List ℕ → Viewer → Type 0
KeepsMoved fault old bytes new =
    (viewing : Viewing) → RunsOutBy (moving viewing)
    (λ s front. EndsAt viewing fault (picture_of new) s.state front × (moved_of new ≡ s.moves))
    (HasMoved viewing) old bytes
