-- What bytes of one item add to the copies, as the steps of a viewer have it.
use Rattle.std.specs.Prelude.{◌≡◌, ℕ, ◌++◌, List}
use Rattle.rfb_wire.specs.stream.Prefix.{Next, More, Got, Bad}
use Rattle.rfb_viewer.specs.declared.fault.ViewerFault.{ViewerFault}
use Rattle.rfb_viewer.specs.declared.viewer.Viewer.{Viewer}
use Rattle.rfb_viewer.specs.declared.viewer.moved.Move.{Move}
use Rattle.rfb_viewer.specs.Moved.{moved_of, moves_after}
use Rattle.rfb_viewer.specs.ServerBytes.{FromServer, server_bytes}
use Rattle.rfb_viewer.specs.Model.{StandsFor}
use Rattle.rfb_viewer.specs.Viewer.{Viewing, ViewerState}

-- the item that the bytes end, if they do, adds its copy
abbrev pub moves_by : Next FromServer ViewerFault → List Move → List Move
moves_by More moves = moves
moves_by (Got item rest) moves = moves_after item moves
moves_by (Bad fault) moves = moves

-- so it does whatever the viewer stood for
abbrev pub MovesTo : Viewer → List ℕ → List Move → Type 0
MovesTo old bytes moves =
    (viewing : Viewing) (s : ViewerState) (prefix : List ℕ) → StandsFor viewing old s prefix →
    moves ≡ moves_by ((server_bytes viewing.form viewing.hello).next s.point (prefix ++ bytes))
    (moved_of old)

abbrev pub Moves : Viewer → List ℕ → Viewer → Type 0
Moves old bytes new = MovesTo old bytes (moved_of new)
