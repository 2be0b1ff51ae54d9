-- The rows above are drawn.
use Rattle.std.proofs.Common.{◌≡◌, length}
use Rattle.rfb_server.specs.Hints.{hints_of}
use Rattle.rfb_server.specs.Model.{Draws, screen_of}
use Rattle.rfb.proofs.SceneLemmas.{pattern_above}
use Rattle.rfb.proofs.scene.draw_pattern.Given as goal

abbrev pub invariant-loop-y : goal.invariant-loop-y
invariant-loop-y l = record {
  size : length l.row ≡ (screen_of l.initial.server).width;
  rows : l.height ≡ (screen_of l.initial.server).height;
  drawn : Draws (pattern_above l.y (screen_of l.initial.server)) l.initial.server l.server;
  hints : hints_of l.server ≡ hints_of l.initial.server;
}
