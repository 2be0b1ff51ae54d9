use Rattle.std.proofs.Common.{◌≤◌, length}
use Rattle.rfb_picture.specs.Grid.{Holds}
use Rattle.rfb_codec.proofs.painter.tests.flaws.flaw_in.Given as goal

abbrev pub invariant-slices : goal.invariant-slices
invariant-slices l = record {
  within : l.used ≤ length l.data;
  holds : Holds l.picture l.painter.rect;
}
