use Rattle.std.proofs.Common.{◌≡◌, ◌≤◌, length}
use Rattle.rfb_picture.specs.Grid.{Holds}
use Rattle.rfb_codec.proofs.painter.tests.fed_in.Given as goal

abbrev pub invariant-slices : goal.invariant-slices
invariant-slices l = record {
  within : l.used ≤ length l.data;
  holds : Holds l.picture l.painter.rect;
  width : l.picture.width ≡ l.fn.picture.width;
  height : l.picture.height ≡ l.fn.picture.height;
}
