-- The places up to here have their colours.
use Rattle.std.proofs.Common.{◌≡◌, ◌<◌, ℕ, length, slice_index_or}
use Rattle.rfb_pixel.specs.declared.colour.Colour.{Colour}
use Rattle.rfb.specs.Scene.{begun_at}
use Rattle.rfb.proofs.scene.paint.Given as goal

abbrev pub invariant-loop-x : goal.invariant-loop-x
invariant-loop-x l = record {
  size : length l.row ≡ length l.initial.row;
  begun : (i : ℕ) (c : Colour) → i < l.x → slice_index_or l.row i c ≡ begun_at i l.y;
}
