use Rattle.std.proofs.Common.{◌≡◌, ◌-◌, ◌≤◌, [], length, take}
use Rattle.rfb_codec.specs.declared.painter.stage.Stage.TheVariants.{InTiles}
use Rattle.rfb_codec.specs.decoder.Step.{Reaches}
use Rattle.rfb_codec.proofs.hextile.paint.take.take_whole.Given as goal

abbrev pub invariant-tiles : goal.invariant-tiles
invariant-tiles l = record {
  within : l.used ≤ length l.bytes;
  none : length l.pending.items ≡ 0;
  begun : l.used ≡ 0 → l.tile ≡ l.first;
  reaches : Reaches l.rectangle (InTiles l.first l.fn.seen) [] l.fn.picture (take l.used l.bytes)
      (InTiles l.tile l.now) [] l.picture;
}

abbrev pub decreases-tiles : goal.decreases-tiles
decreases-tiles l = length l.bytes - l.used
