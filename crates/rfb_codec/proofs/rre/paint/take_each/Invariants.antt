use Rattle.std.proofs.Common.{◌≡◌, ◌≤◌, [], length, take}
use Rattle.rfb_codec.specs.declared.painter.stage.Stage.TheVariants.{InSubrects}
use Rattle.rfb_codec.specs.decoder.Step.{Reaches}
use Rattle.rfb_codec.proofs.rre.paint.take_each.Given as goal

abbrev pub invariant-parts : goal.invariant-parts
invariant-parts l = record {
  within : l.used ≤ length l.bytes;
  first : l.used ≡ 0 → l.rest ≡ l.left;
  reaches : Reaches l.rectangle (InSubrects l.left) [] l.fn.picture (take l.used l.bytes)
      (InSubrects l.rest) [] l.picture;
}

abbrev pub decreases-parts : goal.decreases-parts
decreases-parts l = l.rest
