use Rattle.std.proofs.Common.{◌≡◌, ◌-◌, ◌≤◌, length, take}
use Rattle.rfb_codec.specs.decoder.Step.{Reaches}
use Rattle.rfb_codec.proofs.painter.pieces.feed.Given as goal

abbrev pub invariant-pieces : goal.invariant-pieces
invariant-pieces l = record {
  within : l.used ≤ length l.bytes;
  begun : l.used ≡ 0 → l.now ≡ l.fn.stage;
  reaches : Reaches l.rectangle l.fn.stage l.fn.pending.items l.fn.picture (take l.used l.bytes)
      l.now l.pending.items l.picture;
}

abbrev pub decreases-pieces : goal.decreases-pieces
decreases-pieces l = length l.bytes - l.used
