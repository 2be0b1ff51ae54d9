use Rattle.std.proofs.Common.{◌≡◌, ℕ, ◌<◌, [], length, slice_index}
use Rattle.rfb_codec.specs.encoder.Cover.{TellsLeft}
use Rattle.rfb_codec.proofs.choice.cover.others_of.Given as goal

abbrev pub invariant-loop-y : goal.invariant-loop-y
invariant-loop-y l = record {
  long : length l.rows ≡ 64;
  told : (j : ℕ) → j < l.y → TellsLeft l.width l.pixels l.background [] j (slice_index l.rows j);
}
