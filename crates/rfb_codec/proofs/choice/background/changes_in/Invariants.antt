use Rattle.std.proofs.Common.{◌≡◌, ◌≤◌}
use Rattle.rfb_codec.specs.encoder.Background.{changes_in}
use Rattle.rfb_codec.proofs.choice.background.changes_in.Given as goal

abbrev pub invariant-loop-place : goal.invariant-loop-place
invariant-loop-place l = record {
  counted : l.count ≡ changes_in l.pixels l.place;
  few : l.count ≤ l.place;
}
