use Rattle.std.proofs.Common.{◌≡◌, length}
use Rattle.rfb_codec.specs.encoder.Background.{slot_of}
use Rattle.rfb_codec.proofs.StepLemmas.{Claimed}
use Rattle.rfb_codec.proofs.choice.background.has_more.Given as goal

abbrev pub invariant-loop-place : goal.invariant-loop-place
invariant-loop-place g l = record {
  sized : length l.taken ≡ g.row.SLOTS;
  claimed : Claimed (slot_of g.row.SLOTS) l.pixels l.taken l.free l.most;
}
