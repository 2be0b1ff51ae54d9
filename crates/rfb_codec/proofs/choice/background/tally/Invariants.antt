use Rattle.std.proofs.Common.{◌-◌, length}
use Rattle.rfb_codec.specs.encoder.Background.{slot_of}
use Rattle.rfb_codec.proofs.StepLemmas.{Counting}
use Rattle.rfb_codec.proofs.choice.background.tally.Given as goal

abbrev pub invariant-loop-start : goal.invariant-loop-start
invariant-loop-start g l =
    Counting (slot_of g.row.SLOTS) g.row.SLOTS l.pixels l.firsts l.counts l.aside.items l.start l.better l.most
    l.free l.fn.free

abbrev pub decreases-loop-start : goal.decreases-loop-start
decreases-loop-start g l = length l.pixels - l.start
