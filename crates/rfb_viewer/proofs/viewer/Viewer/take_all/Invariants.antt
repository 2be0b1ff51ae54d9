use Rattle.std.proofs.Common.{◌-◌, length}
use Rattle.rfb_viewer.specs.steps.StepPromises.{HasTaken}
use Rattle.rfb_viewer.proofs.viewer.Viewer.take_all.Given as goal

abbrev pub invariant-loop-used : goal.invariant-loop-used
invariant-loop-used l = HasTaken l.fn.self l.bytes l.used l.self

abbrev pub decreases-loop-used : goal.decreases-loop-used
decreases-loop-used l = length l.bytes - l.used
