use Rattle.std.proofs.Common.{◌-◌}
use Rattle.rfb_picture.proofs.ShiftLemmas.{AreMoved}
use Rattle.rfb_picture.proofs.picture.copying.copy_apart.Given as goal

abbrev pub invariant-loop-done : goal.invariant-loop-done
invariant-loop-done g l = AreMoved l.from l.to l.done l.count l.fn.places l.places

abbrev pub decreases-loop-done : goal.decreases-loop-done
decreases-loop-done g l = l.count - l.done
