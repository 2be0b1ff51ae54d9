use Rattle.rfb_picture.specs.layout.Plane.{AreUnused}
use Rattle.rfb_picture.proofs.words.next_used.Given as goal

-- the words so far have no bit
abbrev pub invariant-loop-at : goal.invariant-loop-at
invariant-loop-at l = AreUnused l.words l.other l.from l.at
