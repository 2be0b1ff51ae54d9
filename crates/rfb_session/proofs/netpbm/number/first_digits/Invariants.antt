-- The bytes so far are digits.
use Rattle.std.proofs.Common.{take}
use Rattle.rfb_session.specs.netpbm.Number.{AreDigits}
use Rattle.rfb_session.proofs.netpbm.number.first_digits.Given as goal

abbrev pub invariant-loop-count : goal.invariant-loop-count
invariant-loop-count l = AreDigits (take l.count l.bytes)
