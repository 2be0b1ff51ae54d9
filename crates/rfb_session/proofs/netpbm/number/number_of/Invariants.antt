-- The number that the digits so far write, or 65536.
use Rattle.std.proofs.Common.{◌≡◌, min, take}
use Rattle.rfb_session.specs.netpbm.Number.{value_of}
use Rattle.rfb_session.proofs.netpbm.number.number_of.Given as goal

abbrev pub invariant-loop-digit : goal.invariant-loop-digit
invariant-loop-digit l = l.number ≡ min (value_of (take l.digit-index l.digits)) 65536
