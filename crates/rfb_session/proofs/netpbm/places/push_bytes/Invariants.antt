-- The colours so far, and those of the rest, are all.
use Rattle.std.proofs.Common.{◌≡◌, ◌++◌, length}
use Rattle.rfb_session.specs.netpbm.Places.{colours_of_bytes}
use Rattle.rfb_session.proofs.netpbm.places.push_bytes.Given as goal

abbrev pub invariant-loop-rest : goal.invariant-loop-rest
invariant-loop-rest l =
    l.places.items ++ colours_of_bytes l.rest ≡ l.initial.places.items ++ colours_of_bytes l.bytes

abbrev pub decreases-loop-rest : goal.decreases-loop-rest
decreases-loop-rest l = length l.rest
