-- The first of the bytes were fed, and all answers to them are in flight.
use Rattle.std.proofs.Common.{length}
use Rattle.rfb.specs.Delivery.{at_server}
use Rattle.rfb.proofs.DeliveryLemmas.{SoFar}
use Rattle.rfb.proofs.loopback.arriving.hear.Given as goal

abbrev pub invariant-loop-rest : goal.invariant-loop-rest
invariant-loop-rest l =
    SoFar at_server l.fn.server l.bytes l.rest l.initial.to_viewer.items l.to_viewer.items l.server

abbrev pub decreases-loop-rest : goal.decreases-loop-rest
decreases-loop-rest l = length l.rest
