-- The first of the bytes were fed, and all answers to them are in flight.
use Rattle.std.proofs.Common.{length}
use Rattle.rfb.specs.Delivery.{at_viewer}
use Rattle.rfb.proofs.DeliveryLemmas.{SoFar}
use Rattle.rfb.proofs.loopback.arriving.watch.Given as goal

abbrev pub invariant-loop-rest : goal.invariant-loop-rest
invariant-loop-rest l =
    SoFar at_viewer l.fn.viewer l.bytes l.rest l.initial.to_server.items l.to_server.items l.viewer

abbrev pub decreases-loop-rest : goal.decreases-loop-rest
decreases-loop-rest l = length l.rest
