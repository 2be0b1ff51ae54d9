use Rattle.std.proofs.Common.{arith}
use Rattle.std.proofs.lemmas.Bool.Decides.{nat_tests}
use Rattle.rfb_wire.specs.ClientHead.{client_head_size}
use Rattle.rfb_wire.specs.MessagePieces.{client_piece_size}
use Rattle.rfb_wire.proofs.stream_laws.PendingLaws.{message_below}
use Rattle.rfb_wire.proofs.PendingLaws.{numbers_pending}
use Rattle.rfb_wire.proofs.law.pending.client_pending_follows_the_last_piece.Goals as goal

pub returns-clause-number : goal.returns-clause-number
returns-clause-number c = numbers_pending

pub returns-clause-most : goal.returns-clause-most
returns-clause-most c =
    message_below client_head_size client_piece_size 19 (λ first n e. grind (arith, nat_tests))
    (λ first. (grind (arith, nat_tests), grind (arith, nat_tests)))
