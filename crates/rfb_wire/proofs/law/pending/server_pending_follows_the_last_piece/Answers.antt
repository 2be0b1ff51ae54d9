use Rattle.std.proofs.Common.{refl, arith}
use Rattle.rfb_wire.specs.ServerHead.{server_head_size}
use Rattle.rfb_wire.specs.ServerMessage.{SpellsMapColour}
use Rattle.rfb_wire.specs.MessagePieces.{server_piece_size}
use Rattle.rfb_wire.proofs.stream_laws.PendingLaws.{items_pending}
use Rattle.rfb_wire.proofs.law.pending.server_pending_follows_the_last_piece.Goals as goal

pub returns-clause-colour : goal.returns-clause-colour
returns-clause-colour c = λ first count colours head list rest s.
    items_pending server_head_size server_piece_size SpellsMapColour 1 6 (omega arith) refl
    (λ colour bytes is. is.size) colours head list rest s.size s.message_type
