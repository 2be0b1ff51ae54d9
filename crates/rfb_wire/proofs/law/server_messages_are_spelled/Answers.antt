use Rattle.rfb_wire.specs.ServerMessage.{server_says, server_message}
use Rattle.rfb_wire.proofs.stream_laws.ReadingLaws.{reads_one}
use Rattle.rfb_wire.proofs.ServerMessageLaws.{server_message_reads}
use Rattle.rfb_wire.proofs.law.server_messages_are_spelled.Goals as goal

pub returns-clause-reads : goal.returns-clause-reads
returns-clause-reads c = server_message_reads

pub returns-clause-apart : goal.returns-clause-apart
returns-clause-apart c =
    λ m other front rest one two.
    reads_one server_message server_says server_message_reads m other front rest one two
