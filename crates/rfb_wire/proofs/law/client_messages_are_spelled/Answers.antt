use Rattle.rfb_wire.specs.ClientMessage.{client_says}
use Rattle.rfb_wire.specs.ClientStream.{client_message, client_stream}
use Rattle.rfb_wire.proofs.stream_laws.ReadingLaws.{reads_one}
use Rattle.rfb_wire.proofs.stream_laws.GrammarLaws.{spelled_grammar}
use Rattle.rfb_wire.proofs.ClientStreamLaws.{client_message_reads, client_spelled}
use Rattle.rfb_wire.proofs.law.client_messages_are_spelled.Goals as goal

pub returns-clause-reads : goal.returns-clause-reads
returns-clause-reads c = client_message_reads

pub returns-clause-stream : goal.returns-clause-stream
returns-clause-stream c = client_spelled

pub returns-clause-laws : goal.returns-clause-laws
returns-clause-laws c = spelled_grammar client_stream (λ _. client_says) client_spelled

pub returns-clause-apart : goal.returns-clause-apart
returns-clause-apart c =
    λ m other front rest one two.
    reads_one client_message client_says client_message_reads m other front rest one two
