use Rattle.rfb_wire.specs.ClientMessage.{client_says}
use Rattle.rfb_wire.specs.ClientStream.{client_stream}
use Rattle.rfb_wire.proofs.stream_laws.GrammarLaws.{spelled_grammar, cuts_agree}
use Rattle.rfb_wire.proofs.ClientStreamLaws.{client_spelled}
use Rattle.rfb_wire.proofs.law.client_verdict_is_of_the_bytes.Goals as goal

pub returns : goal.returns
returns c = λ one two items others fault other same a b.
    cuts_agree client_stream (spelled_grammar client_stream (λ _. client_says) client_spelled) tt
    one two items others fault other same a b
