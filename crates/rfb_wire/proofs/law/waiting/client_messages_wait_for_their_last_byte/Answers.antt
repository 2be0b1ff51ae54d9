use Rattle.rfb_wire.proofs.WaitLaws.{client_head_waits, encodings_wait, client_text_waits, client_type_faults}
use Rattle.rfb_wire.proofs.law.waiting.client_messages_wait_for_their_last_byte.Goals as goal

pub returns-clause-head : goal.returns-clause-head
returns-clause-head c = λ n bytes misses. client_head_waits n bytes misses

pub returns-clause-numbers : goal.returns-clause-numbers
returns-clause-numbers c = λ count head rest s less. encodings_wait count head rest s less

pub returns-clause-text : goal.returns-clause-text
returns-clause-text c =
    λ text_length head rest s less. client_text_waits text_length head rest s less

pub returns-clause-unknown : goal.returns-clause-unknown
returns-clause-unknown c = λ first rest none. client_type_faults first rest none
