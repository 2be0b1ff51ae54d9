use Rattle.rfb_wire.proofs.WaitLaws.{server_head_waits, colours_wait, server_text_waits, server_type_faults}
use Rattle.rfb_wire.proofs.law.waiting.server_messages_wait_for_their_last_byte.Goals as goal

pub returns-clause-head : goal.returns-clause-head
returns-clause-head c = λ n bytes misses. server_head_waits n bytes misses

pub returns-clause-colours : goal.returns-clause-colours
returns-clause-colours c = λ first count head rest s less. colours_wait first count head rest s less

pub returns-clause-text : goal.returns-clause-text
returns-clause-text c =
    λ text_length head rest s less. server_text_waits text_length head rest s less

pub returns-clause-unknown : goal.returns-clause-unknown
returns-clause-unknown c = λ first rest none. server_type_faults first rest none
