use Rattle.std.proofs.Common.{arith}
use Rattle.rfb_wire.proofs.stream_laws.HeadedLaws.{misses_others}
use Rattle.rfb_wire.proofs.ServerMessageLaws.{server_headed}
use Rattle.rfb_wire.proofs.server_head.ServerHead.read.Goals as goal

-- the rest of a head is missing, as any bytes in their place make a head
pub returns-then-bytes-size-clause-more : goal.returns-then-bytes-size-clause-more
returns-then-bytes-size-clause-more c = misses_others server_headed _ _ (grind arith) c.if-bytes-size.true (grind arith)

-- a type that asks for a size begins a head
pub returns-then-bytes-size-clause-unknown : goal.returns-then-bytes-size-clause-unknown
returns-then-bytes-size-clause-unknown c = λ first rest e none.
    absurd (server_headed.begins first c.in-Some-head_size.size (grind arith) none)
