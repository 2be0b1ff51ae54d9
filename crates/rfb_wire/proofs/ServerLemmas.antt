-- Heads of server messages: one for bytes of the right size, and no other for the same bytes.
use Rattle.std.proofs.Common.{refl, arith}
use Rattle.std.proofs.lemmas.Bool.Decides.{nat_tests}
use Rattle.rfb_wire.specs.declared.server_head.ServerHead.TheVariants.{Update, ColourMap, Bell, CutText}
use Rattle.rfb_wire.specs.Fields.{u16_at, u32_at}
use Rattle.rfb_wire.specs.ServerHead.{SpellsServerHead, server_head_size}
use Rattle.rfb_wire.specs.ServerMessage.{server_head_of}
use Rattle.rfb_wire.proofs.stream_laws.HeadLemmas.{SizesSpell, SpelledAlone, by_type, of_type}

-- bytes of the size that their type asks for are a head
pub server-sizes : SizesSpell SpellsServerHead server_head_size
server-sizes bytes h =
    by_type server_head_size bytes h 0 4 refl
    (λ size is. (Update (u16_at 2 bytes), record { size = size; message_type = is; number_is = refl }))
    (λ not_0. by_type server_head_size bytes h 1 6 refl
    (λ size is. (
      ColourMap (u16_at 2 bytes) (u16_at 4 bytes),
      record { size = size; message_type = is; first_is = refl; number_is = refl },
    ))
    (λ not_1. by_type server_head_size bytes h 2 1 refl
    (λ size is. (Bell, record { size = size; message_type = is }))
    (λ not_2. by_type server_head_size bytes h 3 8 refl
    (λ size is. (CutText (u32_at 4 bytes), record { size = size; message_type = is; length_is = refl }))
    (λ not_3. absurd (grind (arith, nat_tests))))))

-- bytes spell no other head than their own, have its size, and are not none
pub server-spelled : SpelledAlone SpellsServerHead server_head_size server_head_of
server-spelled (Update count) bytes s =
    of_type server_head_size bytes s.size s.message_type refl (omega arith) (grind (arith, nat_tests))
server-spelled (ColourMap first count) bytes s =
    of_type server_head_size bytes s.size s.message_type refl (omega arith) (grind (arith, nat_tests))
server-spelled Bell bytes s =
    of_type server_head_size bytes s.size s.message_type refl (omega arith) (grind (arith, nat_tests))
server-spelled (CutText text_length) bytes s =
    of_type server_head_size bytes s.size s.message_type refl (omega arith) (grind (arith, nat_tests))
