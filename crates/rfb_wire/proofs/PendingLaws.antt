-- Of a message the pending bytes are those after its last whole piece.
use Rattle.std.proofs.Common.{◌≡◌, ℕ, ℤ, ◌≤◌, ◌<◌, List, ◌++◌, length, refl, arith}
use Rattle.std.proofs.lemmas.Bool.Decides.{nat_tests}
use Rattle.rfb_wire.specs.declared.client_head.ClientHead.{ClientHead}
use Rattle.rfb_wire.specs.declared.server_head.ServerHead.{ServerHead}
use Rattle.rfb_wire.specs.ClientHead.{SpellsClientHead, SpellsSetEncodings, SpellsClientCutText, client_head_size}
use Rattle.rfb_wire.specs.ServerHead.{SpellsServerHead, SpellsServerCutText, server_head_size}
use Rattle.rfb_wire.specs.stream.Prefix.{Listed}
use Rattle.rfb_wire.specs.ClientMessage.{SpellsNumber}
use Rattle.rfb_wire.specs.MessagePieces.{client_piece_size, client_pending, server_piece_size, server_pending}
use Rattle.rfb_wire.proofs.ClientLemmas.{client-spelled}
use Rattle.rfb_wire.proofs.ServerLemmas.{server-spelled}
use Rattle.rfb_wire.proofs.stream_laws.PendingLaws.{missing_pending, items_pending, text_pending, message_below}

-- ---- from client to server

pub client_head_pending : (head : ClientHead) (bytes missing : List ℕ) →
    SpellsClientHead head (bytes ++ missing) → 0 < length missing →
    client_pending bytes ≡ length bytes
client_head_pending = missing_pending client_head_size client_piece_size client-spelled

pub numbers_pending : (count : ℕ) (numbers : List ℤ) (head list rest : List ℕ) →
    SpellsSetEncodings count head → Listed SpellsNumber numbers list → length rest < 4 →
    client_pending (head ++ (list ++ rest)) ≡ length rest
numbers_pending count numbers head list rest s =
    items_pending client_head_size client_piece_size SpellsNumber 2 4 (omega arith) refl
    (λ number bytes is. is.size) numbers head list rest s.size s.message_type

pub client_text_pending : (count : ℕ) (head text : List ℕ) → SpellsClientCutText count head →
    client_pending (head ++ text) ≡ 0
client_text_pending count head text s =
    text_pending client_head_size client_piece_size 6 8 (omega arith) refl refl head text s.size s.message_type

-- ---- from server to client

pub server_head_pending : (head : ServerHead) (bytes missing : List ℕ) →
    SpellsServerHead head (bytes ++ missing) → 0 < length missing →
    server_pending bytes ≡ length bytes
server_head_pending = missing_pending server_head_size server_piece_size server-spelled

pub server_text_pending : (count : ℕ) (head text : List ℕ) → SpellsServerCutText count head →
    server_pending (head ++ text) ≡ 0
server_text_pending count head text s =
    text_pending server_head_size server_piece_size 3 8 (omega arith) refl refl head text s.size s.message_type

pub server_pending_below : (bytes : List ℕ) → server_pending bytes ≤ 7
server_pending_below bytes =
    message_below server_head_size server_piece_size 7 (λ first n e. grind (arith, nat_tests))
    (λ first. (grind (arith, nat_tests), grind (arith, nat_tests))) bytes
