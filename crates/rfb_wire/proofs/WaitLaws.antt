-- Bytes that are too few for a message or for a rectangle's head wait for more: what an end that
-- gathers them needs where none is whole yet.
use Rattle.std.proofs.Common.{◌≡◌, ℕ, ◌*◌, ◌<◌, List, [], ◌∷◌, ◌++◌, length, refl}
use Rattle.rfb_wire.specs.declared.client_head.ClientHead.{ClientHead}
use Rattle.rfb_wire.specs.declared.client_head.ClientHead.TheVariants.{SetEncodings as EncodingsHead, CutText}
use Rattle.rfb_wire.specs.declared.server_head.ServerHead.{ServerHead}
use Rattle.rfb_wire.specs.declared.server_head.ServerHead.TheVariants.{ColourMap, CutText as ServerText}
use Rattle.rfb_wire.specs.stream.Heads.{BeginsNone, Misses}
use Rattle.rfb_wire.specs.ClientHead.{SpellsClientHead, SpellsSetEncodings, SpellsClientCutText, client_head_size}
use Rattle.rfb_wire.specs.ServerHead.{SpellsServerHead, SpellsColourMap, SpellsServerCutText, server_head_size}
use Rattle.rfb_wire.specs.Fields.{s32_at}
use Rattle.rfb_wire.specs.stream.Prefix.{More, Bad}
use Rattle.rfb_wire.specs.stream.Parts.{piece, done, valued, many, headed}
use Rattle.rfb_wire.specs.ClientMessage.{SetEncodings, ClientCutText, UnknownType}
use Rattle.rfb_wire.specs.ClientStream.{client_head_of, client_body, client_message}
use Rattle.rfb_wire.specs.ServerMessage.{ServerFault, UnknownType as UnknownServerType, server_head_of, map_colour_of}
use Rattle.rfb_wire.specs.ServerMessage.{server_body, server_message}
use Rattle.rfb_wire.specs.RectStream.{rect_head}
use Rattle.rfb_wire.proofs.stream_laws.WaitLaws.{pieces_wait, headed_waits, after_waits, first_waits}
use Rattle.rfb_wire.proofs.stream_laws.PartLaws.{piece_short}
use Rattle.rfb_wire.proofs.stream_laws.HeadedLaws.{headed_reads}
use Rattle.rfb_wire.proofs.ClientStreamLaws.{client_headed, client_message_reads}
use Rattle.rfb_wire.proofs.ServerMessageLaws.{server_headed, server_message_reads}

-- ---- from client to server

-- a head that is not whole
pub client_head_waits : (n : ℕ) (bytes : List ℕ) → Misses SpellsClientHead n bytes →
    client_message bytes ≡ More
unfolding client_message
client_head_waits n bytes misses =
    first_waits (headed client_head_size (λ first. UnknownType first) client_head_of) client_body
    bytes (headed_waits SpellsClientHead client_head_size (λ first. UnknownType first)
    client_head_of client_headed n bytes misses)

-- a whole head, and what follows is not
pub client_waits : (head : ClientHead) (front rest : List ℕ) → SpellsClientHead head front →
    client_body head rest ≡ More → client_message (front ++ rest) ≡ More
unfolding client_message
client_waits head front rest s more =
    after_waits (headed client_head_size (λ first. UnknownType first) client_head_of) client_body
    head (front ++ rest) rest
    ((headed_reads SpellsClientHead client_head_size (λ first. UnknownType first)
    client_head_of client_headed).only head front rest s) more

-- SetEncodings with fewer numbers than its head counts
pub encodings_wait : (count : ℕ) (front rest : List ℕ) → SpellsSetEncodings count front →
    length rest < count * 4 → client_message (front ++ rest) ≡ More
encodings_wait count front rest s less =
    client_waits (EncodingsHead count) front rest s
    (first_waits (many count (valued 4 (λ bytes. s32_at 0 bytes)))
    (λ numbers. done (SetEncodings numbers)) rest
    (pieces_wait count 4 (λ bytes. s32_at 0 bytes) [] rest less))

-- ClientCutText with less text than its head says
pub client_text_waits : (text_length : ℕ) (front rest : List ℕ) →
    SpellsClientCutText text_length front → length rest < text_length →
    client_message (front ++ rest) ≡ More
client_text_waits text_length front rest s less =
    client_waits (CutText text_length) front rest s
    (first_waits (piece text_length) (λ text. done (ClientCutText text)) rest
    (piece_short text_length rest less))

-- a type that no message has does not wait
pub client_type_faults : (first : ℕ) (rest : List ℕ) → BeginsNone SpellsClientHead first →
    client_message (first ∷ rest) ≡ Bad (UnknownType first)
client_type_faults first rest none =
    client_message_reads.blames (UnknownType first) (first ∷ []) rest (refl, none)

-- ---- from server to client

pub server_head_waits : (n : ℕ) (bytes : List ℕ) → Misses SpellsServerHead n bytes →
    server_message bytes ≡ More
unfolding server_message
server_head_waits n bytes misses =
    first_waits (headed server_head_size (λ first. UnknownServerType first) server_head_of)
    server_body bytes
    (headed_waits SpellsServerHead server_head_size (λ first. UnknownServerType first)
    server_head_of server_headed n bytes misses)

pub server_waits : (head : ServerHead) (front rest : List ℕ) → SpellsServerHead head front →
    server_body head rest ≡ More → server_message (front ++ rest) ≡ More
unfolding server_message
server_waits head front rest s more =
    after_waits (headed server_head_size (λ first. UnknownServerType first) server_head_of)
    server_body head (front ++ rest) rest
    ((headed_reads SpellsServerHead server_head_size (λ first. UnknownServerType first)
    server_head_of server_headed).only head front rest s) more

-- SetColorMapEntries with fewer colours than its head counts
pub colours_wait : (first count : ℕ) (front rest : List ℕ) → SpellsColourMap first count front →
    length rest < count * 6 → server_message (front ++ rest) ≡ More
colours_wait first count front rest s less =
    server_waits (ColourMap first count) front rest s
    (rw (pieces_wait {F = ServerFault} count 6 map_colour_of [] rest less) refl)

-- ServerCutText with less text than its head says
pub server_text_waits : (text_length : ℕ) (front rest : List ℕ) →
    SpellsServerCutText text_length front → length rest < text_length →
    server_message (front ++ rest) ≡ More
server_text_waits text_length front rest s less =
    server_waits (ServerText text_length) front rest s
    (rw (piece_short {F = ServerFault} text_length rest less) refl)

pub server_type_faults : (first : ℕ) (rest : List ℕ) → BeginsNone SpellsServerHead first →
    server_message (first ∷ rest) ≡ Bad (UnknownServerType first)
server_type_faults first rest none =
    server_message_reads.blames (UnknownServerType first) (first ∷ []) rest (refl, none)

-- the head of a rectangle with less than its twelve bytes
pub rect_waits : (width height : ℕ) (bytes : List ℕ) → length bytes < 12 →
    rect_head width height bytes ≡ More
unfolding rect_head
rect_waits width height bytes less = rw (piece_short 12 bytes less) refl
