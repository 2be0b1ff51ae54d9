-- Pending bytes of a handshake: those after the last whole piece. A server's pieces are a version's
-- text, the word of 3.3, and the count of the security types and each of these. Then come the word
-- of SecurityResult, the length of a reason and each byte of it, and ServerInit up to the name and
-- each byte of that. A client's are its version's text, its choice and ClientInit.
use Rattle.std.specs.Prelude.{ℕ, zero, suc, List, [], ◌∷◌}
use Rattle.rfb_wire.specs.stream.PendingBytes.{in_pieces, after_piece}
use Rattle.rfb_hello.specs.declared.version.Version.{Version}
use Rattle.rfb_hello.specs.declared.version.Version.TheVariants.{V33, V37, V38}
use Rattle.rfb_hello.specs.ClientHandshake.{ClientPoint, AwaitsVersion as AwaitsClientVersion, AwaitsChoice}
use Rattle.rfb_hello.specs.ClientHandshake.{AwaitsInit as AwaitsClientInit, Begun as ClientBegun}
use Rattle.rfb_hello.specs.ServerHandshake.{ServerPoint, AwaitsVersion, AwaitsSecurity, AwaitsResult, AwaitsInit}
use Rattle.rfb_hello.specs.ServerHandshake.{AwaitsName, Begun}

-- how many bytes of a client's next item are pending
abbrev pub client_handshake_pending : ClientPoint → List ℕ → ℕ
client_handshake_pending AwaitsClientVersion bytes = in_pieces 12 bytes
client_handshake_pending (AwaitsChoice version) bytes = in_pieces 1 bytes
client_handshake_pending (AwaitsClientInit version) bytes = in_pieces 1 bytes
client_handshake_pending (ClientBegun version shared) bytes = 0

-- of a reason: its length, and each byte
abbrev pub reason_pending : List ℕ → ℕ
reason_pending bytes = after_piece 4 (in_pieces 1) bytes

-- of a list of security types: its count, and each type, or after a count of none a reason
abbrev pub types_pending : List ℕ → ℕ
types_pending [] = 0
types_pending (zero ∷ rest) = reason_pending rest
types_pending (suc n ∷ rest) = in_pieces 1 rest

-- of the security types: under 3.3 a word, and after one that refuses a reason
abbrev pub security_pending : Version → List ℕ → ℕ
security_pending V33 bytes = after_piece 4 reason_pending bytes
security_pending V37 bytes = types_pending bytes
security_pending V38 bytes = types_pending bytes

-- how many bytes of a server's next item are pending
abbrev pub server_handshake_pending : ServerPoint → List ℕ → ℕ
server_handshake_pending AwaitsVersion bytes = in_pieces 12 bytes
server_handshake_pending (AwaitsSecurity version) bytes = security_pending version bytes
server_handshake_pending (AwaitsResult version) bytes = after_piece 4 reason_pending bytes
server_handshake_pending (AwaitsInit version) bytes = in_pieces 24 bytes
server_handshake_pending (AwaitsName version width height name_length) bytes = in_pieces 1 bytes
server_handshake_pending (Begun version width height) bytes = 0
