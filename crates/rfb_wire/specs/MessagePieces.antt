-- The pieces of messages, RFC 6143 sections 7.5 and 7.6: the bytes of a piece are pending until
-- its last is there. Pieces are the head with its type byte, and after it each number of
-- SetEncodings, each colour of SetColorMapEntries and each byte of a text.
use Rattle.std.specs.Prelude.{ℕ, ◌==◌, List, if◌then◌else◌}
use Rattle.rfb_wire.specs.stream.PendingBytes.{after_piece, message_pending}
use Rattle.rfb_wire.specs.ClientHead.{client_head_size}
use Rattle.rfb_wire.specs.ServerHead.{server_head_size}

-- after a client's head: numbers of SetEncodings, or bytes of a text; other messages are all head
abbrev pub client_piece_size : ℕ → ℕ
client_piece_size message_type = if message_type == 2 then 4 else 1

-- how many bytes of a client message are pending
abbrev pub client_pending : List ℕ → ℕ
client_pending bytes = message_pending client_head_size client_piece_size bytes

-- after a server's head: colours of SetColorMapEntries, or bytes of a text;
-- other messages are all head
abbrev pub server_piece_size : ℕ → ℕ
server_piece_size message_type = if message_type == 1 then 6 else 1

-- how many bytes of a server message are pending, of an update's head alone
abbrev pub server_pending : List ℕ → ℕ
server_pending bytes = message_pending server_head_size server_piece_size bytes

-- how many bytes of a rectangle are pending: its head is a piece, and its data
-- have pieces of their own
abbrev pub rect_pending : (List ℕ → ℕ) → List ℕ → ℕ
rect_pending data_pending bytes = after_piece 12 data_pending bytes
