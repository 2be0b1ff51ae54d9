-- What a server's session is, and what an item of its client's makes of it, RFC 6143 section 7.5.
use Rattle.std.specs.Prelude.{◌≡◌, ℕ, ◌<◌, not, List, [], Option, Some, None, ⊤}
use Rattle.rfb_pixel.specs.declared.colour.Colour.{Colour}
use Rattle.rfb_pixel.specs.Format.{PixelFormat, rgb888}
use Rattle.rfb_picture.specs.Grid.{Grid, uniform}
use Rattle.rfb_picture.specs.Area.{Places, no_places, added}
use Rattle.rfb_wire.specs.declared.encoding.Encoding.{Encoding}
use Rattle.rfb_wire.specs.ClientHead.{SpellsClientCutText}
use Rattle.rfb_wire.specs.ClientMessage.{ClientMessage, SetPixelFormat, SetEncodings, FramebufferUpdateRequest}
use Rattle.rfb_wire.specs.ClientMessage.{KeyEvent, PointerEvent, ClientCutText, ClientFault}
use Rattle.rfb_wire.specs.ClientStream.{client_stream}
use Rattle.rfb_wire.specs.stream.Sequel.{First, Second, past_in}
use Rattle.rfb_wire.specs.stream.End.{Machine}
use Rattle.rfb_hello.specs.ClientHandshake.{AwaitsVersion}
use Rattle.rfb_hello.specs.ServerEnd.{ServerSetup, server_tells as handshake_tells}
use Rattle.rfb_server.specs.declared.fault.ServerFault.{ServerFault}
use Rattle.rfb_server.specs.ClientBytes.{ClientAt, FromClient, client_two, client_bytes}
use Rattle.rfb_server.specs.Encodings.{known_among}
use Rattle.rfb_server.specs.Record.{forgotten}
use Rattle.rfb_server.specs.Told.{ServerTold, step_told, message_told}

-- what a server was made with: its end of the handshake, and how many bytes of a text it keeps
pub record Serving : Type 0 where
  pub hello : ServerSetup
  pub text_limit : ℕ

-- where the client's bytes are; the screen; of each place the pixel that the viewer has or will
-- have, where that is known; the places that are asked; the format, and the encodings that the
-- viewer listed
pub record ServerState : Type 0 where
  pub point : ClientAt
  pub screen : Grid Colour
  pub known : Grid (Option ℕ)
  pub area : Places
  pub form : PixelFormat
  pub encodings : List Encoding

-- ---- what an item makes of it

-- a format is the server's from here on, and what was sent in another is forgotten; a list of
-- encodings takes the place of the one before it; a request asks for its area, whole if it is not
-- incremental
abbrev pub message_acts : ServerState → ClientMessage → ServerState
message_acts s (SetPixelFormat format) = record s { form = format; known = forgotten s.known }
message_acts s (SetEncodings numbers) = record s { encodings = known_among numbers [] }
message_acts s (FramebufferUpdateRequest incremental rect) =
    record s { area = added rect (not incremental) s.area }
message_acts s (KeyEvent down key) = s
message_acts s (PointerEvent buttons x y) = s
message_acts s (ClientCutText text) = s

-- a step of the handshake changes where the bytes are, and nothing else
abbrev pub item_acts : ServerState → FromClient → ServerState
item_acts s (First step) = s
item_acts s (Second message) = message_acts s message

-- what an item makes of a state
abbrev pub serves : Serving → ServerState → FromClient → ServerState
serves serving s item =
    record (item_acts s item) { point = past_in (client_two serving.hello.offer) s.point item }

-- ---- what a server reports of it

-- a server reports what the part that the point belongs to reports of an item of that part
abbrev pub item_told : Serving → ClientAt → FromClient → Option ServerTold
item_told serving (First point) (First step) = step_told (handshake_tells serving.hello point step)
item_told serving (First point) (Second message) = None
item_told serving (Second between) (First step) = None
item_told serving (Second between) (Second message) = message_told serving.text_limit message

abbrev pub server_tells : Serving → ServerState → FromClient → Option ServerTold
server_tells serving s item = item_told serving s.point item

-- ---- the machine

-- a server
abbrev pub server : Serving → Machine ServerState ClientAt FromClient ServerFault ServerTold
server serving = record {
  grammar = client_bytes serving.hello.offer;
  point = λ s. s.point;
  act = serves serving;
  tells = server_tells serving;
}

-- the messages alone, as an end: a state is one after the handshake
abbrev pub messages_end : Serving → Machine ServerState ⊤ ClientMessage ClientFault ServerTold
messages_end serving = record {
  grammar = client_stream;
  point = λ _. tt;
  act = λ s message. serves serving s (Second message);
  tells = λ s message. message_told serving.text_limit message;
}

-- the state, where the point lies after the handshake
abbrev pub after_handshake : ClientAt → ServerState → Option ServerState
after_handshake (First point) s = None
after_handshake (Second between) s = Some s

-- memory is asked for once the length of a text is known that has bytes
abbrev pub AsksMemory : ServerState → List ℕ → Type 0
AsksMemory s bytes =
    (s.point ≡ Second tt) ×
    (text_length : ℕ) × SpellsClientCutText text_length bytes × (0 < text_length)

-- a screen begins black
abbrev pub black : Colour
black = record { r = 0; g = 0; b = 0 }

-- the state of a new server: nothing came, nothing was sent, nothing is asked
abbrev pub first_server : Serving → ServerState
first_server serving = record {
  point = First AwaitsVersion;
  screen = uniform serving.hello.width serving.hello.height black;
  known = uniform serving.hello.width serving.hello.height None;
  area = no_places serving.hello.width serving.hello.height;
  form = rgb888;
  encodings = [];
}
