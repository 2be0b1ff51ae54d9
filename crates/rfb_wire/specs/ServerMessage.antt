-- The messages from server to client, RFC 6143 section 7.6, whole but for the
-- rectangles of an update.
use Rattle.std.specs.Prelude.{◌≡◌, ℕ, ◌+◌, ◌*◌, ◌==◌, List, length, if◌then◌else◌}
use Rattle.rfb_wire.specs.declared.server_head.ServerHead.{ServerHead}
use Rattle.rfb_wire.specs.declared.server_head.ServerHead.TheVariants.{Update, ColourMap, Bell as BellHead, CutText}
use Rattle.rfb_wire.specs.Fields.{u8_at, u16_at, u32_at}
use Rattle.rfb_wire.specs.stream.Heads.{IsNoHead, SpellsList, SpellsText}
use Rattle.rfb_wire.specs.ServerHead.{SpellsServerHead, SpellsUpdate, SpellsColourMap, SpellsBell, SpellsServerCutText}
use Rattle.rfb_wire.specs.ServerHead.{server_head_size}
use Rattle.rfb_wire.specs.stream.Prefix.{Reading, Says}
use Rattle.rfb_wire.specs.stream.Parts.{piece, done, and_then, valued, many, headed}

-- an entry of a colour map, 16 bits each
pub record MapColour : Type 0 where
  pub red : ℕ
  pub green : ℕ
  pub blue : ℕ

-- a message: an update and how many rectangles follow, a colour map from its first
-- colour on, a bell, or a text
pub data ServerMessage : Type 0 where
  FramebufferUpdate : (rectangles : ℕ) → ServerMessage
  SetColorMapEntries : (first : ℕ) → (colours : List MapColour) → ServerMessage
  Bell : ServerMessage
  ServerCutText : (text : List ℕ) → ServerMessage

-- why bytes are no message: a type that no server message has
pub data ServerFault : Type 0 where
  UnknownType : (message_type : ℕ) → ServerFault

-- a colour of SetColorMapEntries
pub record SpellsMapColour (colour : MapColour) (bytes : List ℕ) : Type 0 where
  pub size : length bytes ≡ 6
  pub red_is : u16_at 0 bytes ≡ colour.red
  pub green_is : u16_at 2 bytes ≡ colour.green
  pub blue_is : u16_at 4 bytes ≡ colour.blue

-- SetColorMapEntries, section 7.6.2: the head says how many colours follow
abbrev pub SpellsColoursMessage : ℕ → List MapColour → List ℕ → Type 0
SpellsColoursMessage first colours bytes =
    SpellsList (SpellsColourMap first) SpellsMapColour colours bytes

-- ServerCutText, section 7.6.4: the head says how many bytes of text follow
abbrev pub SpellsServerTextMessage : List ℕ → List ℕ → Type 0
SpellsServerTextMessage text bytes = SpellsText SpellsServerCutText text bytes

-- the bytes are this message on the wire; of an update they are its head, and its rectangles follow
abbrev pub SpellsServerMessage : ServerMessage → List ℕ → Type 0
SpellsServerMessage (FramebufferUpdate rectangles) bytes = SpellsUpdate rectangles bytes
SpellsServerMessage (SetColorMapEntries first colours) bytes =
    SpellsColoursMessage first colours bytes
SpellsServerMessage Bell bytes = SpellsBell bytes
SpellsServerMessage (ServerCutText text) bytes = SpellsServerTextMessage text bytes

-- the bytes end in this fault: a type is judged at its byte
abbrev pub FaultsServerMessage : ServerFault → List ℕ → Type 0
FaultsServerMessage (UnknownType message_type) bytes = IsNoHead SpellsServerHead message_type bytes

-- what the bytes of a server say, between two messages
abbrev pub server_says : Says ServerMessage ServerFault
server_says = record { item = SpellsServerMessage; fault = FaultsServerMessage }

-- how many bytes a message has, of an update its head
abbrev pub server_message_size : ServerMessage → ℕ
server_message_size (FramebufferUpdate rectangles) = 4
server_message_size (SetColorMapEntries first colours) = 6 + length colours * 6
server_message_size Bell = 1
server_message_size (ServerCutText text) = 8 + length text

-- the head that bytes of its size are
abbrev pub server_head_of : List ℕ → ServerHead
server_head_of bytes =
    let message_type = u8_at 0 bytes in
    if message_type == 0 then Update (u16_at 2 bytes) else
    if message_type == 1 then ColourMap (u16_at 2 bytes) (u16_at 4 bytes) else
    if message_type == 2 then BellHead else CutText (u32_at 4 bytes)

-- the colour that six bytes are
abbrev pub map_colour_of : List ℕ → MapColour
map_colour_of bytes = record { red = u16_at 0 bytes; green = u16_at 2 bytes; blue = u16_at 4 bytes }

-- what is read after a head
abbrev pub server_body : ServerHead → Reading ServerMessage ServerFault
server_body (Update count) = done (FramebufferUpdate count)
server_body (ColourMap first count) =
    and_then (many count (valued 6 map_colour_of))
    (λ colours. done (SetColorMapEntries first colours))
server_body BellHead = done Bell
server_body (CutText text_length) = and_then (piece text_length) (λ text. done (ServerCutText text))

-- a message, or the head of an update
unfoldable pub server_message : Reading ServerMessage ServerFault
server_message =
    and_then (headed server_head_size (λ first. UnknownType first) server_head_of) server_body
