-- The messages from client to server, RFC 6143 section 7.5, whole: heads with what follows them.
use Rattle.std.specs.Prelude.{◌≡◌, ℕ, ℤ, ◌+◌, ◌*◌, Bool, List, length, Some, None}
use Rattle.rfb_picture.specs.declared.rect.Rect.{Rect}
use Rattle.rfb_pixel.specs.declared.fault.FormatFault.{FormatFault}
use Rattle.rfb_pixel.specs.Format.{PixelFormat}
use Rattle.rfb_pixel.specs.FormatBytes.{Spells, first_fault}
use Rattle.rfb_wire.specs.Fields.{s32_at}
use Rattle.rfb_wire.specs.stream.Heads.{IsNoHead, SpellsList, SpellsText}
use Rattle.rfb_wire.specs.ClientHead.{SpellsClientHead, SpellsSetPixelFormat, SpellsSetEncodings, SpellsRequest}
use Rattle.rfb_wire.specs.ClientHead.{SpellsKey, SpellsPointer, SpellsClientCutText}
use Rattle.rfb_wire.specs.stream.Prefix.{Says}

-- a message: the format that is set, the numbers of the encodings in order, the area asked for, the
-- key or the pointer, the text
pub data ClientMessage : Type 0 where
  SetPixelFormat : (format : PixelFormat) → ClientMessage
  SetEncodings : (encodings : List ℤ) → ClientMessage
  FramebufferUpdateRequest : (incremental : Bool) → (rect : Rect) → ClientMessage
  KeyEvent : (down_flag : Bool) → (key : ℕ) → ClientMessage
  PointerEvent : (button_mask : ℕ) → (x_position : ℕ) → (y_position : ℕ) → ClientMessage
  ClientCutText : (text : List ℕ) → ClientMessage

-- why bytes are no message: a format that fails a check, or a type that no client message has
pub data ClientFault : Type 0 where
  BadFormat : (fault : FormatFault) → ClientFault
  UnknownType : (message_type : ℕ) → ClientFault

-- SetPixelFormat, section 7.5.1, with a format that passes every check
pub record SpellsFormatMessage (format : PixelFormat) (bytes : List ℕ) : Type 0 where
  pub pixel_format : List ℕ
  pub head : SpellsSetPixelFormat pixel_format bytes
  pub spelled : Spells format pixel_format
  pub passes : first_fault pixel_format ≡ None

-- an encoding-type of SetEncodings, an S32
pub record SpellsNumber (number : ℤ) (bytes : List ℕ) : Type 0 where
  pub size : length bytes ≡ 4
  pub number_is : s32_at 0 bytes ≡ number

-- SetEncodings, section 7.5.2: the head says how many numbers follow
abbrev pub SpellsEncodingsMessage : List ℤ → List ℕ → Type 0
SpellsEncodingsMessage encodings bytes = SpellsList SpellsSetEncodings SpellsNumber encodings bytes

-- ClientCutText, section 7.5.6: the head says how many bytes of text follow
abbrev pub SpellsTextMessage : List ℕ → List ℕ → Type 0
SpellsTextMessage text bytes = SpellsText SpellsClientCutText text bytes

-- the bytes are this message on the wire
abbrev pub SpellsClientMessage : ClientMessage → List ℕ → Type 0
SpellsClientMessage (SetPixelFormat format) bytes = SpellsFormatMessage format bytes
SpellsClientMessage (SetEncodings encodings) bytes = SpellsEncodingsMessage encodings bytes
SpellsClientMessage (FramebufferUpdateRequest incremental rect) bytes =
    SpellsRequest incremental rect bytes
SpellsClientMessage (KeyEvent down_flag key) bytes = SpellsKey down_flag key bytes
SpellsClientMessage (PointerEvent button_mask x y) bytes = SpellsPointer button_mask x y bytes
SpellsClientMessage (ClientCutText text) bytes = SpellsTextMessage text bytes

-- the bytes end in this fault: a format is judged at its last byte, a type at its own
abbrev pub FaultsClientMessage : ClientFault → List ℕ → Type 0
FaultsClientMessage (BadFormat fault) bytes =
    (pixel_format : List ℕ) × SpellsSetPixelFormat pixel_format bytes
    × (first_fault pixel_format ≡ Some fault)
FaultsClientMessage (UnknownType message_type) bytes = IsNoHead SpellsClientHead message_type bytes

-- what the bytes of a client say, between two messages
abbrev pub client_says : Says ClientMessage ClientFault
client_says = record { item = SpellsClientMessage; fault = FaultsClientMessage }

-- how many bytes a message has
abbrev pub client_message_size : ClientMessage → ℕ
client_message_size (SetPixelFormat format) = 20
client_message_size (SetEncodings encodings) = 4 + length encodings * 4
client_message_size (FramebufferUpdateRequest incremental rect) = 10
client_message_size (KeyEvent down_flag key) = 8
client_message_size (PointerEvent button_mask x y) = 6
client_message_size (ClientCutText text) = 8 + length text
