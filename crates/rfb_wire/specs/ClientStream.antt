-- The stream of client messages: what bytes begin with between two of them.
use Rattle.std.specs.Prelude.{ℕ, ◌==◌, List, drop, Option, Some, None, if◌then◌else◌, ⊤}
use Rattle.rfb_pixel.specs.declared.fault.FormatFault.{FormatFault}
use Rattle.rfb_pixel.specs.Format.{PixelFormat}
use Rattle.rfb_pixel.specs.FormatBytes.{red_at, green_at, blue_at, first_fault}
use Rattle.rfb_wire.specs.declared.client_head.ClientHead.{ClientHead}
use Rattle.rfb_wire.specs.declared.client_head.ClientHead.TheVariants.{SetPixelFormat as FormatHead}
use Rattle.rfb_wire.specs.declared.client_head.ClientHead.TheVariants.{SetEncodings as EncodingsHead, Request, Key}
use Rattle.rfb_wire.specs.declared.client_head.ClientHead.TheVariants.{Pointer, CutText}
use Rattle.rfb_wire.specs.Fields.{u8_at, u16_at, u32_at, s32_at, flag_at}
use Rattle.rfb_wire.specs.ClientHead.{client_head_size}
use Rattle.rfb_wire.specs.stream.Prefix.{Reading}
use Rattle.rfb_wire.specs.stream.Parts.{piece, done, judged, and_then, valued, many, headed}
use Rattle.rfb_wire.specs.stream.Grammar.{Grammar}
use Rattle.rfb_wire.specs.ClientMessage.{ClientMessage, SetPixelFormat, SetEncodings, FramebufferUpdateRequest}
use Rattle.rfb_wire.specs.ClientMessage.{KeyEvent, PointerEvent, ClientCutText, ClientFault, BadFormat, UnknownType}
use Rattle.rfb_wire.specs.ClientMessage.{client_message_size}

-- the head that bytes of its size are
abbrev pub client_head_of : List ℕ → ClientHead
client_head_of bytes =
    let message_type = u8_at 0 bytes in
    if message_type == 0 then FormatHead (drop 4 bytes) else
    if message_type == 2 then EncodingsHead (u16_at 2 bytes) else
    if message_type == 3
    then Request (flag_at 1 bytes)
    (record {
      x = u16_at 2 bytes;
      y = u16_at 4 bytes;
      w = u16_at 6 bytes;
      h = u16_at 8 bytes;
    }) else
    if message_type == 4 then Key (flag_at 1 bytes) (u32_at 4 bytes) else
    if message_type == 5 then Pointer (u8_at 1 bytes) (u16_at 2 bytes) (u16_at 4 bytes)
    else CutText (u32_at 4 bytes)

-- the format that sixteen bytes are
abbrev pub format_of : List ℕ → PixelFormat
format_of bytes = record {
  bits_per_pixel = u8_at 0 bytes;
  depth = u8_at 1 bytes;
  big_endian = flag_at 2 bytes;
  red = red_at bytes;
  green = green_at bytes;
  blue = blue_at bytes;
}

-- the fault of a format, as one of a message
abbrev pub format_fault : Option FormatFault → Option ClientFault
format_fault None = None
format_fault (Some fault) = Some (BadFormat fault)

-- what is read after a head
abbrev pub client_body : ClientHead → Reading ClientMessage ClientFault
client_body (FormatHead bytes) =
    judged (format_fault (first_fault bytes)) (SetPixelFormat (format_of bytes))
client_body (EncodingsHead count) =
    and_then (many count (valued 4 (λ bytes. s32_at 0 bytes)))
    (λ numbers. done (SetEncodings numbers))
client_body (Request incremental rect) = done (FramebufferUpdateRequest incremental rect)
client_body (Key down key) = done (KeyEvent down key)
client_body (Pointer buttons x y) = done (PointerEvent buttons x y)
client_body (CutText text_length) = and_then (piece text_length) (λ text. done (ClientCutText text))

-- a message
unfoldable pub client_message : Reading ClientMessage ClientFault
client_message =
    and_then (headed client_head_size (λ first. UnknownType first) client_head_of) client_body

-- the stream has one point, between two messages
abbrev pub client_stream : Grammar ⊤ ClientMessage ClientFault
client_stream =
    record { next = λ _. client_message; past = λ point _. point; size = client_message_size }
