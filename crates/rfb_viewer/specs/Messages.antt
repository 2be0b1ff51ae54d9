-- The messages that a viewer sends, RFC 6143 section 7.5, as the bytes that it writes: padding of
-- zeros, flags of 0 or 1.
use Rattle.std.specs.Prelude.{ℕ, Bool, List, ◌++◌, length}
use Rattle.std.specs.List.{flat_map}
use Rattle.std.specs.Int.{cast_unsigned, w32}
use Rattle.byteorder.specs.Endian.{big_bytes}
use Rattle.rfb_pixel.specs.Format.{PixelFormat}
use Rattle.rfb_pixel.specs.FormatBytes.{format_bytes}
use Rattle.rfb_picture.specs.declared.rect.Rect.{Rect}
use Rattle.rfb_wire.specs.declared.encoding.Encoding.{Encoding}
use Rattle.rfb_wire.specs.declared.client_head.ClientHead.TheVariants.{SetPixelFormat, SetEncodings, Request, Key}
use Rattle.rfb_wire.specs.declared.client_head.ClientHead.TheVariants.{Pointer, CutText}
use Rattle.rfb_wire.specs.Encoding.{number_of}
use Rattle.rfb_wire.specs.ClientHead.{client_head_bytes}

-- SetPixelFormat, section 7.5.1
abbrev pub format_message : PixelFormat → List ℕ
format_message form = client_head_bytes (SetPixelFormat (format_bytes form))

-- the number of an encoding, an S32
abbrev pub encoding_bytes : Encoding → List ℕ
encoding_bytes encoding = big_bytes 4 (cast_unsigned w32 (number_of encoding))

-- the numbers of encodings, one after another
abbrev pub number_bytes : List Encoding → List ℕ
number_bytes encodings = flat_map encoding_bytes encodings

-- SetEncodings, section 7.5.2, with its list in that order
abbrev pub encodings_message : List Encoding → List ℕ
encodings_message encodings =
    client_head_bytes (SetEncodings (length encodings)) ++ number_bytes encodings

-- FramebufferUpdateRequest, section 7.5.3
abbrev pub request_message : Bool → Rect → List ℕ
request_message incremental rect = client_head_bytes (Request incremental rect)

-- KeyEvent, section 7.5.4
abbrev pub key_message : Bool → ℕ → List ℕ
key_message down key = client_head_bytes (Key down key)

-- PointerEvent, section 7.5.5
abbrev pub pointer_message : ℕ → ℕ → ℕ → List ℕ
pointer_message buttons x y = client_head_bytes (Pointer buttons x y)

-- ClientCutText, section 7.5.6
abbrev pub text_message : List ℕ → List ℕ
text_message text = client_head_bytes (CutText (length text)) ++ text

-- what a viewer sends once the handshake is done: the format that it wants, and the encodings that
-- it takes
abbrev pub ready_bytes : PixelFormat → List Encoding → List ℕ
ready_bytes form encodings = format_message form ++ encodings_message encodings
