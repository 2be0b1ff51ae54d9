-- The heads of the messages from client to server, RFC 6143 section 7.5, field by field as in
-- its tables. A head is what comes before a list or a text that a message ends with.
use Rattle.std.specs.Prelude.{◌≡◌, ℕ, Bool, List, ◌∷◌, ◌++◌, length, drop, Option, Some, None, if◌then◌else◌, ◌==◌}
use Rattle.byteorder.specs.Endian.{big_bytes}
use Rattle.rfb_picture.specs.declared.rect.Rect.{Rect}
use Rattle.rfb_wire.specs.declared.client_head.ClientHead.{ClientHead}
use Rattle.rfb_wire.specs.declared.client_head.ClientHead.TheVariants.{SetPixelFormat, SetEncodings, Request, Key}
use Rattle.rfb_wire.specs.declared.client_head.ClientHead.TheVariants.{Pointer, CutText}
use Rattle.rfb_wire.specs.Fields.{u8_at, u16_at, u32_at, flag_at, IsRectAt, flag_byte, rect_bytes}

-- SetPixelFormat, section 7.5.1: three bytes of padding after the type
pub record SpellsSetPixelFormat (pixel_format bytes : List ℕ) : Type 0 where
  pub size : length bytes ≡ 20
  pub message_type : u8_at 0 bytes ≡ 0
  pub pixel_format_is : drop 4 bytes ≡ pixel_format

-- SetEncodings up to its list, section 7.5.2: one byte of padding after the type
pub record SpellsSetEncodings (number_of_encodings : ℕ) (bytes : List ℕ) : Type 0 where
  pub size : length bytes ≡ 4
  pub message_type : u8_at 0 bytes ≡ 2
  pub number_is : u16_at 2 bytes ≡ number_of_encodings

-- FramebufferUpdateRequest, section 7.5.3
pub record SpellsRequest (incremental : Bool) (rect : Rect) (bytes : List ℕ) : Type 0 where
  pub size : length bytes ≡ 10
  pub message_type : u8_at 0 bytes ≡ 3
  pub incremental_is : flag_at 1 bytes ≡ incremental
  pub rect_is : IsRectAt 2 rect bytes

-- KeyEvent, section 7.5.4: two bytes of padding after the flag
pub record SpellsKey (down_flag : Bool) (key : ℕ) (bytes : List ℕ) : Type 0 where
  pub size : length bytes ≡ 8
  pub message_type : u8_at 0 bytes ≡ 4
  pub down_flag_is : flag_at 1 bytes ≡ down_flag
  pub key_is : u32_at 4 bytes ≡ key

-- PointerEvent, section 7.5.5
pub record SpellsPointer (button_mask x_position y_position : ℕ) (bytes : List ℕ) : Type 0 where
  pub size : length bytes ≡ 6
  pub message_type : u8_at 0 bytes ≡ 5
  pub button_mask_is : u8_at 1 bytes ≡ button_mask
  pub x_position_is : u16_at 2 bytes ≡ x_position
  pub y_position_is : u16_at 4 bytes ≡ y_position

-- ClientCutText up to its text, section 7.5.6: three bytes of padding after the type
pub record SpellsClientCutText (text_length : ℕ) (bytes : List ℕ) : Type 0 where
  pub size : length bytes ≡ 8
  pub message_type : u8_at 0 bytes ≡ 6
  pub length_is : u32_at 4 bytes ≡ text_length

-- the bytes are this head on the wire
abbrev pub SpellsClientHead : ClientHead → List ℕ → Type 0
SpellsClientHead (SetPixelFormat format) bytes = SpellsSetPixelFormat format bytes
SpellsClientHead (SetEncodings count) bytes = SpellsSetEncodings count bytes
SpellsClientHead (Request incremental rect) bytes = SpellsRequest incremental rect bytes
SpellsClientHead (Key down key) bytes = SpellsKey down key bytes
SpellsClientHead (Pointer buttons x y) bytes = SpellsPointer buttons x y bytes
SpellsClientHead (CutText text_length) bytes = SpellsClientCutText text_length bytes

-- the bytes that a head is written as: of its spellings the one with padding of
-- zeros and flags of 0 or 1
abbrev pub client_head_bytes : ClientHead → List ℕ
client_head_bytes (SetPixelFormat format) = 0 ∷ 0 ∷ 0 ∷ 0 ∷ format
client_head_bytes (SetEncodings count) = 2 ∷ 0 ∷ big_bytes 2 count
client_head_bytes (Request incremental rect) = 3 ∷ flag_byte incremental ∷ rect_bytes rect
client_head_bytes (Key down key) = 4 ∷ flag_byte down ∷ 0 ∷ 0 ∷ big_bytes 4 key
client_head_bytes (Pointer buttons x y) = 5 ∷ buttons ∷ (big_bytes 2 x ++ big_bytes 2 y)
client_head_bytes (CutText text_length) = 6 ∷ 0 ∷ 0 ∷ 0 ∷ big_bytes 4 text_length

-- how many bytes the head of a message of this type has, if there is one
abbrev pub client_head_size : ℕ → Option ℕ
client_head_size message_type =
    if message_type == 0 then Some 20 else
    if message_type == 2 then Some 4 else
    if message_type == 3 then Some 10 else
    if message_type == 4 then Some 8 else
    if message_type == 5 then Some 6 else
    if message_type == 6 then Some 8 else None
