-- The heads of the messages from server to client, RFC 6143 section 7.6, field by field as
-- in its tables. A head is what comes before the rectangles, the colours or the text that a
-- message ends with.
use Rattle.std.specs.Prelude.{◌≡◌, ℕ, List, [], ◌∷◌, ◌++◌, length, Option, Some, None, if◌then◌else◌, ◌==◌}
use Rattle.byteorder.specs.Endian.{big_bytes}
use Rattle.rfb_wire.specs.declared.server_head.ServerHead.{ServerHead}
use Rattle.rfb_wire.specs.declared.server_head.ServerHead.TheVariants.{Update, ColourMap, Bell, CutText}
use Rattle.rfb_wire.specs.Fields.{u8_at, u16_at, u32_at}

-- FramebufferUpdate up to its rectangles, section 7.6.1: one byte of padding after the type
pub record SpellsUpdate (number_of_rectangles : ℕ) (bytes : List ℕ) : Type 0 where
  pub size : length bytes ≡ 4
  pub message_type : u8_at 0 bytes ≡ 0
  pub number_is : u16_at 2 bytes ≡ number_of_rectangles

-- SetColorMapEntries up to its colours, section 7.6.2: one byte of padding after the type
pub record SpellsColourMap (first_colour number_of_colours : ℕ) (bytes : List ℕ) : Type 0 where
  pub size : length bytes ≡ 6
  pub message_type : u8_at 0 bytes ≡ 1
  pub first_is : u16_at 2 bytes ≡ first_colour
  pub number_is : u16_at 4 bytes ≡ number_of_colours

-- Bell, section 7.6.3
pub record SpellsBell (bytes : List ℕ) : Type 0 where
  pub size : length bytes ≡ 1
  pub message_type : u8_at 0 bytes ≡ 2

-- ServerCutText up to its text, section 7.6.4: three bytes of padding after the type
pub record SpellsServerCutText (text_length : ℕ) (bytes : List ℕ) : Type 0 where
  pub size : length bytes ≡ 8
  pub message_type : u8_at 0 bytes ≡ 3
  pub length_is : u32_at 4 bytes ≡ text_length

-- the bytes are this head on the wire
abbrev pub SpellsServerHead : ServerHead → List ℕ → Type 0
SpellsServerHead (Update count) bytes = SpellsUpdate count bytes
SpellsServerHead (ColourMap first count) bytes = SpellsColourMap first count bytes
SpellsServerHead Bell bytes = SpellsBell bytes
SpellsServerHead (CutText text_length) bytes = SpellsServerCutText text_length bytes

-- the bytes that a head is written as: of its spellings the one with padding of zeros
abbrev pub server_head_bytes : ServerHead → List ℕ
server_head_bytes (Update count) = 0 ∷ 0 ∷ big_bytes 2 count
server_head_bytes (ColourMap first count) = 1 ∷ 0 ∷ (big_bytes 2 first ++ big_bytes 2 count)
server_head_bytes Bell = 2 ∷ []
server_head_bytes (CutText text_length) = 3 ∷ 0 ∷ 0 ∷ 0 ∷ big_bytes 4 text_length

-- how many bytes the head of a message of this type has, if there is one
abbrev pub server_head_size : ℕ → Option ℕ
server_head_size message_type =
    if message_type == 0 then Some 4 else
    if message_type == 1 then Some 6 else
    if message_type == 2 then Some 1 else
    if message_type == 3 then Some 8 else None
