-- The fields of a message at their offsets, RFC 6143 section 7: numbers of more than one byte are
-- big-endian, a flag is true where its byte is not zero, and padding may be any bytes.
use Rattle.std.specs.Prelude.{◌≡◌, ℕ, ◌+◌, ℤ, ◌==◌, Bool, not, List, ◌++◌, drop, slice_index, if◌then◌else◌}
use Rattle.std.specs.Int.{cast_signed, w32}
use Rattle.byteorder.specs.Endian.{big_bytes, big_number}
use Rattle.rfb_picture.specs.declared.rect.Rect.{Rect}

-- a U8
abbrev pub u8_at : ℕ → List ℕ → ℕ
u8_at offset bytes = slice_index bytes offset

-- a U16
abbrev pub u16_at : ℕ → List ℕ → ℕ
u16_at offset bytes = big_number 2 (drop offset bytes)

-- a U32
abbrev pub u32_at : ℕ → List ℕ → ℕ
u32_at offset bytes = big_number 4 (drop offset bytes)

-- an S32, in two's complement
abbrev pub s32_at : ℕ → List ℕ → ℤ
s32_at offset bytes = cast_signed w32 (u32_at offset bytes)

-- a flag of one byte
abbrev pub flag_at : ℕ → List ℕ → Bool
flag_at offset bytes = not (u8_at offset bytes == 0)

-- a rectangle: U16 x-position, U16 y-position, U16 width and U16 height
pub record IsRectAt (offset : ℕ) (rect : Rect) (bytes : List ℕ) : Type 0 where
  pub x_position : u16_at offset bytes ≡ rect.x
  pub y_position : u16_at (offset + 2) bytes ≡ rect.y
  pub width : u16_at (offset + 4) bytes ≡ rect.w
  pub height : u16_at (offset + 6) bytes ≡ rect.h

-- the byte that a flag is written as
abbrev pub flag_byte : Bool → ℕ
flag_byte flag = if flag then 1 else 0

-- the bytes that a rectangle is written as
abbrev pub rect_bytes : Rect → List ℕ
rect_bytes rect =
    big_bytes 2 rect.x ++ big_bytes 2 rect.y ++ big_bytes 2 rect.w ++ big_bytes 2 rect.h
