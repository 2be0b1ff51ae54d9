-- The head of a rectangle of an update, RFC 6143 section 7.6.1, and the screen that it must lie on.
use Rattle.std.specs.Prelude.{◌≡◌, ℕ, ◌+◌, ◌≤◌, List, ◌++◌, length, take}
use Rattle.std.specs.Int.{cast_unsigned, w32}
use Rattle.byteorder.specs.Endian.{big_bytes}
use Rattle.rfb_picture.specs.declared.rect.Rect.{Rect}
use Rattle.rfb_wire.specs.declared.fault.WireFault.{WireFault}
use Rattle.rfb_wire.specs.declared.fault.WireFault.TheVariants.{UnknownMessage, UnknownEncoding, RectOutside}
use Rattle.rfb_wire.specs.declared.rect_head.RectHead.{RectHead}
use Rattle.rfb_wire.specs.Fields.{s32_at, IsRectAt, rect_bytes}
use Rattle.rfb_wire.specs.Encoding.{number_of, IsNoEncoding}

-- the bytes are this head on the wire: x-position, y-position, width and
-- height, and S32 encoding-type
pub record SpellsRectHead (head : RectHead) (bytes : List ℕ) : Type 0 where
  pub size : length bytes ≡ 12
  pub rect_is : IsRectAt 0 head.rect bytes
  pub encoding_is : s32_at 8 bytes ≡ number_of head.encoding

-- no edge of the rectangle passes the screen's; one without a place is judged by its edges too
abbrev pub IsOnScreen : ℕ → ℕ → Rect → Type 0
IsOnScreen width height rect = (rect.x + rect.w ≤ width) × (rect.y + rect.h ≤ height)

-- the bytes begin with the head of a rectangle that leaves the screen
pub record BeginsOutside (width height : ℕ) (bytes : List ℕ) : Type 0 where
  pub head : RectHead
  pub spelled : SpellsRectHead head (take 12 bytes)
  pub outside : IsOnScreen width height head.rect → ⊥

-- the fault of a rectangle's head, once its 12 bytes are there
abbrev pub IsRectFault : ℕ → ℕ → WireFault → List ℕ → Type 0
IsRectFault width height (UnknownMessage first) bytes = ⊥
IsRectFault width height (UnknownEncoding number) bytes =
    (12 ≤ length bytes) × (s32_at 8 bytes ≡ number) × IsNoEncoding number
IsRectFault width height RectOutside bytes = BeginsOutside width height bytes

-- the bytes that a head is written as
abbrev pub rect_head_bytes : RectHead → List ℕ
rect_head_bytes head =
    rect_bytes head.rect ++ big_bytes 4 (cast_unsigned w32 (number_of head.encoding))
