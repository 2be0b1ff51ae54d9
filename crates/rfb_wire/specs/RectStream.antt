-- The head of a rectangle in a stream, RFC 6143 section 7.6.1: what bytes begin with where one
-- is next, on a screen of that size.
use Rattle.std.specs.Prelude.{◌≡◌, ℕ, zero, suc, ℤ, pos, negsuc, ◌+◌, ◌&&◌, Bool, List, length, Option, Some, None}
use Rattle.std.specs.Prelude.{nat_le, if◌then◌else◌}
use Rattle.rfb_picture.specs.declared.rect.Rect.{Rect}
use Rattle.rfb_wire.specs.declared.encoding.Encoding.{Encoding}
use Rattle.rfb_wire.specs.declared.encoding.Encoding.TheVariants.{Raw, CopyRect, Rre, Hextile}
use Rattle.rfb_wire.specs.declared.rect_head.RectHead.{RectHead}
use Rattle.rfb_wire.specs.declared.fault.WireFault.{WireFault}
use Rattle.rfb_wire.specs.declared.fault.WireFault.TheVariants.{UnknownEncoding, RectOutside}
use Rattle.rfb_wire.specs.Fields.{u16_at, s32_at}
use Rattle.rfb_wire.specs.stream.Prefix.{Reading, Says}
use Rattle.rfb_wire.specs.stream.Parts.{checked}
use Rattle.rfb_wire.specs.RectHead.{SpellsRectHead, IsOnScreen, IsRectFault}

-- twelve bytes are this head, and its rectangle lies on the screen; or they are at fault
abbrev pub rect_head_says : ℕ → ℕ → Says RectHead WireFault
rect_head_says width height = record {
  item = λ head bytes. SpellsRectHead head bytes × IsOnScreen width height head.rect;
  fault = λ fault bytes. (length bytes ≡ 12) × IsRectFault width height fault bytes;
}

-- the encoding of a number that is not negative
abbrev pub encoding_numbered : ℕ → Option Encoding
encoding_numbered zero = Some Raw
encoding_numbered (suc zero) = Some CopyRect
encoding_numbered (suc (suc zero)) = Some Rre
encoding_numbered (suc (suc (suc zero))) = None
encoding_numbered (suc (suc (suc (suc zero)))) = None
encoding_numbered (suc (suc (suc (suc (suc zero))))) = Some Hextile
encoding_numbered (suc (suc (suc (suc (suc (suc n)))))) = None

-- the encoding of a number
abbrev pub encoding_of : ℤ → Option Encoding
encoding_of (pos n) = encoding_numbered n
encoding_of (negsuc n) = None

-- the rectangle that bytes begin with
abbrev pub rect_of : List ℕ → Rect
rect_of bytes =
    record { x = u16_at 0 bytes; y = u16_at 2 bytes; w = u16_at 4 bytes; h = u16_at 6 bytes }

-- no edge of the rectangle passes the screen's
abbrev pub is_on_screen : ℕ → ℕ → Rect → Bool
is_on_screen width height rect = nat_le (rect.x + rect.w) width && nat_le (rect.y + rect.h) height

-- the fault of a place, if it has one
abbrev pub place_fault : ℕ → ℕ → Rect → Option WireFault
place_fault width height rect = if is_on_screen width height rect then None else Some RectOutside

-- the fault of a head of this encoding, if it has one: the encoding is judged before the place
abbrev pub head_fault : ℕ → ℕ → ℤ → Option Encoding → Rect → Option WireFault
head_fault width height number None rect = Some (UnknownEncoding number)
head_fault width height number (Some encoding) rect = place_fault width height rect

-- the encoding that was found, or another where none was
abbrev pub or_raw : Option Encoding → Encoding
or_raw None = Raw
or_raw (Some encoding) = encoding

-- the head that twelve bytes are
abbrev pub rect_head_of : List ℕ → RectHead
rect_head_of bytes =
    record { rect = rect_of bytes; encoding = or_raw (encoding_of (s32_at 8 bytes)) }

-- a head
unfoldable pub rect_head : ℕ → ℕ → Reading RectHead WireFault
rect_head width height =
    checked 12 (λ bytes.
    head_fault width height (s32_at 8 bytes) (encoding_of (s32_at 8 bytes)) (rect_of bytes))
    rect_head_of
