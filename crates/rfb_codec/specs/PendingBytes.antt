-- Pending bytes of all that a server sends: those of an item under way after its last whole piece.
-- The pieces of a rectangle's data, RFC 6143 section 7.7, depend on its encoding. Raw has pixels.
-- CopyRect has its source. RRE has the count with the background, and subrectangles. Hextile has the
-- pixels of a raw tile, and any other tile with its mask.
use Rattle.std.specs.Prelude.{ℕ, zero, suc, ◌+◌, List, [], ◌∷◌, ◌++◌, length, take, if◌then◌else◌}
use Rattle.rfb_pixel.specs.Format.{PixelFormat, size_of}
use Rattle.rfb_picture.specs.declared.rect.Rect.{Rect}
use Rattle.rfb_wire.specs.declared.encoding.Encoding.{Encoding}
use Rattle.rfb_wire.specs.declared.encoding.Encoding.TheVariants.{Raw, CopyRect, Rre, Hextile}
use Rattle.rfb_wire.specs.declared.rect_head.RectHead.{RectHead}
use Rattle.rfb_wire.specs.stream.Prefix.{Next, More, Got, Bad}
use Rattle.rfb_wire.specs.RectStream.{rect_head_of}
use Rattle.rfb_wire.specs.stream.PendingBytes.{in_pieces, after_piece, after_pieces}
use Rattle.rfb_wire.specs.MessagePieces.{server_pending, rect_pending}
use Rattle.rfb_codec.specs.declared.fault.PaintFault.{PaintFault}
use Rattle.rfb_codec.specs.Tile.{Tile, is_raw}
use Rattle.rfb_codec.specs.Hextile.{tile_count}
use Rattle.rfb_codec.specs.Hextile.{next_tile}
use Rattle.rfb_codec.specs.UpdateStream.{UpdatePoint}

-- ---- Hextile

-- of a tile under way: those of a pixel where it is raw, since its mask is no longer needed; else
-- all its bytes with the mask
abbrev pub tile_pending : PixelFormat → List ℕ → ℕ
tile_pending f [] = 0
tile_pending f (mask ∷ rest) =
    if is_raw mask then in_pieces (size_of f) rest else length (mask ∷ rest)

-- how many are pending after what was read of tiles: nothing of whole ones, and nothing of a fault
abbrev pub after_tile : ℕ → (Tile → List ℕ → ℕ) → Next Tile PaintFault → ℕ
after_tile waiting later More = waiting
after_tile waiting later (Got tile rest) = later tile rest
after_tile waiting later (Bad fault) = 0

-- of `left` tiles after those before them: of the first that is not whole
abbrev pub tiles_pending : PixelFormat → ℕ → ℕ → ℕ → List Tile → List ℕ → ℕ
tiles_pending f width height zero before bytes = 0
tiles_pending f width height (suc left) before bytes =
    after_tile (tile_pending f bytes)
    (λ tile rest. tiles_pending f width height left (before ++ tile ∷ []) rest)
    (next_tile f width height before bytes)

-- ---- a rectangle

-- how many bytes of a rectangle's data are pending
unfoldable pub data_pending : PixelFormat → Rect → Encoding → List ℕ → ℕ
data_pending f rect Raw bytes = in_pieces (size_of f) bytes
data_pending f rect CopyRect bytes = after_piece 4 (λ rest. 0) bytes
data_pending f rect Rre bytes = after_pieces (4 + size_of f) (size_of f + 8) bytes
data_pending f rect Hextile bytes =
    tiles_pending f rect.w rect.h (tile_count rect.w rect.h) [] bytes

-- how many of these bytes are pending after a head
abbrev pub pending_after_head : PixelFormat → RectHead → List ℕ → ℕ
pending_after_head f head bytes = data_pending f head.rect head.encoding bytes

-- ---- the stream

-- how many are pending, by how many rectangles are left: of a message, or of a rectangle
abbrev pub next_pending : PixelFormat → ℕ → List ℕ → ℕ
next_pending f zero bytes = server_pending bytes
next_pending f (suc left) bytes =
    rect_pending (pending_after_head f (rect_head_of (take 12 bytes))) bytes

-- how many bytes of an item under way are pending at a point of the stream
unfoldable pub update_pending : UpdatePoint → List ℕ → ℕ
update_pending p bytes = next_pending p.form p.left bytes
