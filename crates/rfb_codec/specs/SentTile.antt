-- The bytes that this project sends a tile of Hextile as, RFC 6143 section 7.7.4. Its mask has a bit
-- for each thing that follows it, and no bit that nothing reads.
use Rattle.std.specs.Prelude.{ℕ, ◌+◌, ◌-◌, ◌*◌, Bool, true, false, List, [], ◌∷◌, ◌++◌, length, Option, Some, None}
use Rattle.std.specs.Prelude.{bit_or, if◌then◌else◌}
use Rattle.std.specs.List.{flat_map}
use Rattle.rfb_pixel.specs.Format.{PixelFormat, pixel_bytes}
use Rattle.rfb_picture.specs.declared.rect.Rect.{Rect}
use Rattle.rfb_codec.specs.declared.subrect.Subrect.{Subrect}
use Rattle.rfb_codec.specs.Tile.{Tile, RawTile, PlainTile, ColoredTile}

-- ---- the mask

-- the value of a bit, where it is set
abbrev pub bit_if : ℕ → Bool → ℕ
bit_if value set = if set then value else 0

abbrev pub is_there : Option ℕ → Bool
is_there None = false
is_there (Some colour) = true

abbrev pub are_some : {A : Type 0} → List A → Bool
are_some [] = false
are_some (part ∷ parts) = true

-- Raw; or BackgroundSpecified, ForegroundSpecified and AnySubrects for what is there, and
-- SubrectsColored where subrectangles have pixels of their own
abbrev pub tile_mask : Tile → ℕ
tile_mask (RawTile pixels) = 1
tile_mask (PlainTile background foreground places) =
    bit_or (bit_or (bit_if 2 (is_there background)) (bit_if 4 (is_there foreground)))
    (bit_if 8 (are_some places))
tile_mask (ColoredTile background subs) =
    bit_or (bit_or (bit_if 2 (is_there background)) (bit_if 8 (are_some subs))) 16

-- ---- what follows it

-- a colour, if it is named
abbrev pub colour_bytes : PixelFormat → Option ℕ → List ℕ
colour_bytes f None = []
colour_bytes f (Some colour) = pixel_bytes f colour

-- a subrectangle's place and size
abbrev pub place_bytes : Rect → List ℕ
place_bytes place = (place.x * 16 + place.y) ∷ ((place.w - 1) * 16 + (place.h - 1)) ∷ []

-- the same after its pixel
abbrev pub colored_bytes : PixelFormat → Subrect → List ℕ
colored_bytes f s = pixel_bytes f s.pixel ++ place_bytes s.rect

-- how many there are, if there are any
abbrev pub count_bytes : {A : Type 0} → List A → List ℕ
count_bytes [] = []
count_bytes (part ∷ parts) = length (part ∷ parts) ∷ []

-- their count and they
abbrev pub counted_bytes : {A : Type 0} → (A → List ℕ) → List A → List ℕ
counted_bytes bytes parts = count_bytes parts ++ flat_map bytes parts

-- ---- the tile

abbrev pub sent_as : PixelFormat → Tile → List ℕ
sent_as f (RawTile pixels) = tile_mask (RawTile pixels) ∷ pixels
sent_as f (PlainTile background foreground places) =
    tile_mask (PlainTile background foreground places)
    ∷ (colour_bytes f background ++ (colour_bytes f foreground ++ counted_bytes place_bytes places))
sent_as f (ColoredTile background subs) =
    tile_mask (ColoredTile background subs)
    ∷ (colour_bytes f background ++ counted_bytes (colored_bytes f) subs)
