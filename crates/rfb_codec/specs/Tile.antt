-- A tile of Hextile, RFC 6143 section 7.7.4: its mask, what follows it, and the faults of both.
-- That colours are carried from tile to tile past a raw or a coloured one is this project's
-- choice.
use Rattle.std.specs.Prelude.{◌≡◌, ℕ, ◌+◌, ◌-◌, ◌*◌, ◌/◌, ◌%◌, ◌≤◌, ◌<◌, ◌==◌, ◌&&◌, not, Bool, true, false, List, []}
use Rattle.std.specs.Prelude.{◌∷◌, ◌++◌, length, drop, map, Option, Some, None, bit_and, if◌then◌else◌}
use Rattle.rfb_pixel.specs.Format.{PixelFormat, size_of, pixel_number}
use Rattle.rfb_picture.specs.declared.rect.Rect.{Rect}
use Rattle.rfb_wire.specs.Fields.{u8_at}
use Rattle.rfb_wire.specs.stream.Prefix.{Reading, Listed, Optionally}
use Rattle.rfb_wire.specs.stream.Parts.{piece, done, judged, and_then, valued, checked, optional, many}
use Rattle.rfb_wire.specs.RectHead.{IsOnScreen}
use Rattle.rfb_wire.specs.RectStream.{is_on_screen}
use Rattle.rfb_codec.specs.declared.subrect.Subrect.{Subrect}
use Rattle.rfb_codec.specs.declared.fault.PaintFault.{PaintFault}
use Rattle.rfb_codec.specs.declared.fault.PaintFault.TheVariants.{SubrectOutside, NoBackground, NoForeground}
use Rattle.rfb_codec.specs.declared.fault.PaintFault.TheVariants.{BothColourBits}
use Rattle.rfb_codec.specs.Raw.{raw_length, raw_pixel}
use Rattle.rfb_codec.specs.Rre.{pixel_at}

-- ---- the mask

-- the bit of that value is set
abbrev pub has_bit : ℕ → ℕ → Bool
has_bit value mask = not (bit_and mask value == 0)

-- the tile's pixels follow as in Raw, and no other bit counts
abbrev pub is_raw : ℕ → Bool
is_raw mask = has_bit 1 mask

abbrev pub background_specified : ℕ → Bool
background_specified mask = has_bit 2 mask

abbrev pub foreground_specified : ℕ → Bool
foreground_specified mask = has_bit 4 mask

abbrev pub any_subrects : ℕ → Bool
any_subrects mask = has_bit 8 mask

abbrev pub subrects_colored : ℕ → Bool
subrects_colored mask = has_bit 16 mask

-- ---- a tile's value: what its bytes specify; nothing is carried into it

pub data Tile : Type 0 where
  RawTile : (pixels : List ℕ) → Tile
  PlainTile : (background foreground : Option ℕ) → (places : List Rect) → Tile
  ColoredTile : (background : Option ℕ) → (subs : List Subrect) → Tile

abbrev pub background_of : Tile → Option ℕ
background_of (RawTile pixels) = None
background_of (PlainTile background foreground places) = background
background_of (ColoredTile background subs) = background

abbrev pub foreground_of : Tile → Option ℕ
foreground_of (RawTile pixels) = None
foreground_of (PlainTile background foreground places) = foreground
foreground_of (ColoredTile background subs) = None

-- the later of two colours, if there is one
abbrev pub later : Option ℕ → Option ℕ → Option ℕ
later None first = first
later (Some colour) first = Some colour

-- the colour that the last tile specifies, of those that specify one
abbrev pub last_of : (Tile → Option ℕ) → List Tile → Option ℕ
last_of colour [] = None
last_of colour (t ∷ tiles) = later (last_of colour tiles) (colour t)

-- that colour, where there is one
abbrev pub colour_or_zero : Option ℕ → ℕ
colour_or_zero None = 0
colour_or_zero (Some colour) = colour

-- a place's subrectangle of that pixel
abbrev pub in_pixel : ℕ → Rect → Subrect
in_pixel pixel place = record { pixel = pixel; rect = place }

-- the pixel at place (x, y) of a tile so wide, where the list has the tiles up to it and with it:
-- as in Raw; or as in RRE, with the last background and foreground specified
abbrev pub tile_pixel : PixelFormat → ℕ → List Tile → Tile → ℕ → ℕ → ℕ
tile_pixel f width upto (RawTile pixels) x y = raw_pixel f width pixels x y
tile_pixel f width upto (PlainTile background foreground places) x y =
    pixel_at (colour_or_zero (last_of background_of upto))
    (map (in_pixel (colour_or_zero (last_of foreground_of upto))) places) x y
tile_pixel f width upto (ColoredTile background subs) x y =
    pixel_at (colour_or_zero (last_of background_of upto)) subs x y

-- ---- what is judged

abbrev pub is_missing : Option ℕ → Bool
is_missing None = true
is_missing (Some colour) = false

-- the fault of a mask after these tiles, if it has one: no background to draw over; both bits that
-- say where the subrectangles' pixels are; no foreground for subrectangles that have none of their
-- own
abbrev pub mask_fault : List Tile → ℕ → Option PaintFault
mask_fault before mask =
    if is_raw mask then None else
    if not (background_specified mask) &&
    is_missing (last_of background_of before) then Some NoBackground else
    if foreground_specified mask && subrects_colored mask then Some BothColourBits else
    if any_subrects mask &&
    (not (foreground_specified mask) &&
    (not (subrects_colored mask) && is_missing (last_of foreground_of before))) then
    Some NoForeground else None

-- the places lie in the tile, which has that width and height
abbrev pub AreInside : ℕ → ℕ → List Rect → Type 0
AreInside width height [] = Unit {0}
AreInside width height (place ∷ places) =
    IsOnScreen width height place × AreInside width height places

abbrev pub rect_in : Subrect → Rect
rect_in s = s.rect

-- the places of a tile's subrectangles
abbrev pub places_of : Tile → List Rect
places_of (RawTile pixels) = []
places_of (PlainTile background foreground places) = places
places_of (ColoredTile background subs) = map rect_in subs

-- they lie in it
abbrev pub FitsTile : ℕ → ℕ → Tile → Type 0
FitsTile width height tile = AreInside width height (places_of tile)

-- ---- the bytes

-- a pixel of its own
pub record SpellsPixel (f : PixelFormat) (pixel : ℕ) (bytes : List ℕ) : Type 0 where
  pub size : length bytes ≡ size_of f
  pub pixel_is : pixel_number f bytes ≡ pixel

-- a subrectangle's place in two bytes: x * 16 + y, and (width - 1) * 16 + height - 1
pub record SpellsPlace (place : Rect) (bytes : List ℕ) : Type 0 where
  pub size : length bytes ≡ 2
  pub position_is : u8_at 0 bytes ≡ place.x * 16 + place.y
  pub size_is : u8_at 1 bytes ≡ (place.w - 1) * 16 + (place.h - 1)
  pub low : place.y < 16
  pub wide : 1 ≤ place.w
  pub high : 1 ≤ place.h
  pub short : place.h ≤ 16

-- a subrectangle with its pixel
pub record SpellsColored (f : PixelFormat) (s : Subrect) (bytes : List ℕ) : Type 0 where
  pub size : length bytes ≡ size_of f + 2
  pub pixel_is : pixel_number f bytes ≡ s.pixel
  pub place_is : SpellsPlace s.rect (drop (size_of f) bytes)

module _ {A : Type 0} where
  -- items after a byte that counts them
  pub record Counted (R : A → List ℕ → Type 0) (items : List A) (bytes : List ℕ) : Type 0 where
    pub head : List ℕ
    pub list : List ℕ
    pub whole : bytes ≡ head ++ list
    pub one : length head ≡ 1
    pub count_is : u8_at 0 head ≡ length items
    pub listed : Listed R items list

  -- none where there is no such byte
  abbrev pub CountedIf : Bool → (A → List ℕ → Type 0) → List A → List ℕ → Type 0
  CountedIf false R items bytes = (items ≡ []) × (bytes ≡ [])
  CountedIf true R items bytes = Counted R items bytes

-- after a mask without SubrectsColored: the background and the foreground where specified, and
-- places
pub record SpellsPlain (f : PixelFormat) (mask : ℕ) (background foreground : Option ℕ)
    (places : List Rect) (bytes : List ℕ) : Type 0 where
  pub first : List ℕ
  pub second : List ℕ
  pub third : List ℕ
  pub whole : bytes ≡ first ++ (second ++ third)
  pub background_is : Optionally (background_specified mask) (SpellsPixel f) background first
  pub foreground_is : Optionally (foreground_specified mask) (SpellsPixel f) foreground second
  pub places_are : CountedIf (any_subrects mask) SpellsPlace places third

-- after one with it: the background where specified, and subrectangles with their pixels
pub record SpellsColoredTile (f : PixelFormat) (mask : ℕ) (background : Option ℕ)
    (subs : List Subrect) (bytes : List ℕ) : Type 0 where
  pub first : List ℕ
  pub second : List ℕ
  pub whole : bytes ≡ first ++ second
  pub background_is : Optionally (background_specified mask) (SpellsPixel f) background first
  pub subs_are : CountedIf (any_subrects mask) (SpellsColored f) subs second

-- the bytes after the mask of a tile of that size
abbrev pub SpellsAfter : PixelFormat → ℕ → ℕ → ℕ → Tile → List ℕ → Type 0
SpellsAfter f width height mask (RawTile pixels) bytes =
    (is_raw mask ≡ true) × (bytes ≡ pixels) × (length bytes ≡ raw_length f width height)
SpellsAfter f width height mask (PlainTile background foreground places) bytes =
    (is_raw mask ≡ false) × (subrects_colored mask ≡ false) ×
    SpellsPlain f mask background foreground places bytes
SpellsAfter f width height mask (ColoredTile background subs) bytes =
    (is_raw mask ≡ false) × (subrects_colored mask ≡ true) ×
    SpellsColoredTile f mask background subs bytes

-- a tile of that size after others: its mask, which is good there, and what follows it
pub record SpellsTile (f : PixelFormat) (width height : ℕ) (before : List Tile) (tile : Tile)
    (bytes : List ℕ) : Type 0 where
  pub head : List ℕ
  pub rest : List ℕ
  pub whole : bytes ≡ head ++ rest
  pub one : length head ≡ 1
  pub good : mask_fault before (u8_at 0 head) ≡ None
  pub after : SpellsAfter f width height (u8_at 0 head) tile rest

-- the bytes end in this fault: at a mask, or at the last byte of a tile that a subrectangle leaves
pub record FaultsMask (before : List Tile) (fault : PaintFault) (bytes : List ℕ) : Type 0 where
  pub one : length bytes ≡ 1
  pub bad : mask_fault before (u8_at 0 bytes) ≡ Some fault

pub record LeavesTile (f : PixelFormat) (width height : ℕ) (before : List Tile) (bytes : List ℕ)
    : Type 0 where
  pub tile : Tile
  pub spelled : SpellsTile f width height before tile bytes
  pub leaves : FitsTile width height tile → ⊥

-- ---- the reading

-- a pixel
abbrev pub tile_colour : PixelFormat → Reading ℕ PaintFault
tile_colour f = valued (size_of f) (pixel_number f)

-- the place that two bytes are
abbrev pub place_of : List ℕ → Rect
place_of bytes =
    record {
      x = u8_at 0 bytes / 16;
      y = u8_at 0 bytes % 16;
      w = u8_at 1 bytes / 16 + 1;
      h = u8_at 1 bytes % 16 + 1;
    }

-- the subrectangle that a pixel and two bytes are
abbrev pub colored_of : PixelFormat → List ℕ → Subrect
colored_of f bytes =
    record { pixel = pixel_number f bytes; rect = place_of (drop (size_of f) bytes) }

-- parts after a byte that counts them, or none
abbrev pub counted : {A : Type 0} → Bool → Reading A PaintFault → Reading (List A) PaintFault
counted false p = done []
counted true p = and_then (valued 1 (u8_at 0)) (λ count. many count p)

-- what follows the mask
abbrev pub after_mask : PixelFormat → ℕ → ℕ → ℕ → Bool → Bool → Reading Tile PaintFault
after_mask f width height mask true colored =
    and_then (piece (raw_length f width height)) (λ pixels. done (RawTile pixels))
after_mask f width height mask false false =
    and_then (optional (background_specified mask) (tile_colour f))
    (λ background. and_then (optional (foreground_specified mask) (tile_colour f))
    (λ foreground. and_then (counted (any_subrects mask) (valued 2 place_of))
    (λ places. done (PlainTile background foreground places))))
after_mask f width height mask false true =
    and_then (optional (background_specified mask) (tile_colour f))
    (λ background. and_then (counted (any_subrects mask) (valued (size_of f + 2) (colored_of f)))
    (λ subs. done (ColoredTile background subs)))

-- a tile as its bytes spell it
abbrev pub tile_layout : PixelFormat → ℕ → ℕ → List Tile → Reading Tile PaintFault
tile_layout f width height before =
    and_then (checked 1 (λ bytes. mask_fault before (u8_at 0 bytes)) (u8_at 0))
    (λ mask. after_mask f width height mask (is_raw mask) (subrects_colored mask))

-- all places lie in the tile
abbrev pub are_inside : ℕ → ℕ → List Rect → Bool
are_inside width height [] = true
are_inside width height (place ∷ places) =
    is_on_screen width height place && are_inside width height places

-- the fault of a whole tile, if it has one
abbrev pub tile_fault : ℕ → ℕ → Tile → Option PaintFault
tile_fault width height tile =
    if are_inside width height (places_of tile) then None else Some SubrectOutside

-- a tile, whose subrectangles are judged at its last byte
abbrev pub tile_after : PixelFormat → ℕ → ℕ → List Tile → Reading Tile PaintFault
tile_after f width height before =
    and_then (tile_layout f width height before)
    (λ tile. judged (tile_fault width height tile) tile)
