-- The bytes that an encoder makes of a tile spell it.
use Rattle.std.proofs.Common.{◌≡◌, ℕ, suc, bit_or, ◌*◌, ◌≤◌, List, [], ◌∷◌, ◌++◌, Bool, true, false, Option, Some, None}
use Rattle.std.proofs.Common.{length, map, ◌&&◌, not, refl, sym, subst, ◌∙◌, ap, append-nil, arith, length-append}
use Rattle.std.specs.List.{flat_map}
use Rattle.std.proofs.Math.Nat.{mod-eq_of_lt}
use Rattle.std.proofs.lemmas.List.{drop_at}
use Rattle.rfb_pixel.specs.Format.{PixelFormat, size_of, pixel_bytes, pixel_number}
use Rattle.rfb_pixel.proofs.FormatLaws.{pixel_number-pixel_bytes}
use Rattle.rfb_wire.specs.stream.Prefix.{Listed, Optionally}
use Rattle.rfb_codec.specs.declared.subrect.Subrect.{Subrect}
use Rattle.rfb_codec.specs.declared.hextile.layout.TileLayout.{TileLayout}
use Rattle.rfb_codec.specs.declared.hextile.layout.TileLayout.TheVariants.{Raw, Plain, Colored}
use Rattle.rfb_codec.specs.Pixels.{IsPixel}
use Rattle.rfb_codec.specs.Tile.{is_raw, background_specified, foreground_specified, any_subrects, subrects_colored}
use Rattle.rfb_codec.specs.Tile.{Tile, background_of, foreground_of, later, last_of, is_missing, mask_fault, AreInside}
use Rattle.rfb_codec.specs.Tile.{FitsTile, rect_in, SpellsPixel, SpellsPlace, SpellsColored, CountedIf, SpellsTile}
use Rattle.rfb_codec.specs.encoder.TileSpelling.{tile_of, mask_of, own_place, after_bytes, tile_bytes, IsTilePart}
use Rattle.rfb_codec.specs.encoder.TileSpelling.{AreTileParts}
use Rattle.rfb_codec.specs.SentTile.{bit_if, is_there, are_some, colour_bytes, colored_bytes, counted_bytes}
use Rattle.rfb_codec.proofs.PixelLemmas.{length-pixel_bytes, length-pixels}

-- ---- subrectangles

-- a tile has at most 16 columns and rows
abbrev pub IsTileSize : ℕ → ℕ → Type 0
IsTileSize w h = (w ≤ 16) × (h ≤ 16)

-- a pixel is read back, whatever follows
pub pixel_back : (f : PixelFormat) (pixel : ℕ) (rest : List ℕ) → IsPixel f pixel →
    pixel_number f (pixel_bytes f pixel ++ rest) ≡ pixel
pixel_back f pixel rest small = pixel_number-pixel_bytes f pixel rest ∙ mod-eq_of_lt small

spells_pixel : (f : PixelFormat) (pixel : ℕ) → IsPixel f pixel → SpellsPixel f pixel (pixel_bytes f pixel)
spells_pixel f pixel small = record {
  size = length-pixel_bytes f pixel;
  pixel_is = subst (λ (bytes : List ℕ). pixel_number f bytes ≡ pixel) (append-nil (pixel_bytes f pixel))
      (pixel_back f pixel [] small);
}

spells_place : (f : PixelFormat) (w h : ℕ) (s : Subrect) → IsTileSize w h → IsTilePart f w h s →
    SpellsPlace s.rect (own_place s)
spells_place f w h s small part = record {
  size = refl;
  position_is = refl;
  size_is = refl;
  low = omega (arith, part.inside.1, part.high, small.1);
  wide = part.wide;
  high = part.high;
  short = omega (arith, part.inside.1, small.1);
}

spells_colored : (f : PixelFormat) (w h : ℕ) (s : Subrect) → IsTileSize w h → IsTilePart f w h s →
    SpellsColored f s (colored_bytes f s)
spells_colored f w h s small part = record {
  size = rw (length-append (pixel_bytes f s.pixel) (own_place s), length-pixel_bytes f s.pixel) refl;
  pixel_is = pixel_back f s.pixel (own_place s) part.pixel;
  place_is = rw (drop_at (pixel_bytes f s.pixel) (own_place s) (size_of f) (length-pixel_bytes f s.pixel))
      (spells_place f w h s small part);
}

listed_places : (f : PixelFormat) (w h : ℕ) (subs : List Subrect) → IsTileSize w h → AreTileParts f w h subs →
    Listed SpellsPlace (map rect_in subs) (flat_map own_place subs)
listed_places f w h [] small parts = refl
listed_places f w h (s ∷ subs) small parts = (
  own_place s,
  flat_map own_place subs,
  refl,
  spells_place f w h s small parts.0,
  listed_places f w h subs small parts.1,
)

listed_colored : (f : PixelFormat) (w h : ℕ) (subs : List Subrect) → IsTileSize w h → AreTileParts f w h subs →
    Listed (SpellsColored f) subs (flat_map (colored_bytes f) subs)
listed_colored f w h [] small parts = refl
listed_colored f w h (s ∷ subs) small parts = (
  colored_bytes f s,
  flat_map (colored_bytes f) subs,
  refl,
  spells_colored f w h s small parts.0,
  listed_colored f w h subs small parts.1,
)

length-places : (subs : List Subrect) → length (map rect_in subs) ≡ length subs
length-places [] = refl
length-places (s ∷ subs) = ap suc (length-places subs)

counted_places : (f : PixelFormat) (w h : ℕ) (subs : List Subrect) → IsTileSize w h → AreTileParts f w h subs →
    CountedIf (are_some subs) SpellsPlace (map rect_in subs) (counted_bytes own_place subs)
counted_places f w h [] small parts = (refl, refl)
counted_places f w h (s ∷ subs) small parts = record {
  head = length (s ∷ subs) ∷ [];
  list = flat_map own_place (s ∷ subs);
  whole = refl;
  one = refl;
  count_is = sym (length-places (s ∷ subs));
  listed = listed_places f w h (s ∷ subs) small parts;
}

counted_colored : (f : PixelFormat) (w h : ℕ) (subs : List Subrect) → IsTileSize w h → AreTileParts f w h subs →
    CountedIf (are_some subs) (SpellsColored f) subs (counted_bytes (colored_bytes f) subs)
counted_colored f w h [] small parts = (refl, refl)
counted_colored f w h (s ∷ subs) small parts = record {
  head = length (s ∷ subs) ∷ [];
  list = flat_map (colored_bytes f) (s ∷ subs);
  whole = refl;
  one = refl;
  count_is = refl;
  listed = listed_colored f w h (s ∷ subs) small parts;
}

fits : (f : PixelFormat) (w h : ℕ) (subs : List Subrect) → AreTileParts f w h subs → AreInside w h (map rect_in subs)
fits f w h [] parts = tt
fits f w h (s ∷ subs) parts = (parts.0.inside, fits f w h subs parts.1)

-- ---- masks

-- which bits of a mask are set
record HasBits (mask : ℕ) (background foreground any colored : Bool) : Type 0 where
  drawn : is_raw mask ≡ false
  background_is : background_specified mask ≡ background
  foreground_is : foreground_specified mask ≡ foreground
  any_is : any_subrects mask ≡ any
  colored_is : subrects_colored mask ≡ colored

-- the five bits of a mask, which are computed where it is a number
abbrev bits_of : ℕ → Bool × Bool × Bool × Bool × Bool
bits_of mask =
    (is_raw mask, background_specified mask, foreground_specified mask, any_subrects mask, subrects_colored mask)

has_bits : (mask : ℕ) (b g s c : Bool) → bits_of mask ≡ (false, b, g, s, c) → HasBits mask b g s c
has_bits mask b g s c e = record {
  drawn = λ i. (e i).0;
  background_is = λ i. (e i).1;
  foreground_is = λ i. (e i).2;
  any_is = λ i. (e i).3;
  colored_is = λ i. (e i).4;
}

abbrev PlainBits : Bool → Bool → Bool → Type 0
PlainBits b g s = bits_of (bit_or (bit_or (bit_if 2 b) (bit_if 4 g)) (bit_if 8 s)) ≡ (false, b, g, s, false)

bits_plain : (b g s : Bool) → PlainBits b g s
bits_plain true true s = elim s as (λ k. PlainBits true true k) [ true ↦ refl | false ↦ refl ]
bits_plain true false s = elim s as (λ k. PlainBits true false k) [ true ↦ refl | false ↦ refl ]
bits_plain false true s = elim s as (λ k. PlainBits false true k) [ true ↦ refl | false ↦ refl ]
bits_plain false false s = elim s as (λ k. PlainBits false false k) [ true ↦ refl | false ↦ refl ]

abbrev ColoredBits : Bool → Bool → Type 0
ColoredBits b s = bits_of (bit_or (bit_or (bit_if 2 b) (bit_if 8 s)) 16) ≡ (false, b, false, s, true)

bits_colored : (b s : Bool) → ColoredBits b s
bits_colored true s = elim s as (λ k. ColoredBits true k) [ true ↦ refl | false ↦ refl ]
bits_colored false s = elim s as (λ k. ColoredBits false k) [ true ↦ refl | false ↦ refl ]

-- the colour in force after tiles, where a tile specifies this one or none
abbrev pub IsInForce : Option ℕ → (Tile → Option ℕ) → List Tile → ℕ → Type 0
IsInForce specified colour before value = later specified (last_of colour before) ≡ Some value

there : (specified last : Option ℕ) (value : ℕ) → later specified last ≡ Some value →
    (not (is_there specified) && is_missing last) ≡ false
there None None value e = cc
there None (Some v) value e = refl
there (Some v) last value e = refl

not_needed : (any there' missing : Bool) → (any ≡ true → (not there' && missing) ≡ false) →
    (any && (not there' && (true && missing))) ≡ false
not_needed true true missing h = refl
not_needed true false true h = h refl
not_needed true false false h = refl
not_needed false there' missing h = refl

plain_good : (before : List Tile) (background foreground : Option ℕ) (subs : List Subrect) (b : ℕ) →
    IsInForce background background_of before b →
    (are_some subs ≡ true → (g : ℕ) × IsInForce foreground foreground_of before g) →
    mask_fault before (mask_of (Plain background foreground) subs) ≡ None
plain_good before background foreground subs b in_force used =
    let bits = has_bits _ _ _ _ _ (bits_plain (is_there background) (is_there foreground) (are_some subs)) in
    let one : (not (is_there background) && is_missing (last_of background_of before)) ≡ false =
    there background (last_of background_of before) b in_force in
    let two : (is_there foreground && false) ≡ false = both_false (is_there foreground) in
    let three : (are_some subs && (not (is_there foreground) && (true && is_missing (last_of foreground_of before))))
    ≡ false = not_needed (are_some subs) (is_there foreground) (is_missing (last_of foreground_of before))
    (λ some. let w = used some in there foreground (last_of foreground_of before) w.0 w.1) in
    rw (bits.drawn, bits.background_is, bits.foreground_is, bits.any_is, bits.colored_is, one, two, three) refl
  where
    both_false : (a : Bool) → (a && false) ≡ false
    both_false true = refl
    both_false false = refl

colored_good : (before : List Tile) (background : Option ℕ) (subs : List Subrect) (b : ℕ) →
    IsInForce background background_of before b → mask_fault before (mask_of (Colored background) subs) ≡ None
colored_good before background subs b in_force =
    let bits = has_bits _ _ _ _ _ (bits_colored (is_there background) (are_some subs)) in
    let one : (not (is_there background) && is_missing (last_of background_of before)) ≡ false =
    there background (last_of background_of before) b in_force in
    let three : (are_some subs && (true && (false && is_missing (last_of foreground_of before)))) ≡ false =
    last_false (are_some subs) in
    rw (bits.drawn, bits.background_is, bits.foreground_is, bits.any_is, bits.colored_is, one, three) refl
  where
    last_false : (a : Bool) → (a && (true && (false && is_missing (last_of foreground_of before)))) ≡ false
    last_false true = refl
    last_false false = refl

-- ---- tiles

-- a colour is of the format where it is there
abbrev pub IsColourOf : PixelFormat → Option ℕ → Type 0
IsColourOf f None = Unit {0}
IsColourOf f (Some colour) = IsPixel f colour

spells_colour : (f : PixelFormat) (colour : Option ℕ) → IsColourOf f colour →
    Optionally (is_there colour) (SpellsPixel f) colour (colour_bytes f colour)
spells_colour f None small = (refl, refl)
spells_colour f (Some colour) small = (colour, refl, spells_pixel f colour small)

-- a tile of its pixels
pub spells_raw : (f : PixelFormat) (w h : ℕ) (before : List Tile) (pixels : List ℕ) (subs : List Subrect) →
    length pixels ≡ h * w → SpellsTile f w h before (tile_of f Raw pixels subs) (tile_bytes f Raw pixels subs)
spells_raw f w h before pixels subs size = record {
  head = 1 ∷ [];
  rest = flat_map (pixel_bytes f) pixels;
  whole = refl;
  one = refl;
  good = refl;
  after = (refl, refl, length-pixels f pixels ∙ ap (λ (n : ℕ). n * size_of f) size);
}

-- a tile of subrectangles in the foreground
pub spells_plain : (f : PixelFormat) (w h : ℕ) (before : List Tile) (background foreground : Option ℕ)
    (pixels : List ℕ) (subs : List Subrect) (b : ℕ) → IsTileSize w h → AreTileParts f w h subs →
    IsColourOf f background → IsColourOf f foreground → IsInForce background background_of before b →
    (are_some subs ≡ true → (g : ℕ) × IsInForce foreground foreground_of before g) → SpellsTile f w h before
    (tile_of f (Plain background foreground) pixels subs) (tile_bytes f (Plain background foreground) pixels subs)
spells_plain f w h before background foreground pixels subs b small parts one two in_force used =
    let bits = has_bits _ _ _ _ _ (bits_plain (is_there background) (is_there foreground) (are_some subs)) in
    record {
      head = mask_of (Plain background foreground) subs ∷ [];
      rest = after_bytes f (Plain background foreground) pixels subs;
      whole = refl;
      one = refl;
      good = plain_good before background foreground subs b in_force used;
      after = (
        bits.drawn,
        bits.colored_is,
        record {
          first = colour_bytes f background;
          second = colour_bytes f foreground;
          third = counted_bytes own_place subs;
          whole = refl;
          background_is = rw bits.background_is (spells_colour f background one);
          foreground_is = rw bits.foreground_is (spells_colour f foreground two);
          places_are = rw bits.any_is (counted_places f w h subs small parts);
        },
      );
    }

-- a tile of subrectangles with pixels of their own
pub spells_colored_tile : (f : PixelFormat) (w h : ℕ)
    (before : List Tile) (background : Option ℕ) (pixels : List ℕ) (subs : List Subrect) (b : ℕ) →
    IsTileSize w h → AreTileParts f w h subs → IsColourOf f background → IsInForce background background_of before b →
    SpellsTile f w h before (tile_of f (Colored background) pixels subs) (tile_bytes f (Colored background) pixels subs)
spells_colored_tile f w h before background pixels subs b small parts one in_force =
    let bits = has_bits _ _ _ _ _ (bits_colored (is_there background) (are_some subs)) in
    record {
      head = mask_of (Colored background) subs ∷ [];
      rest = after_bytes f (Colored background) pixels subs;
      whole = refl;
      one = refl;
      good = colored_good before background subs b in_force;
      after = (
        bits.drawn,
        bits.colored_is,
        record {
          first = colour_bytes f background;
          second = counted_bytes (colored_bytes f) subs;
          whole = refl;
          background_is = rw bits.background_is (spells_colour f background one);
          subs_are = rw bits.any_is (counted_colored f w h subs small parts);
        },
      );
    }

-- no subrectangle leaves the tile
pub fits_tile : (f : PixelFormat) (w h : ℕ) (layout : TileLayout) (pixels : List ℕ) (subs : List Subrect) →
    AreTileParts f w h subs → FitsTile w h (tile_of f layout pixels subs)
fits_tile f w h Raw pixels subs parts = tt
fits_tile f w h (Plain background foreground) pixels subs parts = fits f w h subs parts
fits_tile f w h (Colored background) pixels subs parts = fits f w h subs parts
