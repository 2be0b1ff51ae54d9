-- How many bytes an encoder makes of a tile.
use Rattle.std.proofs.Common.{◌≡◌, ℕ, zero, suc, get_or, ◌+◌, ◌*◌, ◌<◌, List, [], ◌∷◌, ◌++◌, Option, length}
use Rattle.std.proofs.Common.{if◌then◌else◌, refl, arith, length-append}
use Rattle.std.specs.List.{flat_map}
use Rattle.rfb_pixel.specs.Format.{PixelFormat, size_of, pixel_bytes}
use Rattle.rfb_codec.specs.declared.subrect.Subrect.{Subrect}
use Rattle.rfb_codec.specs.declared.hextile.layout.TileLayout.TheVariants.{Raw, Plain, Colored}
use Rattle.rfb_codec.specs.encoder.TileSpelling.{own_place, tile_bytes, IsTilePart, AreTileParts}
use Rattle.rfb_codec.specs.SentTile.{are_some, colour_bytes, count_bytes, colored_bytes, counted_bytes}
use Rattle.rfb_codec.proofs.PixelLemmas.{length-pixel_bytes, length-pixels}

-- ---- lengths

-- a subrectangle of a list that is good is good
pub part_at : (f : PixelFormat) (w h : ℕ) (subs : List Subrect) (i : ℕ) (d : Subrect) → i < length subs →
    AreTileParts f w h subs → IsTilePart f w h (get_or subs i d)
part_at f w h [] i d l parts = absurd (omega (arith, l))
part_at f w h (s ∷ subs) zero d l parts = parts.0
part_at f w h (s ∷ subs) (suc i) d l parts =
    let below : i < length subs = omega (arith, l) in
    part_at f w h subs i d below parts.1

length-all_places : (subs : List Subrect) → length (flat_map own_place subs) ≡ length subs * 2
length-all_places [] = refl
length-all_places (s ∷ subs) = let more = length-all_places subs in rw length-append (omega (arith, more))

length-all_colored : (f : PixelFormat) (subs : List Subrect) →
    length (flat_map (colored_bytes f) subs) ≡ length subs * (size_of f + 2)
length-all_colored f [] = omega arith
length-all_colored f (s ∷ subs) =
    let more = length-all_colored f subs in
    let here : length (colored_bytes f s) ≡ size_of f + 2 =
    rw (length-append (pixel_bytes f s.pixel) (own_place s), length-pixel_bytes f s.pixel) refl in
    rw length-append (omega (arith, more, here))

length-counted : (bytes : Subrect → List ℕ) (subs : List Subrect) (size : ℕ) → length (flat_map bytes subs)
    ≡ length subs * size → length (counted_bytes bytes subs) ≡ (if are_some subs then 1 + length subs * size else 0)
length-counted bytes [] size e = refl
length-counted bytes (s ∷ subs) size e = omega (arith, e)

pub length-spelled_raw : (f : PixelFormat) (pixels : List ℕ) (subs : List Subrect) →
    length (tile_bytes f Raw pixels subs) ≡ 1 + length pixels * size_of f
length-spelled_raw f pixels subs = let all = length-pixels f pixels in omega (arith, all)

pub length-spelled_plain : (f : PixelFormat) (background foreground : Option ℕ) (pixels : List ℕ) (subs : List
    Subrect) → length (tile_bytes f (Plain background foreground) pixels subs) ≡ 1 + length (colour_bytes f background)
    + length (colour_bytes f foreground) + (if are_some subs then 1 + length subs * 2 else 0)
length-spelled_plain f background foreground pixels subs =
    let list = length-counted own_place subs 2 (length-all_places subs) in
    let second = length-append (colour_bytes f foreground) (counted_bytes own_place subs) in
    let first = length-append (colour_bytes f background) (colour_bytes f foreground ++ counted_bytes own_place subs) in
    omega (arith, list, second, first)

pub length-spelled_colored : (f : PixelFormat) (background : Option ℕ) (pixels : List ℕ) (subs : List Subrect) →
    length (tile_bytes f (Colored background) pixels subs)
    ≡ 1 + length (colour_bytes f background) + (if are_some subs then 1 + length subs * (size_of f + 2) else 0)
length-spelled_colored f background pixels subs =
    let list = length-counted (colored_bytes f) subs (size_of f + 2) (length-all_colored f subs) in
    let first = length-append (colour_bytes f background) (counted_bytes (colored_bytes f) subs) in
    omega (arith, list, first)

-- the same, by its pieces
pub length-room_plain : (f : PixelFormat) (background foreground : Option ℕ) (pixels : List ℕ) (subs : List Subrect) →
    length (tile_bytes f (Plain background foreground) pixels subs) ≡ 1 + length (colour_bytes f background)
    + length (colour_bytes f foreground) + (length (count_bytes subs) + length subs * 2)
length-room_plain f background foreground pixels subs =
    let places = length-all_places subs in
    let list = length-append (count_bytes subs) (flat_map own_place subs) in
    let second = length-append (colour_bytes f foreground) (counted_bytes own_place subs) in
    let first = length-append (colour_bytes f background) (colour_bytes f foreground ++ counted_bytes own_place subs) in
    omega (arith, places, list, second, first)

pub length-room_colored : (f : PixelFormat) (background : Option ℕ) (pixels : List ℕ) (subs : List Subrect) →
    length (tile_bytes f (Colored background) pixels subs)
    ≡ 1 + length (colour_bytes f background) + (length (count_bytes subs) + length subs * (size_of f + 2))
length-room_colored f background pixels subs =
    let places = length-all_colored f subs in
    let list = length-append (count_bytes subs) (flat_map (colored_bytes f) subs) in
    let first = length-append (colour_bytes f background) (counted_bytes (colored_bytes f) subs) in
    omega (arith, places, list, first)
