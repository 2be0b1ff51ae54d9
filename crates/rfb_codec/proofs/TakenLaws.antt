-- How long data by the rules are. Where they are shorter than Raw their rule does not give the block up.
use Rattle.std.proofs.Common.{◌≡◌, ℕ, ◌+◌, ◌*◌, ◌<◌, List, [], ◌∷◌, ◌++◌, length, Option, Some, None, refl, ap, arith}
use Rattle.std.proofs.Common.{length-append}
use Rattle.std.specs.List.{flat_map}
use Rattle.byteorder.specs.Endian.{big_bytes}
use Rattle.rfb_pixel.specs.Format.{PixelFormat, size_of, pixel_bytes}
use Rattle.rfb_picture.specs.declared.rect.Rect.{Rect}
use Rattle.rfb_picture.specs.Grid.{Grid}
use Rattle.rfb_wire.specs.declared.encoding.Encoding.{Encoding}
use Rattle.rfb_wire.specs.declared.encoding.Encoding.TheVariants.{Raw, CopyRect, Rre, Hextile}
use Rattle.rfb_codec.specs.declared.subrect.Subrect.{Subrect}
use Rattle.std.specs.Prelude.{Bool, true, false}
use Rattle.std.specs.Bool.{OnTrue}
use Rattle.rfb_codec.specs.Codec.{Appends, raw_of}
use Rattle.rfb_codec.specs.Choice.{subrect_bytes, rre_bytes}
use Rattle.rfb_codec.specs.Tile.{Tile, RawTile, PlainTile, ColoredTile}
use Rattle.rfb_codec.specs.SentTile.{colour_bytes, place_bytes, colored_bytes, counted_bytes, sent_as}
use Rattle.rfb_codec.specs.HextileRule.{colour_length, parts_length, tile_length, tiles_length}
use Rattle.rfb_codec.specs.ByRule.{StandsIn, GivesUp}
use Rattle.rfb_codec.proofs.PixelLemmas.{length-pixel_bytes}
use Rattle.rfb_codec.proofs.RreEncodeLemmas.{length-subrects}

-- ---- RRE

length-rre : (f : PixelFormat) (background : ℕ) (subs : List Subrect) →
    length (rre_bytes f background subs) ≡ 4 + size_of f + length subs * (size_of f + 8)
length-rre f background subs =
    let head = length-append (big_bytes 4 (length subs)) (pixel_bytes f background) in
    let all = length-append (big_bytes 4 (length subs) ++ pixel_bytes f background) (flat_map (subrect_bytes f) subs) in
    let pixel = length-pixel_bytes f background in
    let list = length-subrects f subs in
    omega (arith, head, all, pixel, list)

-- ---- Hextile

length-colour : (f : PixelFormat) (colour : Option ℕ) → length (colour_bytes f colour) ≡ colour_length f colour
length-colour f None = refl
length-colour f (Some colour) = length-pixel_bytes f colour

length-places : (places : List Rect) → length (flat_map place_bytes places) ≡ length places * 2
length-places [] = refl
length-places (place ∷ places) = let more = length-places places in omega (arith, more)

length-colored : (f : PixelFormat) (subs : List Subrect) →
    length (flat_map (colored_bytes f) subs) ≡ length subs * (size_of f + 2)
length-colored f [] = omega arith
length-colored f (s ∷ subs) =
    let one = length-append (pixel_bytes f s.pixel) (place_bytes s.rect) in
    let all = length-append (colored_bytes f s) (flat_map (colored_bytes f) subs) in
    let pixel = length-pixel_bytes f s.pixel in
    let more = length-colored f subs in
    omega (arith, one, all, pixel, more)

length-parts : {A : Type 0} (size : ℕ) (bytes : A → List ℕ) (parts : List A) →
    length (flat_map bytes parts) ≡ length parts * size → length (counted_bytes bytes parts) ≡ parts_length size parts
length-parts size bytes [] e = refl
length-parts size bytes (part ∷ parts) e = omega (arith, e)

length-tile : (f : PixelFormat) (tile : Tile) → length (sent_as f tile) ≡ tile_length f tile
length-tile f (RawTile pixels) = omega arith
length-tile f (PlainTile background foreground places) =
    let list = counted_bytes place_bytes places in
    let all = length-append (colour_bytes f background) (colour_bytes f foreground ++ list) in
    let rest = length-append (colour_bytes f foreground) list in
    let first = length-colour f background in
    let second = length-colour f foreground in
    let parts = length-parts 2 place_bytes places (length-places places) in
    omega (arith, all, rest, first, second, parts)
length-tile f (ColoredTile background subs) =
    let all = length-append (colour_bytes f background) (counted_bytes (colored_bytes f) subs) in
    let first = length-colour f background in
    let parts = length-parts (size_of f + 2) (colored_bytes f) subs (length-colored f subs) in
    omega (arith, all, first, parts)

length-tiles : (f : PixelFormat) (tiles : List Tile) → length (flat_map (sent_as f) tiles) ≡ tiles_length f tiles
length-tiles f [] = refl
length-tiles f (tile ∷ tiles) =
    let all = length-append (sent_as f tile) (flat_map (sent_as f) tiles) in
    let here = length-tile f tile in
    let more = length-tiles f tiles in
    omega (arith, all, here, more)

-- ---- a block that is sent shorter

pub not_given_up : (encoding : Encoding) (f : PixelFormat) (block : Grid ℕ) (bytes : List ℕ) →
    StandsIn encoding f block bytes → length bytes < raw_of f block → GivesUp encoding f block → ⊥
not_given_up Raw f block bytes stands less gives = gives
not_given_up CopyRect f block bytes stands less gives = stands
not_given_up Rre f block bytes stands less gives =
    let long = gives stands.stands.background stands.stands.subs stands.choice in
    let size = ap length stands.bytes_are in
    let is = length-rre f stands.stands.background stands.stands.subs in
    absurd (omega (arith, long, size, is, less))
not_given_up Hextile f block bytes stands less gives =
    let long = gives stands.stands.tiles stands.stands.number stands.rule in
    let size = ap length stands.bytes_are in
    let is = length-tiles f stands.stands.tiles in
    absurd (omega (arith, long, size, is, less))

-- so what an encoder appends is of a block that is not given up
pub taken : (result : Bool) (encoding : Encoding) (f : PixelFormat) (block : Grid ℕ) (old new : List ℕ)
    (before after : ℕ) → before ≡ length old → after ≡ length new →
    OnTrue result (Appends (StandsIn encoding) f block old new) → OnTrue result (after < before + raw_of f block) →
    OnTrue result (GivesUp encoding f block → ⊥)
taken true encoding f block old new before after was is appends shorter = λ gives.
    let size = ap length appends.1 in
    let all = length-append old appends.0 in
    not_given_up encoding f block appends.0 appends.2 (omega (arith, was, is, size, all, shorter)) gives
taken false encoding f block old new before after was is appends shorter = tt
