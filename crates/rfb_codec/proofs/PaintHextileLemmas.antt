-- Tiles of Hextile, read one after another and painted one after another.
use Rattle.std.proofs.Common.{◌≡◌, ℕ, ◌+◌, List, [], ◌∷◌, ◌++◌, true, false, Option, drop, map}
use Rattle.std.proofs.Common.{refl, ◌∙◌, ap}
use Rattle.rfb_pixel.specs.declared.colour.Colour.{Colour}
use Rattle.rfb_pixel.specs.Format.{PixelFormat, colour_of, size_of}
use Rattle.rfb_picture.specs.declared.rect.Rect.{Rect}
use Rattle.rfb_picture.specs.Grid.{Grid}
use Rattle.rfb_wire.specs.stream.Prefix.{Next}
use Rattle.rfb_wire.specs.stream.Parts.{continue_with, done}
use Rattle.rfb_codec.specs.declared.fault.PaintFault.{PaintFault}
use Rattle.rfb_codec.specs.declared.hextile.layout.TileLayout.{TileLayout}
use Rattle.rfb_codec.specs.declared.hextile.layout.TileLayout.TheVariants.{Plain, Colored}
use Rattle.rfb_codec.specs.declared.hextile.paint.tile_read.Seen.{Seen}
use Rattle.rfb_codec.specs.Pixels.{drawn}
use Rattle.rfb_codec.specs.Rre.{pixel_at}
use Rattle.rfb_codec.specs.Tile.{Tile, PlainTile, background_of, last_of, colour_or_zero, tile_pixel, place_of}
use Rattle.rfb_codec.specs.Tile.{colored_of, in_pixel}
use Rattle.rfb_codec.specs.Hextile.{pixel_of_tiles, hextile}
use Rattle.rfb_codec.specs.decoder.TileRead.{values_in, tile_in, subs_in, all_tiles}
use Rattle.rfb_codec.specs.Stage.{Sees}
use Rattle.rfb_codec.specs.Painter.{over}

-- ---- all of it

-- what tiles are read as
abbrev pub shown_tiles : PixelFormat → ℕ → ℕ → Next (List Tile) PaintFault → Next (Grid ℕ) PaintFault
shown_tiles f w h tiles = continue_with (λ (all : List Tile). done (drawn w h (pixel_of_tiles f w all))) tiles

pub hextile_opened : (f : PixelFormat) (w h : ℕ) (bytes : List ℕ) →
    hextile f w h bytes ≡ shown_tiles f w h (all_tiles f w h bytes)
unfolding hextile
hextile_opened f w h bytes = refl

-- ---- a tile that was drawn

pub drawn_plain : (f : PixelFormat) (rect : Rect) (before : List Tile) (seen : Seen) (layout : TileLayout)
    (list count : ℕ) (bytes slice : List ℕ) (b g : Option ℕ) (background foreground : ℕ) (new old : Grid Colour) →
    layout ≡ Plain b g → background ≡ colour_or_zero seen.background →
    foreground ≡ colour_or_zero seen.foreground → slice ≡ drop list bytes →
    new ≡ over rect (λ x y. colour_of f (pixel_at background (subs_in f foreground false count slice) x y)) old →
    Sees (before ++ tile_in f rect.w rect.h layout list count bytes ∷ []) seen → new ≡ over rect (λ x y. colour_of f
    (tile_pixel f rect.w (before ++ tile_in f rect.w rect.h layout list count bytes ∷ [])
    (tile_in f rect.w rect.h layout list count bytes) x y)) old
drawn_plain f rect before seen layout list count bytes slice b g background foreground new old layout_is background_is
    foreground_is slice_is drawn sees =
    let places = values_in place_of 2 count (drop list bytes) in
    let sees' = rw layout_is at sees in
    rw layout_is
    (drawn
    ∙ ap (λ (ys : List ℕ). over rect (λ x y. colour_of f
    (pixel_at background (map (in_pixel foreground) (values_in place_of 2 count ys)) x y)) old) slice_is
    ∙ ap (λ (n : ℕ). over rect (λ x y. colour_of f (pixel_at n (map (in_pixel foreground) places) x y)) old)
    (background_is ∙ ap colour_or_zero sees'.background)
    ∙ ap (λ (n : ℕ). over rect
    (λ x y. colour_of f (pixel_at (colour_or_zero (last_of background_of (before ++ PlainTile b g places ∷ [])))
    (map (in_pixel n) places) x y)) old) (foreground_is ∙ ap colour_or_zero sees'.foreground))

pub drawn_colored : (f : PixelFormat) (rect : Rect) (before : List Tile) (seen : Seen) (layout : TileLayout)
    (list count : ℕ) (bytes slice : List ℕ) (b : Option ℕ) (background foreground : ℕ) (new old : Grid Colour) →
    layout ≡ Colored b → background ≡ colour_or_zero seen.background → slice ≡ drop list bytes →
    new ≡ over rect (λ x y. colour_of f (pixel_at background (subs_in f foreground true count slice) x y)) old →
    Sees (before ++ tile_in f rect.w rect.h layout list count bytes ∷ []) seen → new ≡ over rect (λ x y. colour_of f
    (tile_pixel f rect.w (before ++ tile_in f rect.w rect.h layout list count bytes ∷ [])
    (tile_in f rect.w rect.h layout list count bytes) x y)) old
drawn_colored f rect before seen layout list count bytes slice b background foreground new old layout_is
    background_is slice_is drawn sees =
    let subs = values_in (colored_of f) (size_of f + 2) count (drop list bytes) in
    let sees' = rw layout_is at sees in
    rw layout_is
    (drawn
    ∙ ap (λ (ys : List ℕ). over rect
    (λ x y. colour_of f (pixel_at background (values_in (colored_of f) (size_of f + 2) count ys) x y)) old) slice_is
    ∙ ap (λ (n : ℕ). over rect (λ x y. colour_of f (pixel_at n subs x y)) old)
    (background_is ∙ ap colour_or_zero sees'.background))
