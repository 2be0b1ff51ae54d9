-- The reading of Hextile is what bytes stand for, in both directions, and its faults are those of the
-- first tile that is at fault.
use Rattle.std.proofs.Common.{◌≡◌, ℕ, inl, inr, List, [], length, refl, sym, subst, append-nil}
use Rattle.rfb_pixel.specs.Format.{PixelFormat}
use Rattle.rfb_picture.specs.Grid.{Grid}
use Rattle.rfb_wire.specs.stream.Prefix.{Reading, Says, Reads, Same, ListedAfter}
use Rattle.rfb_wire.specs.stream.Parts.{done, and_then, each}
use Rattle.rfb_wire.proofs.stream_laws.PartLaws.{alone, done_says, done_reads, then_says, then_reads, same_reads}
use Rattle.rfb_wire.proofs.stream_laws.RepeatLaws.{each_says, each_reads}
use Rattle.rfb_codec.specs.declared.fault.PaintFault.{PaintFault}
use Rattle.rfb_codec.specs.Pixels.{IsSized, Shows, drawn}
use Rattle.rfb_codec.specs.Tile.{Tile, tile_after}
use Rattle.rfb_codec.specs.Hextile.{tile_count, tile_width, tile_height, SpellsNextTile, pixel_of_tiles, StandsHextile}
use Rattle.rfb_codec.specs.Hextile.{FaultsHextile, hextile}
use Rattle.rfb_codec.proofs.PixelLaws.{sized-drawn, shows-drawn, drawn_is}
use Rattle.rfb_codec.proofs.TileLaws.{tile_says, tile_reads}

-- what bytes say of a block of that size
abbrev pub hextile_says : PixelFormat → ℕ → ℕ → Says (Grid ℕ) PaintFault
hextile_says f w h =
    record { item = λ block bytes. IsSized w h block × StandsHextile f block bytes; fault = FaultsHextile f w h }

-- a tile after those before it
abbrev pub next_tile : PixelFormat → ℕ → ℕ → List Tile → Reading Tile PaintFault
next_tile f w h before = tile_after f (tile_width w (length before)) (tile_height w h (length before)) before

abbrev pub next_tile_says : PixelFormat → ℕ → ℕ → List Tile → Says Tile PaintFault
next_tile_says f w h before = tile_says f (tile_width w (length before)) (tile_height w h (length before)) before

abbrev hextile_parts : PixelFormat → ℕ → ℕ → Says (Grid ℕ) PaintFault
hextile_parts f w h = then_says (each_says (tile_count w h) (next_tile_says f w h) [])
    (λ tiles. done_says (drawn w h (pixel_of_tiles f w tiles)))

-- tiles for each part of the rectangle stand for the block that is drawn of them
pub hextile_stands : (f : PixelFormat) (w h : ℕ) (tiles : List Tile) (bytes : List ℕ) → length tiles ≡ tile_count w h →
    ListedAfter (SpellsNextTile f w h) [] tiles bytes → StandsHextile f (drawn w h (pixel_of_tiles f w tiles)) bytes
hextile_stands f w h tiles bytes number spelled =
    let block = drawn w h (pixel_of_tiles f w tiles) in
    let sized = sized-drawn w h (pixel_of_tiles f w tiles) in
    record {
      tiles = tiles;
      number = rw (sized.width_is, sized.height_is) number;
      spelled = rw (sized.width_is, sized.height_is) spelled;
      shows = subst (λ (n : ℕ). Shows block (pixel_of_tiles f n tiles)) (sym sized.width_is)
          (shows-drawn w h (pixel_of_tiles f w tiles));
    }

hextile_same : (f : PixelFormat) (w h : ℕ) → Same (hextile_parts f w h) (hextile_says f w h)
hextile_same f w h = record { item = item; fault = fault; item_back = item_back; fault_back = fault_back }
  where
    item : (block : Grid ℕ) (bytes : List ℕ) → (hextile_parts f w h).item block bytes →
        IsSized w h block × StandsHextile f block bytes
    item block bytes (tiles, front, back, whole, (number, spelled), (is, none)) =
        let all : bytes ≡ front = alone bytes front back whole none in
        rw (is, all) (sized-drawn w h (pixel_of_tiles f w tiles), hextile_stands f w h tiles front number spelled)

    fault : (g : PaintFault) (bytes : List ℕ) → (hextile_parts f w h).fault g bytes → FaultsHextile f w h g bytes
    fault g bytes (inl (tiles, front, back, fewer, whole, spelled, bad)) =
        record { tiles = tiles; front = front; back = back; whole = whole; fewer = fewer; spelled = spelled; bad = bad }
    fault g bytes (inr none) = absurd none.5

    item_back : (block : Grid ℕ) (bytes : List ℕ) → IsSized w h block × StandsHextile f block bytes →
        (hextile_parts f w h).item block bytes
    item_back block bytes (sized, s) =
        let number : length s.tiles ≡ tile_count w h = rw (sized.width_is, sized.height_is) at s.number in
        let spelled : ListedAfter (SpellsNextTile f w h) [] s.tiles bytes =
        rw (sized.width_is, sized.height_is) at s.spelled in
        let shows : Shows block (pixel_of_tiles f w s.tiles) =
        subst (λ (n : ℕ). Shows block (pixel_of_tiles f n s.tiles)) sized.width_is s.shows in (
          s.tiles,
          bytes,
          [],
          sym (append-nil bytes),
          (number, spelled),
          (
            drawn_is w h (pixel_of_tiles f w s.tiles) block sized shows,
            refl,
          ),
        )

    fault_back : (g : PaintFault) (bytes : List ℕ) → FaultsHextile f w h g bytes → (hextile_parts f w h).fault g bytes
    fault_back g bytes s = inl (s.tiles, s.front, s.back, s.fewer, s.whole, s.spelled, s.bad)

-- the reading gives exactly the blocks and the faults that bytes say
pub hextile_reads : (f : PixelFormat) (w h : ℕ) → Reads (hextile f w h) (hextile_says f w h)
unfolding hextile
hextile_reads f w h =
    same_reads (and_then (each (tile_count w h) (next_tile f w h) []) (λ tiles.
    done (drawn w h (pixel_of_tiles f w tiles)))) (hextile_parts f w h) (hextile_says f w h) (hextile_same f w h)
    (then_reads (each (tile_count w h) (next_tile f w h) [])
    (λ tiles. done (drawn w h (pixel_of_tiles f w tiles))) (each_says (tile_count w h) (next_tile_says f w h) [])
    (λ tiles. done_says (drawn w h (pixel_of_tiles f w tiles)))
    (each_reads (tile_count w h) (next_tile f w h) (next_tile_says f w h)
    (λ before. tile_reads f (tile_width w (length before)) (tile_height w h (length before)) before)
    []) (λ tiles. done_reads (drawn w h (pixel_of_tiles f w tiles))))
