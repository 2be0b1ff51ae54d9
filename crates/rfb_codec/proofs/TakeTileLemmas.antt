-- Tiles that are taken one after another, and the pixels of a raw one.
use Rattle.std.proofs.Common.{◌≡◌, ℕ, ◌+◌, ◌-◌, ◌*◌, ◌/◌, ◌%◌, ◌<◌, ◌≤◌, ◌&&◌, nat_lt, List, [], ◌∷◌, ◌++◌, Bool, true}
use Rattle.std.proofs.Common.{false, if◌then◌else◌, Option, Some, None, Result, Ok, Err, length, take, drop, refl, sym}
use Rattle.std.proofs.Common.{subst, ◌∙◌, ap, append-nil, append_assoc, arith, length-append, length-drop}
use Rattle.std.specs.Prelude.{IfOk, IfSome, slice_index}
use Rattle.std.proofs.lemmas.List.{take_at, take_all}
use Rattle.std.proofs.lemmas.Bool.Decides.{nat_tests}
use Rattle.rfb_pixel.specs.declared.colour.Colour.{Colour}
use Rattle.rfb_pixel.specs.Format.{PixelFormat, size_of, colour_of}
use Rattle.rfb_picture.specs.declared.rect.Rect.{Rect}
use Rattle.rfb_picture.specs.Rect.{contains}
use Rattle.rfb_picture.specs.Grid.{Grid, IsGrid, at_or}
use Rattle.rfb_picture.proofs.GridLaws.{same_changes, same_grid, at-changed, whole-changed, whole_before, width-changed}
use Rattle.rfb_picture.proofs.GridLaws.{height-changed}
use Rattle.rfb_wire.specs.stream.Prefix.{Next, More, Got}
use Rattle.rfb_wire.specs.RectHead.{IsOnScreen}
use Rattle.rfb_wire.specs.declared.encoding.Encoding.TheVariants.{Hextile}
use Rattle.rfb_codec.specs.declared.fault.PaintFault.{PaintFault}
use Rattle.rfb_codec.specs.declared.fault.Flaw.{Flaw}
use Rattle.rfb_codec.specs.declared.hextile.paint.tile_read.TileRead.{TileRead}
use Rattle.rfb_codec.specs.declared.hextile.paint.tile_read.Seen.{Seen}
use Rattle.rfb_codec.specs.declared.painter.stage.Step.{Step}
use Rattle.rfb_codec.specs.declared.painter.stage.Stage.TheVariants.{InTiles, InRawTile}
use Rattle.rfb_codec.specs.Raw.{raw_pixel}
use Rattle.rfb_codec.specs.Tile.{Tile, PlainTile, is_raw, later, tile_pixel, tile_after}
use Rattle.rfb_codec.specs.Hextile.{across, tile_count, tile_width, tile_height, tile_at, pixel_of_tiles}
use Rattle.rfb_codec.specs.Hextile.{SpellsNextTile}
use Rattle.rfb_codec.specs.decoder.TileRead.{tile_of_read, TellsTile, background_named, foreground_named}
use Rattle.rfb_codec.specs.Stage.{Sees}
use Rattle.rfb_codec.specs.Hextile.{next_tile}
use Rattle.rfb_codec.specs.Painter.{over}
use Rattle.rfb_codec.specs.Front.{SpellsTiles, BeginsTile, pixels_over, tiles_over, tile_places}
use Rattle.rfb_codec.specs.Stage.{StandsAt, encoding_at, is_sound}
use Rattle.rfb_codec.specs.decoder.Step.{DrawsTile, TellsNext, IsGoodTile}
use Rattle.rfb_codec.proofs.HextileEncodeLemmas.{listed_more, shown_before}
use Rattle.rfb_codec.proofs.TileLaws.{tile_says, tile_reads}
use Rattle.rfb_codec.proofs.TileReadLemmas.{sees_more}
use Rattle.rfb_codec.proofs.TilesOverLemmas.{IsTileRect, tile_over}
use Rattle.rfb_codec.proofs.ByteLemmas.{last_byte}

-- ---- a tile that was read

-- some tiles leave these colours
pub some_before : (seen : Seen) → (tiles : List Tile) × Sees tiles seen
some_before seen = (PlainTile seen.background seen.foreground [] ∷ [], record { background = refl; foreground = refl })

-- what a reading gives of a tile of that size it gives of the rectangle's next
pub told_next : (f : PixelFormat) (w h n tw th : ℕ) (tiles : List Tile) (bytes : List ℕ) (result : Result
    (Option TileRead) Flaw) → length tiles ≡ n → tw ≡ tile_width w n → th ≡ tile_height w h n →
    TellsTile f tw th bytes result (tile_after f tw th tiles bytes) → TellsTile f (tile_width w n)
    (tile_height w h n) bytes result (next_tile f w h tiles bytes)
told_next f w h n tw th tiles bytes result number wide high told = rw number (rw (wide, high) at told)

-- a tile that is read whole, from its own bytes
pub tile_taken : (f : PixelFormat) (w h : ℕ) (tiles : List Tile) (bytes : List ℕ) (t : Tile) (used : ℕ) →
    used ≤ length bytes → next_tile f w h tiles bytes ≡ Got t (drop used bytes) →
    SpellsNextTile f w h tiles t (take used bytes)
tile_taken f w h tiles bytes t used within got =
    let n = length tiles in
    let one = (tile_reads f (tile_width w n) (tile_height w h n) tiles).found bytes t (drop used bytes) got in
    let front = one.0 in
    let lengths : length bytes ≡ length front + length (drop used bytes) =
    ap length one.1 ∙ length-append front (drop used bytes) in
    let back : length (drop used bytes) ≡ length bytes - used = length-drop used bytes in
    let same : take used bytes ≡ front = ap (take used) one.1 ∙ take_at front (drop used bytes) used (omega arith) in
    rw same one.2

-- the data with one tile more
pub tiles_longer : (f : PixelFormat) (w h : ℕ) (tiles : List Tile) (t : Tile) (pending more xs body : List ℕ) →
    SpellsTiles f w h tiles pending body → length tiles < tile_count w h → xs ≡ pending ++ more →
    SpellsNextTile f w h tiles t xs → SpellsTiles f w h (tiles ++ t ∷ []) [] (body ++ more)
tiles_longer f w h tiles t pending more xs body s fewer is one = record {
  front = s.front ++ xs;
  whole = ap (λ (ys : List ℕ). ys ++ more) s.whole ∙ append_assoc s.front pending more
      ∙ ap (λ (ys : List ℕ). s.front ++ ys) (sym is) ∙ sym (append-nil (s.front ++ xs));
  spelled = listed_more (SpellsNextTile f w h) [] tiles t s.front xs s.spelled one;
  begins =
      let number : length (tiles ++ t ∷ []) ≡ length tiles + 1 = length-append tiles (t ∷ []) in
      omega (arith, number);
}

-- and with bytes of a tile
pub tiles_wait : (f : PixelFormat) (w h : ℕ) (tiles : List Tile) (pending more xs body : List ℕ) →
    SpellsTiles f w h tiles pending body → xs ≡ pending ++ more → BeginsTile f w h tiles xs →
    SpellsTiles f w h tiles xs (body ++ more)
tiles_wait f w h tiles pending more xs body s is begins = record {
  front = s.front;
  whole = ap (λ (ys : List ℕ). ys ++ more) s.whole ∙ append_assoc s.front pending more
      ∙ ap (λ (ys : List ℕ). s.front ++ ys) (sym is);
  spelled = s.spelled;
  begins = begins;
}

-- ---- the picture

earlier_tile : (f : PixelFormat) (w : ℕ) (b : Bool) (tiles : List Tile) (t : Tile) (x y n : ℕ) (old : Colour) →
    length tiles ≡ n → (if b && nat_lt (tile_at w x y) n then colour_of f (pixel_of_tiles f w tiles x y) else old)
    ≡ (if b && nat_lt (tile_at w x y) n then colour_of f (pixel_of_tiles f w (tiles ++ t ∷ []) x y) else old)
earlier_tile f w false tiles t x y n old number = refl
earlier_tile f w true tiles t x y n old number = by (nat_lt (tile_at w x y) n) refl
  where
    by : (b : Bool) → nat_lt (tile_at w x y) n ≡ b → (if b then colour_of f (pixel_of_tiles f w tiles x y) else old)
        ≡ (if b then colour_of f (pixel_of_tiles f w (tiles ++ t ∷ []) x y) else old)
    by true e =
        let below : tile_at w x y < length tiles = grind (arith, nat_tests) in
        ap (colour_of f) (sym (shown_before f w tiles t x y below))
    by false e = refl

-- the tiles before show what they did
same_tiles : (f : PixelFormat) (rect : Rect) (n : ℕ) (tiles : List Tile) (t : Tile) (g : Grid Colour) → IsGrid g →
    length tiles ≡ n → tiles_over f rect n tiles g ≡ tiles_over f rect n (tiles ++ t ∷ []) g
same_tiles f rect n tiles t g whole number = same_changes _ _ g whole
    (λ x y d p q. earlier_tile f rect.w (contains rect x y) tiles t (x - rect.x) (y - rect.y) n (at_or g x y d) number)

-- a tile drawn over them
pub draws : (f : PixelFormat) (rect : Rect) (n : ℕ) (tiles : List Tile) (t : Tile) (old new before : Grid Colour) →
    length tiles ≡ n → rect.x + n % across rect.w * 16 + tile_width rect.w n ≤ rect.x + rect.w →
    rect.y + n / across rect.w * 16 + tile_height rect.w rect.h n ≤ rect.y + rect.h →
    IsGrid old → old ≡ tiles_over f rect n tiles before → new
    ≡ over (tile_places rect n) (λ x y. colour_of f (tile_pixel f (tile_width rect.w n) (tiles ++ t ∷ []) t x y)) old →
    new ≡ tiles_over f rect (n + 1) (tiles ++ t ∷ []) before
draws f rect n tiles t old new before number columns rows whole was drawn =
    let part : Rect = record {
      x = n % across rect.w * 16;
      y = n / across rect.w * 16;
      w = tile_width rect.w n;
      h = tile_height rect.w rect.h n;
    } in
    let on : IsOnScreen rect.w rect.h part = (omega (arith, columns), omega (arith, rows)) in
    let is : IsTileRect rect part n = record { column = refl; row = refl; width = refl; height = refl } in
    let whole' : IsGrid before = whole_before _ before (subst (λ (g : Grid Colour). IsGrid g) was whole) in
    drawn
    ∙ ap (λ (g : Grid Colour). over (tile_places rect n) (λ x y. colour_of f (tile_pixel f (tile_width rect.w n)
    (tiles ++ t ∷ []) t x y)) g) (was ∙ same_tiles f rect n tiles t before whole' number)
    ∙ tile_over f rect part n tiles [] t before whole' is on number

-- as it was read
pub draws_next : (f : PixelFormat) (rect places : Rect) (n : ℕ) (read : TileRead) (bytes : List ℕ) (seen next : Seen)
    (old new : Grid Colour) → places ≡ tile_places rect n → places.x + places.w ≤ rect.x + rect.w → places.y + places.h
    ≤ rect.y + rect.h → IsGrid old → next.background ≡ later (background_named read.layout) seen.background →
    next.foreground ≡ later (foreground_named read.layout) seen.foreground →
    ((before : List Tile) → Sees (before ++ tile_of_read f places.w places.h read bytes ∷ []) next →
    new ≡ over places (λ x y. colour_of f (tile_pixel f places.w (before
    ++ tile_of_read f places.w places.h read bytes ∷ []) (tile_of_read f places.w places.h read bytes) x y)) old) →
    DrawsTile f rect n seen (tile_of_read f (tile_width rect.w n) (tile_height rect.w rect.h n) read bytes) old next new
draws_next f rect places n read bytes seen next old new is columns rows whole background foreground drawn =
    λ tiles before number sees was.
    let drawn' =
    subst (λ (r : Rect). (before : List Tile) → Sees (before ++ tile_of_read f r.w r.h read bytes ∷ []) next →
    new ≡ over r (λ x y. colour_of f (tile_pixel f r.w (before ++ tile_of_read f r.w r.h read bytes ∷ [])
    (tile_of_read f r.w r.h read bytes) x y)) old) is drawn in
    let columns' : rect.x + n % across rect.w * 16 + tile_width rect.w n ≤ rect.x + rect.w =
    subst (λ (r : Rect). r.x + r.w ≤ rect.x + rect.w) is columns in
    let rows' : rect.y + n / across rect.w * 16 + tile_height rect.w rect.h n ≤ rect.y + rect.h =
    subst (λ (r : Rect). r.y + r.h ≤ rect.y + rect.h) is rows in
    let more = sees_more f (tile_width rect.w n) (tile_height rect.w rect.h n) tiles seen next read.layout read.list
    read.count bytes sees background foreground in (
      more,
      draws f rect n tiles (tile_of_read f (tile_width rect.w n) (tile_height rect.w rect.h n) read bytes) old new
          before number columns' rows' whole was (drawn' tiles more),
    )

-- what was read of it lies there
pub good_tile : (f : PixelFormat) (rect : Rect) (n tw th : ℕ) (bytes : List ℕ) (result : Result
    (Option TileRead) Flaw) (next : Next Tile PaintFault) → tw ≡ tile_width rect.w n →
    th ≡ tile_height rect.w rect.h n → TellsTile f tw th bytes result next → IfOk result (λ told. IfSome told
    (λ read. IsGoodTile f rect n read bytes))
good_tile f rect n tw th bytes (Ok None) next wide high told = tt
good_tile f rect n tw th bytes (Ok (Some read)) next wide high told =
    let told' = rw (wide, high) at told in
    record { lies = told'.1; inside = told'.2 }
good_tile f rect n tw th bytes (Err fault) next wide high told = tt

-- ---- a tile more

pub tile_goes_on : (f : PixelFormat) (rect : Rect) (n : ℕ)
    (seen next : Seen) (t : Tile) (pending more xs rest : List ℕ) (old new before : Grid Colour) (body : List ℕ) →
    n < tile_count rect.w rect.h → xs ≡ pending ++ more → rest ≡ [] → DrawsTile f rect n seen t old next new →
    ((tiles : List Tile) → length tiles ≡ n → Sees tiles seen → BeginsTile f rect.w rect.h tiles pending →
    SpellsNextTile f rect.w rect.h tiles t xs) → StandsAt f rect (InTiles n seen) pending old before body →
    StandsAt f rect (InTiles (n + 1) next) rest new before (body ++ more)
tile_goes_on f rect n seen next t pending more xs rest old new before body below is none draws
    spells (tiles, number, sees, s) =
    let fewer : length tiles < tile_count rect.w rect.h = rw number below in
    let drawn = draws tiles before number sees (rw number at s.shows) in
    let long : length (tiles ++ t ∷ []) ≡ n + 1 = length-append tiles (t ∷ []) ∙ ap (λ (k : ℕ). k + 1) number in
    let spelled = tiles_longer f rect.w rect.h tiles t pending more xs body s.spelled fewer is
    (spells tiles number sees s.spelled.begins) in
    (tiles ++ t ∷ [], long, drawn.0, record { spelled = rw none spelled; shows = rw long drawn.1 })

pub begun : (f : PixelFormat) (w h : ℕ) (tiles : List Tile) (pending : List ℕ) → BeginsTile f w h tiles pending →
    next_tile f w h tiles pending ≡ More
begun f w h tiles [] begins = refl
begun f w h tiles (mask ∷ rest) begins = begins.2

-- a tile that was read at its last byte
pub last_taken : (f : PixelFormat) (w h : ℕ) (tiles : List Tile) (pending xs : List ℕ)
    (byte : ℕ) (t : Tile) (rest : List ℕ) → BeginsTile f w h tiles pending → xs ≡ pending ++ byte ∷ [] →
    next_tile f w h tiles xs ≡ Got t rest → SpellsNextTile f w h tiles t xs
last_taken f w h tiles pending xs byte t rest begins is got =
    let n = length tiles in
    let got' : next_tile f w h tiles (pending ++ byte ∷ []) ≡ Got t rest =
    subst (λ (ys : List ℕ). next_tile f w h tiles ys ≡ Got t rest) is got in
    let none = last_byte (next_tile f w h tiles) (tile_says f (tile_width w n) (tile_height w h n) tiles) (tile_reads f
    (tile_width w n) (tile_height w h n) tiles) pending byte t rest (begun f w h tiles pending begins) got' in
    let one = (tile_reads f (tile_width w n) (tile_height w h n) tiles).found xs t rest got in
    let all : xs ≡ one.0 = one.1 ∙ ap (λ (ys : List ℕ). one.0 ++ ys) none ∙ append-nil one.0 in
    rw all one.2

-- ---- bytes of a tile

first_byte : (f : PixelFormat) (w h : ℕ) (tiles : List Tile) (bytes : List ℕ) → length tiles < tile_count w h →
    0 < length bytes → is_raw (slice_index bytes 0) ≡ false → next_tile f w h tiles bytes ≡ More →
    BeginsTile f w h tiles bytes
first_byte f w h tiles [] fewer some drawn more = absurd (omega arith)
first_byte f w h tiles (mask ∷ rest) fewer some drawn more = (fewer, drawn, more)

next_byte : (f : PixelFormat) (w h : ℕ) (tiles : List Tile) (pending : List ℕ) (byte : ℕ) →
    0 < length pending → BeginsTile f w h tiles pending → next_tile f w h tiles (pending ++ byte ∷ []) ≡ More →
    BeginsTile f w h tiles (pending ++ byte ∷ [])
next_byte f w h tiles [] byte some begins more = absurd (omega arith)
next_byte f w h tiles (mask ∷ rest) byte some begins more = (begins.0, begins.1, more)

-- that is not whole yet
pub tile_stays : (f : PixelFormat) (rect : Rect)
    (n : ℕ) (seen : Seen) (pending more xs : List ℕ) (now before : Grid Colour) (body : List ℕ) → xs ≡ pending ++ more →
    ((tiles : List Tile) → length tiles ≡ n → Sees tiles seen → BeginsTile f rect.w rect.h tiles pending →
    BeginsTile f rect.w rect.h tiles xs) → StandsAt f rect (InTiles n seen) pending now before body →
    StandsAt f rect (InTiles n seen) xs now before (body ++ more)
tile_stays f rect n seen pending more xs now before body is begins (tiles, number, sees, s) = (
  tiles,
  number,
  sees,
  record {
    spelled =
        tiles_wait f rect.w rect.h tiles pending more xs body s.spelled is (begins tiles number sees s.spelled.begins);
    shows = s.shows;
  },
)

pub byte_waits : (f : PixelFormat) (rect : Rect) (n : ℕ) (seen : Seen) (pending xs : List ℕ)
    (byte : ℕ) (now before : Grid Colour) (body : List ℕ) → 0 < length pending → xs ≡ pending ++ byte ∷ [] →
    TellsNext f rect n seen xs (Ok None) → StandsAt f rect (InTiles n seen) pending now before body →
    StandsAt f rect (InTiles n seen) xs now before (body ++ byte ∷ [])
byte_waits f rect n seen pending xs byte now before body some is tells stands =
    tile_stays f rect n seen pending (byte ∷ []) xs now before body is
    (λ tiles number sees begins. rw is (next_byte f rect.w rect.h tiles pending byte some begins
    (subst (λ (ys : List ℕ). next_tile f rect.w rect.h tiles ys ≡ More) is (tells tiles number sees)))) stands

-- no pixel of a raw tile yet
pixels_none : (f : PixelFormat) (rect : Rect) (g : Grid Colour) → IsGrid g → g ≡ pixels_over f rect 0 [] g
pixels_none f rect g whole =
    let drawing = λ (x y : ℕ) (old : Colour). if contains rect x y && nat_lt ((y - rect.y) * rect.w + (x - rect.x)) 0
    then colour_of f (raw_pixel f rect.w [] (x - rect.x) (y - rect.y)) else old in
    same_grid g (pixels_over f rect 0 [] g) whole (whole-changed drawing g whole) (sym (width-changed drawing g))
    (sym (height-changed drawing g))
    (λ x y d p q. sym (at-changed drawing g x y d whole p q
    ∙ unchanged (contains rect x y) ((y - rect.y) * rect.w + (x - rect.x)) _ (at_or g x y d)))
  where
    unchanged : (b : Bool) (m : ℕ) (c old : Colour) → (if b && nat_lt m 0 then c else old) ≡ old
    unchanged true m c old = let off : nat_lt m 0 ≡ false = grind (arith, nat_tests) in rw off refl
    unchanged false m c old = refl

-- the mask of one
raw_starts : (f : PixelFormat) (rect : Rect) (n : ℕ) (seen : Seen) (pending rest bytes : List ℕ)
    (now before : Grid Colour) (body : List ℕ) → IsGrid now → n < tile_count rect.w rect.h →
    0 < tile_height rect.w rect.h n * tile_width rect.w n → 0 < size_of f → pending ≡ [] → rest ≡ [] →
    0 < length bytes → is_raw (slice_index bytes 0) ≡ true → StandsAt f rect (InTiles n seen) pending now before body →
    StandsAt f rect (InRawTile n seen (record { x = 0; y = 0 })) rest now before (body ++ take 1 bytes)
raw_starts f rect n seen pending rest [] now before body whole below places size none none' some raw stands =
    absurd (omega arith)
raw_starts f rect n seen pending rest (mask ∷ more) now before body whole below places size none none' some
    raw (tiles, number, sees, s) =
    let zero' : 0 * tile_width rect.w n + 0 ≡ 0 = omega arith in (
      tiles,
      [],
      number,
      sees,
      record {
        spelled = rw (none', zero') (record {
          front = s.spelled.front;
          mask = mask;
          back = [];
          whole = ap (λ (ys : List ℕ). ys ++ mask ∷ [])
              (s.spelled.whole ∙ ap (λ (ys : List ℕ). s.spelled.front ++ ys) none ∙ append-nil s.spelled.front);
          spelled = s.spelled.spelled;
          raw = raw;
          fewer = rw number below;
          left = rw number places;
          some = record { whole = refl; size = omega arith; few = omega arith; short = size; ended = λ e. refl };
        });
        shows = rw zero' (s.shows ∙ pixels_none f (tile_places rect (length tiles))
            (tiles_over f rect (length tiles) tiles before) (subst (λ (g : Grid Colour). IsGrid g) s.shows whole));
      },
    )

-- the first bytes of a tile that is not whole
pub front_goes_on : (f : PixelFormat) (rect : Rect)
    (n : ℕ) (seen : Seen) (pending rest bytes : List ℕ) (step : Step) (now before : Grid Colour) (body : List ℕ) →
    IsGrid now → n < tile_count rect.w rect.h → 0 < tile_height rect.w rect.h n * tile_width rect.w n →
    0 < size_of f → pending ≡ [] → 0 < length bytes → (is_raw (slice_index bytes 0) ≡ true →
    (step ≡ record { used = 1; stage = InRawTile n seen (record { x = 0; y = 0 }) }) × (rest ≡ pending)) →
    (is_raw (slice_index bytes 0) ≡ false →
    (step ≡ record { used = length bytes; stage = InTiles n seen }) × (rest ≡ bytes)) →
    TellsNext f rect n seen bytes (Ok None) → StandsAt f rect (InTiles n seen) pending now before body →
    StandsAt f rect step.stage rest now before (body ++ take step.used bytes)
front_goes_on f rect n seen pending rest bytes step now before body whole below places size none some raw other tells
    stands = by (is_raw (slice_index bytes 0)) refl
  where
    by : (b : Bool) → is_raw (slice_index bytes 0) ≡ b →
        StandsAt f rect step.stage rest now before (body ++ take step.used bytes)
    by true e =
        let told = raw e in
        rw told.0 (raw_starts f rect n seen pending rest bytes now before body whole below places size none
        (told.1 ∙ none) some e stands)
    by false e =
        let told = other e in
        let all : take (length bytes) bytes ≡ bytes = take_all (length bytes) bytes (omega arith) in
        let is : bytes ≡ pending ++ bytes = rw none refl in
        rw (told.0, told.1, all)
        (tile_stays f rect n seen pending bytes bytes now before body is (λ tiles number sees begins. first_byte f
        rect.w rect.h tiles bytes (rw number below) some e (tells tiles number sees)) stands)

pub front_sound : (f : PixelFormat) (rect : Rect) (n : ℕ) (seen : Seen) (pending rest bytes : List ℕ) (step : Step) →
    n < tile_count rect.w rect.h → 0 < tile_width rect.w n → 0 < tile_height rect.w rect.h n →
    0 < size_of f → pending ≡ [] → length bytes < 1536 → (is_raw (slice_index bytes 0) ≡ true →
    (step ≡ record { used = 1; stage = InRawTile n seen (record { x = 0; y = 0 }) }) × (rest ≡ pending)) →
    (is_raw (slice_index bytes 0) ≡ false → (step ≡ record { used = length bytes; stage = InTiles n seen })
    × (rest ≡ bytes)) → is_sound f rect step.stage (length rest) ≡ true
front_sound f rect n seen pending rest bytes step below wide high size none short raw other =
    by (is_raw (slice_index bytes 0)) refl
  where
    all_four : (a b c d m w h k : ℕ) → a < m → b < w → c < h → d < k →
        (nat_lt d k && nat_lt a m && (nat_lt b w && nat_lt c h)) ≡ true
    all_four a b c d m w h k p q r s = grind (arith, nat_tests)

    below_it : (a m : ℕ) → a < m → nat_lt a m ≡ true
    below_it a m p = grind (arith, nat_tests)

    by : (b : Bool) → is_raw (slice_index bytes 0) ≡ b → is_sound f rect step.stage (length rest) ≡ true
    by true e =
        let told = raw e in
        let all : rest ≡ [] = told.1 ∙ none in
        rw (told.0, all) (all_four n 0 0 0 (tile_count rect.w rect.h) (tile_width rect.w n)
        (tile_height rect.w rect.h n) (size_of f) below wide high size)
    by false e = let told = other e in rw (told.0, told.1) (below_it (length bytes) 1536 short)

pub front_some : (n : ℕ) (seen : Seen) (pending rest bytes : List ℕ) (step : Step) →
    0 < length bytes → (is_raw (slice_index bytes 0) ≡ true →
    (step ≡ record { used = 1; stage = InRawTile n seen (record { x = 0; y = 0 }) }) × (rest ≡ pending)) →
    (is_raw (slice_index bytes 0) ≡ false → (step ≡ record { used = length bytes; stage = InTiles n seen })
    × (rest ≡ bytes)) → (0 < step.used) × (step.used ≤ length bytes) × (encoding_at step.stage ≡ Hextile)
front_some n seen pending rest bytes step some raw other = by (is_raw (slice_index bytes 0)) refl
  where
    by : (b : Bool) → is_raw (slice_index bytes 0) ≡ b →
        (0 < step.used) × (step.used ≤ length bytes) × (encoding_at step.stage ≡ Hextile)
    by true e = rw (raw e).0 (omega arith, omega arith, refl)
    by false e = rw (other e).0 (omega arith, omega arith, refl)
