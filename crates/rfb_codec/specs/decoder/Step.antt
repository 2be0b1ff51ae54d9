-- What the parts of a painter promise: a step of it, from one stage to the next. No public clause
-- reads these words.
use Rattle.std.specs.Prelude.{◌≡◌, ℕ, ◌+◌, ◌*◌, ◌^◌, ◌<◌, ◌≤◌, ◌==◌, if◌then◌else◌, true, false, List, [], ◌∷◌, ◌++◌}
use Rattle.std.specs.Prelude.{length, take, Option, None, Result, Ok, Err, MatchResult}
use Rattle.rfb_pixel.specs.declared.colour.Colour.{Colour}
use Rattle.rfb_pixel.specs.Format.{PixelFormat, size_of, colour_of}
use Rattle.rfb_picture.specs.declared.rect.Rect.{Rect}
use Rattle.rfb_picture.specs.Grid.{Grid, IsGrid, Holds, filled}
use Rattle.rfb_wire.specs.declared.encoding.Encoding.{Encoding}
use Rattle.rfb_wire.specs.declared.encoding.Encoding.TheVariants.{Raw, CopyRect, Rre, Hextile}
use Rattle.rfb_wire.specs.RectHead.{IsOnScreen}
use Rattle.rfb_wire.specs.stream.Prefix.{More}
use Rattle.rfb_wire.specs.stream.FaultPlace.{FaultsWith}
use Rattle.rfb_codec.specs.declared.subrect.Subrect.{Subrect}
use Rattle.rfb_codec.specs.declared.fault.PaintFault.{PaintFault}
use Rattle.rfb_codec.specs.declared.fault.Flaw.{Flaw}
use Rattle.rfb_codec.specs.declared.fault.PaintFault.TheVariants.{SubrectOutside}
use Rattle.rfb_codec.specs.declared.hextile.paint.drawing.TileSubs.{TileSubs}
use Rattle.rfb_codec.specs.declared.hextile.paint.tile_read.Seen.{Seen}
use Rattle.rfb_codec.specs.declared.hextile.paint.tile_read.TileRead.{TileRead}
use Rattle.rfb_codec.specs.declared.painter.stage.Place.{Place}
use Rattle.rfb_codec.specs.declared.painter.stage.Stage.{Stage}
use Rattle.rfb_codec.specs.declared.painter.stage.Step.{Step}
use Rattle.rfb_codec.specs.declared.painter.rectangle.Rectangle.{Rectangle}
use Rattle.rfb_codec.specs.declared.painter.stage.Stage.TheVariants.{BeforeSource, Copied, InPixels, BeforeHead}
use Rattle.rfb_codec.specs.declared.painter.stage.Stage.TheVariants.{InSubrects, InTiles, InRawTile}
use Rattle.rfb_codec.specs.Raw.{raw_pixel}
use Rattle.rfb_codec.specs.Rre.{pixel_at}
use Rattle.rfb_codec.specs.Tile.{Tile, AreInside, places_of}
use Rattle.rfb_codec.specs.RectData.{rect_data}
use Rattle.rfb_codec.specs.Hextile.{tile_width, tile_height, next_tile}
use Rattle.rfb_codec.specs.decoder.TileRead.{AreSubsInside, LiesIn, TellsTile, tile_of_read, least_size, subs_in}
use Rattle.rfb_codec.specs.Painter.{over}
use Rattle.rfb_codec.specs.Front.{SpellsPixels, pixels_over, tiles_over}
use Rattle.rfb_codec.specs.Stage.{Sees, StandsAt, IsRefused, encoding_at, is_ended, is_sound, places_before}

-- the rectangle lies in a picture, whose places are numbered in 16 bits
pub record IsPaintable (picture : Grid Colour) (rect : Rect) : Type 0 where
  pub whole : IsGrid picture
  pub inside : Holds picture rect
  pub columns : picture.width < 2 ^ 16
  pub rows : picture.height < 2 ^ 16

-- a rectangle of another, where that one lies
abbrev pub moved_into : Rect → Rect → Rect
moved_into rect s = record { x = rect.x + s.x; y = rect.y + s.y; w = s.w; h = s.h }

-- where the data of an encoding begin
abbrev pub stage_of : Encoding → Stage
stage_of Raw = InPixels (record { x = 0; y = 0 })
stage_of CopyRect = BeforeSource
stage_of Rre = BeforeHead
stage_of Hextile = InTiles 0 (record { background = None; foreground = None })

-- the pixels before the place are painted
abbrev pub StandsPixels : PixelFormat → Rect → Place → List ℕ → Grid Colour → Grid Colour → List ℕ →
    Type 0
StandsPixels f rect at pending now before body =
    (pixels : List ℕ)
    × SpellsPixels f (rect.h * rect.w) (places_before rect.w at) pixels pending body
    × (now ≡ pixels_over f rect (places_before rect.w at) pixels before)

-- the picture has these colours over the rectangle, counted from its corner, and keeps its size
pub record PaintsOver (rect : Rect) (c : ℕ → ℕ → Colour) (old new : Grid Colour) : Type 0 where
  pub value : new ≡ over rect c old
  pub width : new.width ≡ old.width
  pub height : new.height ≡ old.height

-- those of data of Raw
abbrev pub PaintsRaw : PixelFormat → Rect → List ℕ → Grid Colour → Grid Colour → Type 0
PaintsRaw f rect bytes old new = PaintsOver rect (λ x y. colour_of f (raw_pixel f rect.w bytes x y)) old new

-- the subrectangles of a tile, which are there and lie in it, and the colours of them over its background
abbrev pub HasSubs : PixelFormat → Rect → TileSubs → List ℕ → Type 0
HasSubs f rect s list = AreSubsInside f rect.w rect.h s.foreground s.colored s.count list

abbrev pub PaintsSubs : PixelFormat → Rect → TileSubs → List ℕ → Grid Colour → Grid Colour → Type 0
PaintsSubs f rect s list old new =
    PaintsOver rect (λ x y. colour_of f
    (pixel_at s.background (subs_in f s.foreground s.colored s.count list) x y)) old new

-- how many places come before the first of a row
abbrev pub first_of_row : ℕ → ℕ → ℕ
first_of_row width row = row * width + 0

-- the bytes are painted as the pixels after the first `from` of the rectangle's
abbrev pub PaintsRun : PixelFormat → Rect → ℕ → ℕ → List ℕ → Grid Colour → Grid Colour → Type 0
PaintsRun f rect from count bytes old new =
    (pixels : List ℕ) (before : Grid Colour) → length pixels ≡ from * size_of f →
    old ≡ pixels_over f rect from pixels before
    → new ≡ pixels_over f rect (from + count) (pixels ++ bytes) before

-- and it keeps its size
pub record PaintsPixels (f : PixelFormat) (rect : Rect) (from count : ℕ) (bytes : List ℕ)
    (old new : Grid Colour) : Type 0 where
  pub value : PaintsRun f rect from count bytes old new
  pub width : new.width ≡ old.width
  pub height : new.height ≡ old.height

-- the tile that was read lies in the bytes, and its subrectangles lie in it
pub record IsGoodTile (f : PixelFormat) (rect : Rect) (n : ℕ) (read : TileRead) (bytes : List ℕ) :
    Type 0 where
  pub lies : LiesIn f (tile_width rect.w n) (tile_height rect.w rect.h n) read bytes
  pub inside : AreInside (tile_width rect.w n) (tile_height rect.w rect.h n)
      (places_of (tile_of_read f (tile_width rect.w n) (tile_height rect.w rect.h n) read bytes))

-- the result for the rectangle's next tile is what the reading gives
abbrev pub TellsNext : PixelFormat → Rect → ℕ → Seen → List ℕ →
    Result (Option TileRead) Flaw → Type 0
TellsNext f rect n seen bytes result =
    (tiles : List Tile) → length tiles ≡ n → Sees tiles seen →
    TellsTile f (tile_width rect.w n) (tile_height rect.w rect.h n) bytes result
    (next_tile f rect.w rect.h tiles bytes)

-- the reading shows the fault with that byte
pub record FaultsNext (f : PixelFormat) (rect : Rect) (n : ℕ) (seen : Seen) (bytes : List ℕ)
    (flaw : Flaw) : Type 0 where
  pub some : 0 < flaw.used
  pub within : flaw.used ≤ length bytes
  pub shown : (tiles : List Tile) → length tiles ≡ n → Sees tiles seen →
      FaultsWith (next_tile f rect.w rect.h tiles) bytes flaw.used flaw.fault

-- the picture of the tiles before has this one too, and these are the colours seen after it
abbrev pub DrawsTile : PixelFormat → Rect → ℕ → Seen → Tile → Grid Colour → Seen → Grid Colour →
    Type 0
DrawsTile f rect n seen tile old next new =
    (tiles : List Tile) (before : Grid Colour) → length tiles ≡ n → Sees tiles seen →
    old ≡ tiles_over f rect n tiles before
    → Sees (tiles ++ tile ∷ []) next × (new ≡ tiles_over f rect (n + 1) (tiles ++ tile ∷ []) before)

-- the subrectangle is painted where it lies, if it lies in the rectangle
pub record PaintsSubrect (r : Rectangle) (part : Subrect) (old new : Grid Colour) : Type 0 where
  pub inside : IsOnScreen r.rect.w r.rect.h part.rect
  pub value : new ≡ filled (moved_into r.rect part.rect) (colour_of r.format part.pixel) old
  pub width : new.width ≡ old.width
  pub height : new.height ≡ old.height

pub record RefusesSubrect (r : Rectangle) (part : Subrect) (old : Grid Colour)
    (fault : PaintFault) (new : Grid Colour) : Type 0 where
  pub outside : IsOnScreen r.rect.w r.rect.h part.rect → ⊥
  pub fault_is : fault ≡ SubrectOutside
  pub kept : new ≡ old

abbrev pub DrawsSubrect : Rectangle → Subrect → Grid Colour → Result (Unit {0}) PaintFault →
    Grid Colour → Type 0
DrawsSubrect r part old (Ok done) new = PaintsSubrect r part old new
DrawsSubrect r part old (Err fault) new = RefusesSubrect r part old fault new

-- what stood for data stands for them with these bytes
abbrev pub GoesOn : PixelFormat → Rect → Stage → List ℕ → Grid Colour → List ℕ → Stage → List ℕ →
    Grid Colour → Type 0
GoesOn f rect stage pending picture bytes next rest now =
    (before : Grid Colour) (body : List ℕ) → StandsAt f rect stage pending picture before body →
    StandsAt f rect next rest now before (body ++ bytes)

-- data are refused with that byte of these, and without it they wait for more
pub record IsRefusedWith (f : PixelFormat) (rect : Rect) (encoding : Encoding)
    (before : Grid Colour) (body bytes : List ℕ) (flaw : Flaw) (now : Grid Colour) : Type 0 where
  pub refused : IsRefused f rect encoding before body bytes flaw.fault now
  pub last : flaw.used ≡ refused.n + 1
  pub waits : rect_data f before.width before.height rect encoding (body ++ take refused.n bytes)
      ≡ More

abbrev pub Stops : PixelFormat → Rect → Stage → List ℕ → Grid Colour → List ℕ → Grid Colour →
    Flaw → Type 0
Stops f rect stage pending picture bytes now flaw =
    (before : Grid Colour) (body : List ℕ) → StandsAt f rect stage pending picture before body →
    IsRefusedWith f rect (encoding_at stage) before body bytes flaw now

-- ---- a step

-- what stood for data at a stage stands for them with these bytes at the next one, of the same
-- encoding, and the picture keeps its size
pub record Reaches (r : Rectangle) (stage : Stage) (pending : List ℕ) (picture : Grid Colour)
    (bytes : List ℕ) (next : Stage) (rest : List ℕ) (now : Grid Colour) : Type 0 where
  pub sound : is_sound r.format r.rect next (length rest) ≡ true
  pub same : encoding_at next ≡ encoding_at stage
  pub goes_on : GoesOn r.format r.rect stage pending picture bytes next rest now
  pub width : now.width ≡ picture.width
  pub height : now.height ≡ picture.height

-- some of the bytes are taken
pub record Takes (r : Rectangle) (stage : Stage) (pending : List ℕ) (picture : Grid Colour)
    (bytes : List ℕ) (step : Step) (rest : List ℕ) (now : Grid Colour) : Type 0 where
  pub some : 0 < step.used
  pub used : step.used ≤ length bytes
  pub reaches : Reaches r stage pending picture (take step.used bytes) step.stage rest now

-- they are taken up to the last one of the data
pub record TakesAll (r : Rectangle) (stage : Stage) (pending : List ℕ) (picture : Grid Colour)
    (bytes : List ℕ) (step : Step) (rest : List ℕ) (now : Grid Colour) : Type 0 where
  pub some : is_ended r.rect stage ≡ false → 0 < length bytes → 0 < step.used
  pub used : step.used ≤ length bytes
  pub all : is_ended r.rect step.stage ≡ false → step.used ≡ length bytes
  pub reaches : Reaches r stage pending picture (take step.used bytes) step.stage rest now

-- they show a fault, and nothing is pending
pub record Breaks (r : Rectangle) (stage : Stage) (pending : List ℕ) (picture : Grid Colour)
    (bytes : List ℕ) (flaw : Flaw) (rest : List ℕ) (now : Grid Colour) : Type 0 where
  pub some : 0 < flaw.used
  pub within : flaw.used ≤ length bytes
  pub stops : Stops r.format r.rect stage pending picture bytes now flaw
  pub emptied : length rest ≡ 0
  pub width : now.width ≡ picture.width
  pub height : now.height ≡ picture.height

-- a step takes some of the bytes, or these show a fault
abbrev pub Steps : Rectangle → Stage → List ℕ → Grid Colour → List ℕ → Result Step Flaw →
    List ℕ → Grid Colour → Type 0
Steps r stage pending picture bytes result rest now =
    MatchResult result (λ step. Takes r stage pending picture bytes step rest now)
    (λ flaw. Breaks r stage pending picture bytes flaw rest now)

-- steps take all of the bytes, or these show a fault
abbrev pub StepsAll : Rectangle → Stage → List ℕ → Grid Colour → List ℕ → Result Step Flaw →
    List ℕ → Grid Colour → Type 0
StepsAll r stage pending picture bytes result rest now =
    MatchResult result (λ step. TakesAll r stage pending picture bytes step rest now)
    (λ flaw. Breaks r stage pending picture bytes flaw rest now)

-- ---- a byte that only joins those pending

-- the fewest bytes that the piece under way has, whose first ones are pending
abbrev pub piece_size : PixelFormat → Stage → List ℕ → ℕ
piece_size f BeforeSource pending = 4
piece_size f (Copied x y) pending = 0
piece_size f (InPixels at) pending = size_of f
piece_size f BeforeHead pending = 4 + size_of f
piece_size f (InSubrects left) pending = size_of f + 8
piece_size f (InTiles tile seen) pending =
    if length pending == 0 then 0 else least_size f pending
piece_size f (InRawTile tile seen at) pending = size_of f

-- whatever the next byte is, it is pending too, and the picture stays
abbrev pub Joins : PixelFormat → Rect → Stage → List ℕ → Type 0
Joins f rect stage pending =
    (byte : ℕ) (picture : Grid Colour) →
    GoesOn f rect stage pending picture (byte ∷ []) stage (pending ++ byte ∷ []) picture
