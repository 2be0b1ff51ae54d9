-- A byte that only joins those pending.
use Rattle.std.proofs.Common.{◌≡◌, ℕ, ◌+◌, ◌<◌, ◌==◌, ◌||◌, ◌&&◌, nat_le, nat_lt, List, []}
use Rattle.std.proofs.Common.{◌∷◌, ◌++◌, true}
use Rattle.std.proofs.Common.{false, Option, Some, None, length, take, slice_index, refl, sym, subst, ◌∙◌, ap, arith}
use Rattle.std.proofs.Common.{length-append}
use Rattle.std.proofs.lemmas.List.{take_all}
use Rattle.std.proofs.lemmas.Bool.Decides.{nat_tests}
use Rattle.rfb_pixel.specs.declared.colour.Colour.{Colour}
use Rattle.rfb_pixel.specs.Format.{PixelFormat, size_of}
use Rattle.rfb_picture.specs.declared.rect.Rect.{Rect}
use Rattle.rfb_picture.specs.Grid.{Grid}
use Rattle.rfb_wire.specs.stream.Prefix.{Next, More, Bad}
use Rattle.rfb_codec.specs.declared.fault.PaintFault.{PaintFault}
use Rattle.rfb_codec.specs.declared.painter.stage.Stage.{Stage}
use Rattle.rfb_codec.specs.declared.painter.stage.Stage.TheVariants.{BeforeSource, Copied, InPixels, BeforeHead}
use Rattle.rfb_codec.specs.declared.painter.stage.Stage.TheVariants.{InSubrects, InTiles, InRawTile}
use Rattle.rfb_codec.specs.Tile.{Tile, is_raw, subrects_colored, mask_fault, after_mask}
use Rattle.rfb_codec.specs.Hextile.{tile_count, tile_width, tile_height, next_tile}
use Rattle.rfb_codec.specs.Front.{BeginsTile, tile_places}
use Rattle.rfb_codec.specs.Stage.{StandsAt, is_ended, is_sound}
use Rattle.rfb_codec.specs.UnderWay.{Waits}
use Rattle.rfb_codec.specs.decoder.TileRead.{least_size}
use Rattle.rfb_codec.specs.declared.hextile.paint.tile_read.Seen.{Seen}
use Rattle.rfb_codec.specs.decoder.Step.{GoesOn, piece_size, Joins}
use Rattle.rfb_codec.proofs.FrontLemmas.{walk_waits}
use Rattle.rfb_codec.proofs.TakeTileLemmas.{tile_stays}
use Rattle.rfb_codec.proofs.RawTileLemmas.{raw_goes_on}
use Rattle.rfb_codec.proofs.TakePartLemmas.{subrect_waits}
use Rattle.rfb_codec.proofs.LeastLemmas.{least_waits}
use Rattle.rfb_codec.proofs.FeedLemmas.{feed_waits}

-- ---- a tile

-- a tile that waits has a good mask
mask_is_good : (f : PixelFormat) (w h : ℕ) (tiles : List Tile) (mask : ℕ) (rest : List ℕ) →
    next_tile f w h tiles (mask ∷ rest) ≡ More → mask_fault tiles mask ≡ None
mask_is_good f w h tiles mask rest more = by (mask_fault tiles mask) refl
  where
    by : (fault : Option PaintFault) → mask_fault tiles mask ≡ fault → mask_fault tiles mask ≡ None
    by None e = e
    by (Some fault) e =
        let some : nat_le 1 (length (mask ∷ rest)) ≡ true = grind (arith, nat_tests) in
        let bad : next_tile f w h tiles (mask ∷ rest) ≡ Bad fault = rw (some, e) refl in
        let both : ◌≡◌ {A = Next Tile PaintFault} More (Bad fault) = sym more ∙ bad in cc

begins_still : (f : PixelFormat) (w h : ℕ) (tiles : List Tile) (pending more : List ℕ) →
    0 < length pending → length (pending ++ more) < least_size f pending → BeginsTile f w h tiles pending →
    BeginsTile f w h tiles (pending ++ more)
begins_still f w h tiles [] more some short begins = absurd (omega arith)
begins_still f w h tiles (mask ∷ rest) more some short (fewer, drawn, waits) =
    let here : nat_le 1 (length (mask ∷ (rest ++ more))) ≡ true = grind (arith, nat_tests) in
    let good = mask_is_good f w h tiles mask rest waits in
    let list : after_mask f (tile_width w (length tiles)) (tile_height w h (length tiles)) mask (is_raw mask)
    (subrects_colored mask) (rest ++ more) ≡ More =
    least_waits f (tile_width w (length tiles)) (tile_height w h (length tiles)) (mask ∷ rest) more some drawn short in
    let waits' : next_tile f w h tiles (mask ∷ (rest ++ more)) ≡ More = rw (here, good, list) refl in
    (fewer, drawn, waits')

-- bytes of it, fewer than it has at least
pub tile_waits : (f : PixelFormat) (rect : Rect)
    (n : ℕ) (seen : Seen) (pending more xs : List ℕ) (now before : Grid Colour) (body : List ℕ) → 0 < length pending →
    xs ≡ pending ++ more → length xs < least_size f pending → StandsAt f rect (InTiles n seen) pending now before body →
    StandsAt f rect (InTiles n seen) xs now before (body ++ more)
tile_waits f rect n seen pending more xs now before body some is short stands =
    let short' : length (pending ++ more) < least_size f pending = rw is at short in
    tile_stays f rect n seen pending more xs now before body is
    (λ tiles number sees begins. rw is (begins_still f rect.w rect.h tiles pending more some short' begins)) stands

-- ---- what follows from the tests

inside_row : (n s x y w h : ℕ) → (w == 0 || nat_le h y) ≡ false →
    (nat_lt n s && (w == 0 || nat_lt x w)) ≡ true → (x < w) × (y < h)
inside_row n s x y w h left sound = (grind (arith, nat_tests), grind (arith, nat_tests))

inside_tile : (n s t c x y w h : ℕ) → (nat_lt n s && nat_lt t c && (nat_lt x w && nat_lt y h)) ≡ true →
    (x < w) × (y < h)
inside_tile n s t c x y w h sound = (grind (arith, nat_tests), grind (arith, nat_tests))

some_left : (n : ℕ) → (n == 0) ≡ false → 0 < n
some_left n e = grind (arith, nat_tests)

-- ---- any piece

module _ (f : PixelFormat) (rect : Rect) (pending : List ℕ) where
  long : (byte : ℕ) → length (pending ++ byte ∷ []) ≡ length pending + 1
  long byte = length-append pending (byte ∷ [])

  pub joined : (stage : Stage) → is_ended rect stage ≡ false → is_sound f rect stage (length pending) ≡ true →
      length pending + 1 < piece_size f stage pending → Joins f rect stage pending
  joined BeforeSource left sound short = λ byte picture before body s.
      let l = long byte in
      record { spelled = (ap (λ (ys : List ℕ). ys ++ byte ∷ []) s.spelled.0, omega (arith, l)); shows = s.shows }
  joined (Copied x y) left sound short = absurd (omega arith)
  joined (InPixels at) left sound short = λ byte picture before body stands.
      let l = long byte in
      let inside = inside_row (length pending) (size_of f) at.x at.y rect.w rect.h left sound in
      let r = walk_waits f rect at pending (byte ∷ []) (pending ++ byte ∷ []) picture before body
      (stands.0, stands.1.spelled, stands.1.shows) inside.0 inside.1 refl (omega (arith, l)) in
      (r.0, record { spelled = r.1; shows = r.2 })
  joined BeforeHead left sound short = λ byte picture before body s.
      let l = long byte in
      record { spelled = (ap (λ (ys : List ℕ). ys ++ byte ∷ []) s.spelled.0, omega (arith, l)); shows = s.shows }
  joined (InSubrects n) left sound short = λ byte picture before body stands.
      let l = long byte in
      subrect_waits f rect n pending (byte ∷ []) (pending ++ byte ∷ []) picture before body (some_left n left)
      refl (omega (arith, l)) stands
  joined (InTiles tile seen) left sound short = λ byte picture before body stands.
      let l = long byte in
      let some : 0 < length pending = grind (arith, nat_tests) in
      let test : (length pending == 0) ≡ false = grind (arith, nat_tests) in
      let few : length pending + 1 < least_size f pending = rw test at short in
      tile_waits f rect tile seen pending (byte ∷ []) (pending ++ byte ∷ []) picture before body some refl
      (omega (arith, l, few)) stands
  joined (InRawTile tile seen at) left sound short = λ byte picture before body stands.
      let l = long byte in
      let inside = inside_tile (length pending) (size_of f) tile (tile_count rect.w rect.h) at.x at.y
      (tile_width rect.w tile) (tile_height rect.w rect.h tile) sound in
      raw_goes_on f rect (tile_places rect tile) tile seen at at pending (byte ∷ []) (pending ++ byte ∷ []) picture
      picture before body refl inside.0 inside.1
      (λ before' back there. walk_waits f (tile_places rect tile) at pending (byte ∷ []) (pending ++ byte ∷ []) picture
      before' back there inside.0 inside.1 refl (omega (arith, l))) stands

-- ---- a slice of one byte

single : (bytes : List ℕ) → length bytes ≡ 1 → slice_index bytes 0 ∷ [] ≡ bytes
single [] one = absurd (omega arith)
single (x ∷ []) one = refl
single (x ∷ y ∷ more) one = absurd (omega arith)

pub byte_joined : (f : PixelFormat) (rect : Rect) (stage : Stage) (pending rest : List ℕ) (picture : Grid Colour)
    (bytes : List ℕ) → length bytes ≡ 1 → is_ended rect stage ≡ false → is_sound f rect stage (length rest) ≡ true →
    rest ≡ pending ++ slice_index bytes 0 ∷ [] → Joins f rect stage pending →
    Waits (record { rect = rect; form = f; stage = stage; pending = pending }) picture bytes
    (record { rect = rect; form = f; stage = stage; pending = rest }) picture
byte_joined f rect stage pending rest picture bytes one left sound is joins =
    let all : take 1 bytes ≡ bytes = take_all 1 bytes (omega (arith, one)) in
    let same : slice_index bytes 0 ∷ [] ≡ take 1 bytes = single bytes one ∙ sym all in
    let goes : GoesOn f rect stage pending picture (take 1 bytes) stage rest picture = λ before body stands.
    subst (λ (ys : List ℕ). StandsAt f rect stage rest picture before (body ++ ys)) same
    (rw is (joins (slice_index bytes 0) picture before body stands)) in
    feed_waits f rect stage stage pending rest picture picture 1 bytes (sym one) left sound refl goes
