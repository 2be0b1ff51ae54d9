-- Whether data have ended, by the stage that they have reached.
use Rattle.std.proofs.Common.{◌≡◌, ℕ, zero, suc, ◌+◌, ◌*◌, ◌<◌, ◌≤◌, ◌||◌, ◌==◌, nat_le, nat_lt, ◌&&◌, List, [], ◌∷◌}
use Rattle.std.proofs.Common.{◌++◌, true, false, length, take, refl, sym, subst, ◌∙◌, ap, append-nil, arith}
use Rattle.std.proofs.Common.{length-append}
use Rattle.std.proofs.Math.Nat.{mul-le-mul_right}
use Rattle.std.proofs.lemmas.Bool.Decides.{nat_tests}
use Rattle.rfb_pixel.specs.declared.colour.Colour.{Colour}
use Rattle.rfb_pixel.specs.Format.{PixelFormat, size_of}
use Rattle.rfb_picture.specs.declared.rect.Rect.{Rect}
use Rattle.rfb_picture.specs.Grid.{Grid, IsGrid}
use Rattle.rfb_picture.proofs.GridLaws.{whole_before}
use Rattle.rfb_wire.specs.declared.encoding.Encoding.{Encoding}
use Rattle.rfb_wire.specs.declared.encoding.Encoding.TheVariants.{Raw, CopyRect, Rre, Hextile}
use Rattle.rfb_wire.specs.Fields.{u32_at}
use Rattle.rfb_wire.specs.stream.Prefix.{More, Got, Bad, Listed, ListedAfter}
use Rattle.rfb_wire.specs.stream.Parts.{continue_with, and_then, done, valued, many, named}
use Rattle.rfb_wire.proofs.stream_laws.PartLaws.{piece_short}
use Rattle.rfb_wire.proofs.stream_laws.ReadingLaws.{each_waits, many_waits}
use Rattle.rfb_wire.proofs.stream_laws.RepeatLaws.{valued_reads}
use Rattle.rfb_codec.specs.declared.fault.PaintFault.{PaintFault}
use Rattle.rfb_codec.specs.declared.fault.Flaw.{Flaw}
use Rattle.rfb_codec.specs.declared.subrect.Subrect.{Subrect}
use Rattle.rfb_codec.specs.declared.hextile.paint.tile_read.Seen.{Seen}
use Rattle.rfb_codec.specs.declared.painter.stage.Place.{Place}
use Rattle.rfb_codec.specs.declared.painter.stage.Stage.{Stage}
use Rattle.rfb_codec.specs.declared.painter.stage.Stage.TheVariants.{BeforeSource, Copied, InPixels, BeforeHead}
use Rattle.rfb_codec.specs.declared.painter.stage.Stage.TheVariants.{InSubrects, InTiles, InRawTile}
use Rattle.rfb_codec.specs.Pixels.{drawn}
use Rattle.rfb_codec.specs.Raw.{raw_length, raw_pixel}
use Rattle.rfb_codec.specs.Rre.{RreHead, SpellsRreHead, SpellsInside, pixel_at, rre, rre_head_of, subrect}
use Rattle.rfb_codec.specs.Tile.{Tile}
use Rattle.rfb_codec.specs.Hextile.{tile_count, tile_width, tile_height, SpellsNextTile, pixel_of_tiles, hextile}
use Rattle.rfb_codec.specs.Hextile.{next_tile}
use Rattle.rfb_codec.specs.decoder.TileRead.{all_tiles}
use Rattle.rfb_codec.specs.RectData.{RectData, Pixels, Source, SpellsData, rect_data, painted, source_in}
use Rattle.rfb_codec.specs.Front.{Front, SomePixels, SpellsPixels, BeginsTile, tiles_over, Shows, encoding_of}
use Rattle.rfb_codec.specs.decoder.Step.{IsRefusedWith}
use Rattle.rfb_codec.specs.Stage.{places_before, copied_from, encoding_at, is_ended, is_sound, StandsAt}
use Rattle.rfb_codec.proofs.PixelLaws.{sized-drawn}
use Rattle.rfb_codec.proofs.PaintLemmas.{over_drawn}
use Rattle.rfb_codec.proofs.PaintRawLemmas.{raw_short}
use Rattle.rfb_codec.proofs.PaintRreLemmas.{rre_short}
use Rattle.rfb_codec.proofs.RawLaws.{raw_stands}
use Rattle.rfb_codec.proofs.RreLaws.{rre_stands, subrect_says, subrect_reads}
use Rattle.rfb_codec.proofs.HextileLaws.{hextile_stands, next_tile_says}
use Rattle.rfb_codec.proofs.TileLaws.{tile_reads}
use Rattle.rfb_codec.proofs.TilesOverLemmas.{tiles_all}
use Rattle.rfb_codec.proofs.PaintHextileLemmas.{hextile_opened, shown_tiles}
use Rattle.rfb_codec.proofs.RectDataLaws.{rect_data_reads}
use Rattle.rfb_codec.proofs.FrontLemmas.{run_within}
use Rattle.rfb_codec.proofs.TakeTileLemmas.{begun}
use Rattle.rfb_codec.proofs.RawTileLemmas.{pixels_all}
use Rattle.rfb_codec.proofs.TileFaultLemmas.{raw_waits}

-- ---- numbers

-- after the last place all are painted
all_painted : (w h x y : ℕ) → y * w + x ≤ h * w → (w == 0 || nat_le h y) ≡ true → y * w + x ≡ h * w
all_painted zero h x y few e = omega arith
all_painted (suc w) h x y few e =
    let below : h ≤ y = grind (arith, nat_tests) in
    let past : h * suc w ≤ y * suc w = mul-le-mul_right (suc w) below in
    omega (arith, past, few)

-- before it there is one
one_left : (w h x y n s : ℕ) → (w == 0 || nat_le h y) ≡ false →
    (nat_lt n s && (w == 0 || nat_lt x w)) ≡ true → (x + 1 ≤ w) × (y < h)
one_left w h x y n s off on = (grind (arith, nat_tests), grind (arith, nat_tests))

zero_is : (n : ℕ) → (n == 0) ≡ true → n ≡ 0
zero_is n e = grind (arith, nat_tests)

not_zero : (n : ℕ) → (n == 0) ≡ false → 0 < n
not_zero n e = grind (arith, nat_tests)

le_is : (a b : ℕ) → nat_le a b ≡ true → a ≤ b
le_is a b e = grind (arith, nat_tests)

lt_is : (a b : ℕ) → nat_le a b ≡ false → b < a
lt_is a b e = grind (arith, nat_tests)

-- ---- data that are refused

-- the pieces that the data begin with wait for more, and with byte k of these the data show the fault
pub refused_with : {f : PixelFormat} {rect : Rect} {before : Grid Colour} {body bytes : List ℕ}
    {flaw : Flaw} {now : Grid Colour} (front : Front) (k : ℕ) (pending : List ℕ) → k < length bytes →
    Shows f rect front (pending ++ take k bytes) now before (body ++ take k bytes) →
    rect_data f before.width before.height rect (encoding_of front) (body ++ take k bytes) ≡ More →
    rect_data f before.width before.height rect (encoding_of front) (body ++ take (k + 1) bytes) ≡ Bad flaw.fault →
    flaw.used ≡ k + 1 → IsRefusedWith f rect (encoding_of front) before body bytes flaw now
refused_with {f} {rect} {before} {body} {bytes} {flaw} {now} front k pending within shown waits bad last = record {
  refused = record {
    n = k;
    pending = pending ++ take k bytes;
    within = within;
    bad = bad;
    shows = record { front = front; encoding_is = refl; shown_is = shown };
  };
  last = last;
  waits = waits;
}

-- ---- data that have ended

-- they are read as these contents, which are painted over the picture, and nothing is pending
pub record HasEnded (f : PixelFormat) (rect : Rect) (encoding : Encoding) (pending : List ℕ) (now before : Grid Colour)
    (body : List ℕ) : Type 0 where
  pub contents : RectData
  pub read : rect_data f before.width before.height rect encoding body ≡ Got contents []
  pub shows : now ≡ painted f rect contents before
  pub none : pending ≡ []

data_got : (f : PixelFormat) (rect : Rect) (encoding : Encoding) (before : Grid Colour) (body bytes : List ℕ)
    (contents : RectData) → body ≡ bytes → SpellsData f before.width before.height rect encoding contents bytes →
    rect_data f before.width before.height rect encoding body ≡ Got contents []
data_got f rect encoding before body bytes contents is said =
    rw is (subst (λ (ys : List ℕ). rect_data f before.width before.height rect encoding ys ≡ Got contents [])
    (append-nil bytes)
    ((rect_data_reads f before.width before.height rect encoding).only contents bytes [] said))

pixels_ended : (f : PixelFormat) (rect : Rect) (at : Place) (pending : List ℕ)
    (now before : Grid Colour) (body pixels : List ℕ) → IsGrid before → places_before rect.w at ≡ rect.h * rect.w →
    Shows f rect (SomePixels (places_before rect.w at) pixels) pending now before body →
    HasEnded f rect Raw pending now before body
pixels_ended f rect at pending now before body pixels whole all s =
    let none = s.spelled.ended all in
    let is : body ≡ pixels = s.spelled.whole ∙ ap (λ (ys : List ℕ). pixels ++ ys) none ∙ append-nil pixels in
    let size : length pixels ≡ raw_length f rect.w rect.h = s.spelled.size ∙ ap (λ (n : ℕ). n * size_of f) all in
    record {
      contents = Pixels (drawn rect.w rect.h (raw_pixel f rect.w pixels));
      read = data_got f rect Raw before body pixels (Pixels (drawn rect.w rect.h (raw_pixel f rect.w pixels))) is
          (sized-drawn rect.w rect.h (raw_pixel f rect.w pixels), raw_stands f rect.w rect.h pixels size);
      shows = s.shows ∙ pixels_all f rect (places_before rect.w at) pixels before whole all
          ∙ over_drawn f rect (raw_pixel f rect.w pixels) before whole;
      none = none;
    }

tiles_ended : (f : PixelFormat) (w h : ℕ) (tiles : List Tile) (pending : List ℕ) → BeginsTile f w h tiles pending →
    tile_count w h ≤ length tiles → (pending ≡ []) × (length tiles ≡ tile_count w h)
tiles_ended f w h tiles [] begins all = (refl, omega (arith, begins, all))
tiles_ended f w h tiles (mask ∷ rest) begins all = absurd (omega (arith, begins.0, all))

pub whole_under : (f : PixelFormat) (rect : Rect) (stage : Stage) (pending : List ℕ) (now before : Grid Colour)
    (body : List ℕ) → IsGrid now → StandsAt f rect stage pending now before body → IsGrid before
whole_under f rect BeforeSource pending now before body whole s = subst (λ (g : Grid Colour). IsGrid g) s.shows whole
whole_under f rect (Copied x y) pending now before body whole s = whole_before _ before (subst (λ
    (g : Grid Colour). IsGrid g) s.shows whole)
whole_under f rect (InPixels at) pending now before body whole (pixels, s) =
    whole_before _ before (subst (λ (g : Grid Colour). IsGrid g) s.shows whole)
whole_under f rect BeforeHead pending now before body whole s = subst (λ (g : Grid Colour). IsGrid g) s.shows whole
whole_under f rect (InSubrects left) pending now before body whole (background, subs, s) =
    whole_before _ before (subst (λ (g : Grid Colour). IsGrid g) s.shows whole)
whole_under f rect (InTiles tile seen) pending now before body whole (tiles, number, sees, s) =
    whole_before _ before (subst (λ (g : Grid Colour). IsGrid g) s.shows whole)
whole_under f rect (InRawTile tile seen at) pending now before body whole (tiles, pixels, number, sees, s) =
    whole_before _ before (whole_before _ _ (subst (λ (g : Grid Colour). IsGrid g) s.shows whole))

-- once the data have ended, what was copied from is the source that they name
pub ended_source : (f : PixelFormat) (rect : Rect) (stage : Stage) (pending : List ℕ) (now before : Grid Colour)
    (body : List ℕ) → is_ended rect stage ≡ true →
    StandsAt f rect stage pending now before body → copied_from stage ≡ source_in (encoding_at stage) body
ended_source f rect BeforeSource pending now before body e s = cc
ended_source f rect (Copied x y) pending now before body e s =
    let named = s.spelled.1 in
    rw (named.x_is, named.y_is) refl
ended_source f rect (InPixels at) pending now before body e s = refl
ended_source f rect BeforeHead pending now before body e s = refl
ended_source f rect (InSubrects left) pending now before body e s = refl
ended_source f rect (InTiles tile seen) pending now before body e s = refl
ended_source f rect (InRawTile tile seen at) pending now before body e s = refl

pub stage_ended : (f : PixelFormat) (rect : Rect) (stage : Stage) (pending : List ℕ) (now before : Grid Colour)
    (body : List ℕ) → IsGrid before → is_ended rect stage ≡ true → StandsAt f rect stage pending now before body →
    HasEnded f rect (encoding_at stage) pending now before body
stage_ended f rect BeforeSource pending now before body whole e s = cc
stage_ended f rect (Copied x y) pending now before body whole e s = record {
  contents = Source x y;
  read = data_got f rect CopyRect before body body (Source x y) refl (s.spelled.1, s.spelled.2);
  shows = s.shows;
  none = s.spelled.0;
}
stage_ended f rect (InPixels at) pending now before body whole e (pixels, s) =
    pixels_ended f rect at pending now before body pixels whole (all_painted rect.w rect.h at.x at.y s.spelled.few e) s
stage_ended f rect BeforeHead pending now before body whole e s = cc
stage_ended f rect (InSubrects left) pending now before body whole e (background, subs, s) =
    let p = s.spelled in
    let number : length subs + left ≡ length subs = let zero' = zero_is left e in omega (arith, zero') in
    let none = p.ended (sym number) in
    let is : body ≡ p.head ++ p.list = p.whole ∙ ap (λ (ys : List ℕ). p.head ++ (p.list ++ ys)) none
    ∙ ap (λ (ys : List ℕ). p.head ++ ys) (append-nil p.list) in
    let head_is : SpellsRreHead f (length subs) background p.head = rw number at p.head_is in
    record {
      contents = Pixels (drawn rect.w rect.h (pixel_at background subs));
      read =
          data_got f rect Rre before body (p.head ++ p.list) (Pixels (drawn rect.w rect.h (pixel_at background subs)))
          is (
            sized-drawn rect.w rect.h (pixel_at background subs),
            rre_stands f rect.w rect.h background subs p.head p.list head_is p.listed,
          );
      shows = s.shows ∙ over_drawn f rect (pixel_at background subs) before whole;
      none = none;
    }
stage_ended f rect (InTiles tile seen) pending now before body whole e (tiles, number, sees, s) =
    let p = s.spelled in
    let end = tiles_ended f rect.w rect.h tiles pending p.begins
    (let past = le_is (tile_count rect.w rect.h) tile e in omega (arith, past, number)) in
    let is : body ≡ p.front = p.whole ∙ ap (λ (ys : List ℕ). p.front ++ ys) end.0 ∙ append-nil p.front in
    record {
      contents = Pixels (drawn rect.w rect.h (pixel_of_tiles f rect.w tiles));
      read = data_got f rect Hextile before body p.front (Pixels (drawn rect.w rect.h (pixel_of_tiles f rect.w tiles)))
          is (
            sized-drawn rect.w rect.h (pixel_of_tiles f rect.w tiles),
            hextile_stands f rect.w rect.h tiles p.front end.1 p.spelled,
          );
      shows = s.shows ∙ ap (λ (n : ℕ). tiles_over f rect n tiles before) end.1 ∙ tiles_all f rect tiles before whole
          ∙ over_drawn f rect (pixel_of_tiles f rect.w tiles) before whole;
      none = end.0;
    }
stage_ended f rect (InRawTile tile seen at) pending now before body whole e s = cc

-- ---- data that wait for more

raw_data : (f : PixelFormat) (width height : ℕ) (rect : Rect) (bytes : List ℕ) →
    length bytes < raw_length f rect.w rect.h → rect_data f width height rect Raw bytes ≡ More
unfolding rect_data
raw_data f width height rect bytes short =
    ap (named (λ block. Pixels block) (λ fault. fault)) (raw_short f rect.w rect.h bytes short)

source_data : (f : PixelFormat) (width height : ℕ) (rect : Rect) (bytes : List ℕ) → length bytes < 4 →
    rect_data f width height rect CopyRect bytes ≡ More
unfolding rect_data
source_data f width height rect bytes short = rw (piece_short {F = PaintFault} 4 bytes short) refl

rre_data : (f : PixelFormat) (width height : ℕ) (rect : Rect) (bytes : List ℕ) → rre f rect.w rect.h bytes ≡ More →
    rect_data f width height rect Rre bytes ≡ More
unfolding rect_data
rre_data f width height rect bytes more = ap (named (λ block. Pixels block) (λ fault. fault)) more

hextile_data : (f : PixelFormat) (width height : ℕ) (rect : Rect) (bytes : List ℕ) →
    hextile f rect.w rect.h bytes ≡ More → rect_data f width height rect Hextile bytes ≡ More
unfolding rect_data
hextile_data f width height rect bytes more = ap (named (λ block. Pixels block) (λ fault. fault)) more

rre_waits : (f : PixelFormat) (w h count background : ℕ) (subs : List Subrect) (head list pending : List ℕ) →
    SpellsRreHead f count background head → Listed (SpellsInside f w h) subs list → length subs < count →
    length pending < size_of f + 8 → rre f w h (head ++ (list ++ pending)) ≡ More
unfolding rre
rre_waits f w h count background subs head list pending head_is listed fewer short =
    let n = 4 + size_of f in
    let opened : valued {F = PaintFault} n (rre_head_of f) (head ++ (list ++ pending))
    ≡ Got (rre_head_of f head) (list ++ pending) =
    (valued_reads n (rre_head_of f)).only (rre_head_of f head) head (list ++ pending) (head_is.size, refl) in
    let less : length subs < u32_at 0 head = let c = head_is.count_is in omega (arith, c, fewer) in
    let waits : subrect f w h pending ≡ More = rw (piece_short {F = PaintFault} (size_of f + 8) pending short) refl in
    let more : many (u32_at 0 head) (subrect f w h) (list ++ pending) ≡ More = many_waits (u32_at 0 head)
    (subrect f w h) (subrect_says f w h) (subrect_reads f w h) subs list pending listed less waits in
    ap (continue_with (λ (k : RreHead). and_then (many k.count (subrect f w h))
    (λ (all : List Subrect). done (drawn w h (pixel_at k.background all))))) opened
    ∙ ap (continue_with (λ (all : List Subrect). done (drawn w h (pixel_at (rre_head_of f head).background all)))) more

tiles_wait : (f : PixelFormat) (w h : ℕ) (tiles : List Tile) (front pending : List ℕ) →
    ListedAfter (SpellsNextTile f w h) [] tiles front → length tiles < tile_count w h →
    next_tile f w h tiles pending ≡ More → hextile f w h (front ++ pending) ≡ More
tiles_wait f w h tiles front pending spelled fewer waits =
    let more : all_tiles f w h (front ++ pending) ≡ More = each_waits (tile_count w h)
    (next_tile f w h) (next_tile_says f w h) (λ (before : List Tile). tile_reads f (tile_width w (length before))
    (tile_height w h (length before)) before) [] tiles front pending spelled fewer waits in
    hextile_opened f w h (front ++ pending) ∙ ap (shown_tiles f w h) more

-- pixels and the bytes of another are fewer than those of all
pub fewer_bytes : (f : PixelFormat) (all count : ℕ) (pixels pending body : List ℕ) →
    SpellsPixels f all count pixels pending body → count < all → length body < all * size_of f
fewer_bytes f all count pixels pending body s less =
    let long : length body ≡ length pixels + length pending = ap length s.whole ∙ length-append pixels pending in
    let next : (count + 1) * size_of f ≤ all * size_of f = mul-le-mul_right (size_of f) (omega arith) in
    let size = s.size in
    let short = s.short in
    omega (arith, long, next, size, short)

-- tiles that are not all there
pub tiles_are_awaited : (f : PixelFormat) (rect : Rect) (tile : ℕ) (seen : Seen) (pending : List ℕ)
    (now before : Grid Colour) (body : List ℕ) → tile < tile_count rect.w rect.h → StandsAt f rect
    (InTiles tile seen) pending now before body → rect_data f before.width before.height rect Hextile body ≡ More
tiles_are_awaited f rect tile seen pending now before body less (tiles, number, sees, s) =
    let p = s.spelled in
    let fewer : length tiles < tile_count rect.w rect.h = omega (arith, less, number) in
    rw p.whole (hextile_data f before.width before.height rect (p.front ++ pending)
    (tiles_wait f rect.w rect.h tiles p.front pending p.spelled fewer
    (begun f rect.w rect.h tiles pending p.begins)))

pub stage_waits : (f : PixelFormat) (rect : Rect)
    (stage : Stage) (pending : List ℕ) (now before : Grid Colour) (body : List ℕ) → is_ended rect stage ≡ false →
    is_sound f rect stage (length pending) ≡ true → StandsAt f rect stage pending now before body →
    rect_data f before.width before.height rect (encoding_at stage) body ≡ More
stage_waits f rect BeforeSource pending now before body e sound s =
    rw s.spelled.0 (source_data f before.width before.height rect pending s.spelled.1)
stage_waits f rect (Copied x y) pending now before body e sound s = cc
stage_waits f rect (InPixels at) pending now before body e sound (pixels, s) =
    let left = one_left rect.w rect.h at.x at.y (length pending) (size_of f) e sound in
    let inside = run_within rect.w rect.h at.x at.y 1 left.0 left.1 in
    raw_data f before.width before.height rect body (fewer_bytes f (rect.h * rect.w) (places_before rect.w at) pixels
    pending body s.spelled (omega (arith, inside)))
stage_waits f rect BeforeHead pending now before body e sound s =
    rw s.spelled.0 (rre_data f before.width before.height rect pending (rre_short f rect.w rect.h pending s.spelled.1))
stage_waits f rect (InSubrects left) pending now before body e sound (background, subs, s) =
    let p = s.spelled in
    let some = not_zero left e in
    rw p.whole (rre_data f before.width before.height rect (p.head ++ (p.list ++ pending)) (rre_waits f rect.w rect.h
    (length subs + left) background subs p.head p.list pending p.head_is p.listed (omega (arith, some)) p.short))
stage_waits f rect (InTiles tile seen) pending now before body e sound stands =
    tiles_are_awaited f rect tile seen pending now before body (lt_is (tile_count rect.w rect.h) tile e) stands
stage_waits f rect (InRawTile tile seen at) pending now before body e sound (tiles, pixels, number, sees, s) =
    let p = s.spelled in
    let w = tile_width rect.w (length tiles) in
    let h = tile_height rect.w rect.h (length tiles) in
    let fewer = fewer_bytes f (h * w) (places_before (tile_width rect.w tile) at) pixels pending p.back p.some p.left in
    let waits = raw_waits f rect.w rect.h tiles (p.mask ∷ p.back) p.mask (omega arith) refl p.raw fewer in
    rw p.whole (hextile_data f before.width before.height rect (p.front ++ (p.mask ∷ p.back))
    (tiles_wait f rect.w rect.h tiles p.front (p.mask ∷ p.back) p.spelled p.fewer waits))
