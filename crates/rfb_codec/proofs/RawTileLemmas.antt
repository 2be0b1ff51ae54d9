-- The pixels of a raw tile, taken from its mask on to its last.
use Rattle.std.proofs.Common.{◌≡◌, ℕ, ◌+◌, ◌*◌, ◌/◌, ◌%◌, ◌<◌, ◌≤◌, nat_lt, List, []}
use Rattle.std.proofs.Common.{◌∷◌, ◌++◌, true}
use Rattle.std.proofs.Common.{length, refl, sym, subst, ◌∙◌, ap, append-nil, append_assoc, arith}
use Rattle.std.proofs.Common.{length-append}
use Rattle.std.proofs.Math.Nat.{mul-le-mul_right}
use Rattle.std.proofs.lemmas.Bool.Decides.{nat_tests}
use Rattle.rfb_pixel.specs.declared.colour.Colour.{Colour}
use Rattle.rfb_pixel.specs.Format.{PixelFormat, size_of, colour_of}
use Rattle.rfb_picture.specs.declared.rect.Rect.{Rect}
use Rattle.rfb_picture.specs.Grid.{Grid, IsGrid}
use Rattle.rfb_picture.proofs.GridLaws.{place_below, whole_before}
use Rattle.rfb_codec.specs.declared.hextile.paint.tile_read.Seen.{Seen}
use Rattle.rfb_codec.specs.declared.painter.stage.Place.{Place}
use Rattle.rfb_codec.specs.declared.painter.stage.Stage.TheVariants.{InTiles, InRawTile}
use Rattle.rfb_codec.specs.Raw.{raw_length, raw_pixel}
use Rattle.rfb_codec.specs.Tile.{Tile, RawTile, is_raw, background_of, foreground_of}
use Rattle.rfb_codec.specs.Hextile.{across, tile_width, tile_height, SpellsNextTile}
use Rattle.rfb_codec.specs.Painter.{over}
use Rattle.rfb_codec.specs.Front.{pixels_over, tiles_over, tile_places}
use Rattle.rfb_codec.specs.Stage.{places_before, StandsAt}
use Rattle.rfb_codec.specs.decoder.Step.{StandsPixels}
use Rattle.rfb_codec.proofs.CarriedLemmas.{last_of-more}
use Rattle.rfb_codec.proofs.HextileEncodeLemmas.{listed_more}
use Rattle.rfb_codec.proofs.FrontLemmas.{run_within}
use Rattle.rfb_codec.proofs.PaintLemmas.{over_all}
use Rattle.rfb_codec.proofs.TakeTileLemmas.{draws}

-- all of them
pub pixels_all : (f : PixelFormat) (rect : Rect) (count : ℕ) (pixels : List ℕ) (g : Grid Colour) →
    IsGrid g → count ≡ rect.h * rect.w →
    pixels_over f rect count pixels g ≡ over rect (λ x y. colour_of f (raw_pixel f rect.w pixels x y)) g
pixels_all f rect count pixels g whole all =
    over_all rect (λ x y. nat_lt (y * rect.w + x) count) (λ x y. colour_of f (raw_pixel f rect.w pixels x y)) g whole
    (λ x y p q. let below = place_below rect.w rect.h x y p q in grind (arith, nat_tests))

-- a raw tile that is whole
raw_spelled : (f : PixelFormat) (w h : ℕ) (tiles : List Tile) (mask : ℕ) (pixels : List ℕ) →
    is_raw mask ≡ true → length pixels ≡ raw_length f (tile_width w (length tiles)) (tile_height w h (length tiles)) →
    SpellsNextTile f w h tiles (RawTile pixels) (mask ∷ pixels)
raw_spelled f w h tiles mask pixels raw size = (
  record { head = mask ∷ []; rest = pixels; whole = refl; one = refl; good = rw raw refl; after = (raw, refl, size) },
  tt,
)

-- pixels taken of it, and those that are left
pub raw_goes_on : (f : PixelFormat) (rect places : Rect) (n : ℕ)
    (seen : Seen) (at next : Place) (pending more rest : List ℕ) (old new before : Grid Colour) (body : List ℕ) →
    places ≡ tile_places rect n → next.x < places.w → next.y < places.h → ((before : Grid Colour) (back : List ℕ) →
    StandsPixels f places at pending old before back → StandsPixels f places next rest new before (back ++ more)) →
    StandsAt f rect (InRawTile n seen at) pending old before body →
    StandsAt f rect (InRawTile n seen next) rest new before (body ++ more)
raw_goes_on f rect places n seen at next pending more rest old new before body is wide high goes
    (tiles, pixels, number, sees, s) =
    let w = tile_width rect.w n in
    let h = tile_height rect.w rect.h n in
    let r = s.spelled in
    let goes' = subst (λ (p : Rect). (before : Grid Colour) (back : List ℕ) →
    StandsPixels f p at pending old before back → StandsPixels f p next rest new before (back ++ more)) is goes in
    let wide' : next.x < w = subst (λ (p : Rect). next.x < p.w) is wide in
    let high' : next.y < h = subst (λ (p : Rect). next.y < p.h) is high in
    let got = goes' (tiles_over f rect n tiles before) r.back (pixels, rw number at r.some, rw number at s.shows) in
    let inside = run_within w h next.x next.y 1 (omega arith) high' in (
      tiles,
      got.0,
      number,
      sees,
      record {
        spelled = record {
          front = r.front;
          mask = r.mask;
          back = r.back ++ more;
          whole = ap (λ (ys : List ℕ). ys ++ more) r.whole ∙ append_assoc r.front (r.mask ∷ r.back) more;
          spelled = r.spelled;
          raw = r.raw;
          fewer = r.fewer;
          left = rw number (omega (arith, inside));
          some = rw number got.1;
        };
        shows = rw number got.2;
      },
    )

pub raw_ends : (f : PixelFormat) (rect places : Rect) (n : ℕ)
    (seen : Seen) (at next : Place) (pending more rest : List ℕ) (old new before : Grid Colour) (body : List ℕ) →
    places ≡ tile_places rect n → places.x + places.w ≤ rect.x + rect.w →
    places.y + places.h ≤ rect.y + rect.h → IsGrid old → places.h ≤ next.y → ((before : Grid Colour) (back : List ℕ) →
    StandsPixels f places at pending old before back → StandsPixels f places next rest new before (back ++ more)) →
    StandsAt f rect (InRawTile n seen at) pending old before body →
    StandsAt f rect (InTiles (n + 1) seen) rest new before (body ++ more)
raw_ends f rect places n seen at next pending more rest old new before body is columns rows whole high goes
    (tiles, pixels, number, sees, s) =
    let w = tile_width rect.w n in
    let h = tile_height rect.w rect.h n in
    let r = s.spelled in
    let shown_before' = tiles_over f rect n tiles before in
    let goes' = subst (λ (p : Rect). (before : Grid Colour) (back : List ℕ) →
    StandsPixels f p at pending old before back → StandsPixels f p next rest new before (back ++ more)) is goes in
    let high' : h ≤ next.y = subst (λ (p : Rect). p.h ≤ next.y) is high in
    let columns' : rect.x + n % across rect.w * 16 + w ≤ rect.x + rect.w =
    subst (λ (p : Rect). p.x + p.w ≤ rect.x + rect.w) is columns in
    let rows' : rect.y + n / across rect.w * 16 + h ≤ rect.y + rect.h =
    subst (λ (p : Rect). p.y + p.h ≤ rect.y + rect.h) is rows in
    let was : old ≡ pixels_over f (tile_places rect n) (places_before w at) pixels shown_before' =
    rw number at s.shows in
    let got = goes' shown_before' r.back (pixels, rw number at r.some, was) in
    let past : h * w ≤ next.y * w = mul-le-mul_right w high' in
    let few = got.1.few in
    let all : places_before w next ≡ h * w = omega (arith, past, few) in
    let none : rest ≡ [] = got.1.ended all in
    let t = RawTile got.0 in
    let long : length (tiles ++ t ∷ []) ≡ n + 1 = length-append tiles (t ∷ []) ∙ ap (λ (k : ℕ). k + 1) number in
    let size : length got.0 ≡ raw_length f w h = got.1.size ∙ ap (λ (k : ℕ). k * size_of f) all in
    let whole' : IsGrid shown_before' =
    whole_before _ shown_before' (subst (λ (g : Grid Colour). IsGrid g) was whole) in
    let pixels_end : r.back ++ more ≡ got.0 = got.1.whole ∙ ap (λ (ys : List ℕ). got.0 ++ ys) none ∙ append-nil got.0 in
    let drawn : new ≡ over (tile_places rect n) (λ x y. colour_of f (raw_pixel f w got.0 x y)) shown_before' =
    got.2 ∙ pixels_all f (tile_places rect n) (places_before w next) got.0 shown_before' whole' all in (
      tiles ++ t ∷ [],
      long,
      record {
        background = sees.background ∙ sym (last_of-more background_of tiles t);
        foreground = sees.foreground ∙ sym (last_of-more foreground_of tiles t);
      },
      record {
        spelled = rw none (record {
          front = r.front ++ (r.mask ∷ got.0);
          whole = ap (λ (ys : List ℕ). ys ++ more) r.whole
              ∙ append_assoc r.front (r.mask ∷ r.back) more ∙ ap (λ (ys : List ℕ). r.front ++ (r.mask ∷ ys)) pixels_end
              ∙ sym (append-nil (r.front ++ (r.mask ∷ got.0)));
          spelled = listed_more (SpellsNextTile f rect.w rect.h) [] tiles t r.front (r.mask ∷ got.0) r.spelled
              (raw_spelled f rect.w rect.h tiles r.mask got.0 r.raw (rw number size));
          begins = let fewer = r.fewer in omega (arith, long, number, fewer);
        });
        shows = rw long (draws f rect n tiles t shown_before' new before number columns' rows' whole' refl drawn);
      },
    )
