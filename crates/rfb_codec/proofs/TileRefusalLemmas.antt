-- Faults of tiles, each at its byte.
use Rattle.std.proofs.Common.{◌≡◌, ℕ, zero, suc, ◌+◌, ◌-◌, ◌<◌, ◌≤◌, List, [], ◌∷◌, ◌++◌, Bool, true, false}
use Rattle.std.proofs.Common.{Result, Ok, Err, length, take, refl, subst, ◌∙◌, ap, append-nil, append_assoc}
use Rattle.std.proofs.Common.{arith}
use Rattle.std.specs.Prelude.{slice_index}
use Rattle.rfb_pixel.specs.declared.colour.Colour.{Colour}
use Rattle.rfb_pixel.specs.Format.{PixelFormat}
use Rattle.rfb_picture.specs.declared.rect.Rect.{Rect}
use Rattle.rfb_picture.specs.Grid.{Grid}
use Rattle.rfb_wire.specs.declared.encoding.Encoding.TheVariants.{Hextile}
use Rattle.rfb_wire.specs.stream.Prefix.{More, Bad}
use Rattle.rfb_codec.specs.declared.fault.PaintFault.{PaintFault}
use Rattle.rfb_codec.specs.declared.hextile.paint.tile_read.Seen.{Seen}
use Rattle.rfb_codec.specs.declared.painter.rectangle.Rectangle.{Rectangle}
use Rattle.rfb_codec.specs.declared.painter.stage.Step.{Step}
use Rattle.rfb_codec.specs.declared.painter.stage.Stage.TheVariants.{InTiles}
use Rattle.rfb_codec.specs.Tile.{Tile, is_raw}
use Rattle.rfb_codec.specs.Hextile.{tile_count}
use Rattle.rfb_codec.specs.Stage.{Sees}
use Rattle.rfb_codec.specs.Hextile.{next_tile}
use Rattle.rfb_codec.specs.RectData.{rect_data}
use Rattle.rfb_codec.specs.Front.{SomeTiles, BeginsTile, Shows, ShowsFront}
use Rattle.rfb_codec.specs.Stage.{StandsAt}
use Rattle.rfb_codec.specs.decoder.Step.{TellsNext, Reaches, Steps}
use Rattle.rfb_codec.proofs.TakeTileLemmas.{tiles_wait}
use Rattle.rfb_codec.specs.declared.fault.Flaw.{Flaw}
use Rattle.rfb_codec.specs.decoder.Step.{FaultsNext, IsRefusedWith}
use Rattle.rfb_codec.proofs.TileFaultLemmas.{raw_is_good, hextile_bad, hextile_data}
use Rattle.rfb_codec.proofs.VerdictLemmas.{refused_with, tiles_are_awaited}

-- a tile that is refused with byte k of these
tile_refused : (f : PixelFormat) (rect : Rect) (n : ℕ) (seen : Seen) (pending bytes : List ℕ) (flaw : Flaw)
    (now before : Grid Colour) (body : List ℕ) → n < tile_count rect.w rect.h → ((tiles : List Tile) →
    length tiles ≡ n → Sees tiles seen → BeginsTile f rect.w rect.h tiles pending → (k : ℕ) ×
    (k < length bytes) × BeginsTile f rect.w rect.h tiles (pending ++ take k bytes) ×
    (next_tile f rect.w rect.h tiles (pending ++ take (k + 1) bytes) ≡ Bad flaw.fault) × (flaw.used ≡ k + 1)) →
    StandsAt f rect (InTiles n seen) pending now before body → IsRefusedWith f rect Hextile before body bytes flaw now
tile_refused f rect n seen pending bytes flaw now before body below refused (tiles, number, sees, s) =
    let at = refused tiles number sees s.spelled.begins in
    let k = at.0 in
    let fewer : length tiles < tile_count rect.w rect.h = rw number below in
    let whole : body ++ take (k + 1) bytes ≡ s.spelled.front ++ (pending ++ take (k + 1) bytes) = ap (λ
    (ys : List ℕ). ys ++ take (k + 1) bytes) s.spelled.whole ∙ append_assoc s.spelled.front pending (take
    (k + 1) bytes) in
    let bad = hextile_bad f rect.w rect.h tiles s.spelled.front (pending ++ take
    (k + 1) bytes) flaw.fault s.spelled.spelled fewer at.3 in
    let shown : Shows f rect (SomeTiles tiles) (pending ++ take k bytes) now before
    (body ++ take k bytes) = record {
      spelled = tiles_wait f rect.w rect.h tiles pending (take k bytes)
          (pending ++ take k bytes) body s.spelled refl at.2;
      shows = s.shows;
    } in
    let waits = tiles_are_awaited f rect n seen (pending ++ take k bytes) now before (body ++ take k bytes) below
    (tiles, number, sees, shown) in
    refused_with (SomeTiles tiles) k pending at.1 shown waits
    (hextile_data f before.width before.height rect (body ++ take (k + 1) bytes) flaw.fault (rw whole bad)) at.4

-- with the byte after those pending
pub byte_refused : (f : PixelFormat) (rect : Rect) (n : ℕ) (seen : Seen) (pending xs : List ℕ) (byte : ℕ)
    (told : Flaw) (now before : Grid Colour) (body : List ℕ) → n < tile_count rect.w rect.h →
    xs ≡ pending ++ byte ∷ [] → TellsNext f rect n seen xs (Err told) → StandsAt f rect
    (InTiles n seen) pending now before body → IsRefusedWith f rect Hextile before body (byte ∷ [])
    (record { used = 1; fault = told.fault }) now
byte_refused f rect n seen pending xs byte told now before body below is tells stands =
    tile_refused f rect n seen pending (byte ∷ []) (record { used = 1; fault = told.fault }) now before body below
    (λ tiles number sees begins.
    let none : pending ++ take 0 (byte ∷ []) ≡ pending = append-nil pending in (
      0,
      omega arith,
      rw none begins,
      subst (λ (ys : List ℕ). next_tile f rect.w rect.h tiles ys ≡ Bad told.fault)
          is (tells tiles number sees),
      refl,
    ))
    stands

-- in a slice, with the first byte with which it is
begins_before : (f : PixelFormat) (w h : ℕ) (tiles : List Tile) (bytes : List ℕ) (k : ℕ) (fault : PaintFault) →
    length tiles < tile_count w h → next_tile f w h tiles (take k bytes) ≡ More →
    next_tile f w h tiles bytes ≡ Bad fault → BeginsTile f w h tiles (take k bytes)
begins_before f w h tiles bytes zero fault fewer more bad = omega arith
begins_before f w h tiles [] (suc k) fault fewer more bad = omega arith
begins_before f w h tiles (mask ∷ rest) (suc k) fault fewer more bad = (fewer, drawn (is_raw mask) refl, more)
  where
    drawn : (b : Bool) → is_raw mask ≡ b → is_raw mask ≡ false
    drawn true e = absurd (raw_is_good f w h tiles mask rest fault e bad)
    drawn false e = e

pub slice_refused : (f : PixelFormat) (rect : Rect) (n : ℕ) (seen : Seen) (pending bytes : List ℕ) (flaw : Flaw)
    (now before : Grid Colour) (body : List ℕ) → n < tile_count rect.w rect.h → pending ≡ [] →
    TellsNext f rect n seen bytes (Err flaw) → FaultsNext f rect n seen bytes flaw → StandsAt f rect
    (InTiles n seen) pending now before body → IsRefusedWith f rect Hextile before body bytes flaw now
slice_refused f rect n seen pending bytes flaw now before body below none tells faults stands =
    tile_refused f rect n seen pending bytes flaw now before body below
    (λ tiles number sees begins.
    let fewer : length tiles < tile_count rect.w rect.h = rw number below in
    let at = faults.shown tiles number sees in
    let some = at.some in
    let within = at.within in
    let k = flaw.used - 1 in
    let last : flaw.used ≡ k + 1 = omega (arith, some) in
    let bad : next_tile f rect.w rect.h tiles (take (k + 1) bytes) ≡ Bad flaw.fault = subst (λ
    (m : ℕ). next_tile f rect.w rect.h tiles (take m bytes) ≡ Bad flaw.fault) last at.bad in
    rw none (
      k,
      omega (arith, some, within),
      begins_before f rect.w rect.h tiles bytes k flaw.fault fewer at.waits
          (tells tiles number sees),
      bad,
      last,
    ))
    stands

-- ---- a fault in more bytes

-- the first of them showed it
pub first_refused : (f : PixelFormat) (rect : Rect) (before : Grid Colour) (body bytes : List ℕ) (flaw : Flaw)
    (now : Grid Colour) → 0 < length bytes → IsRefusedWith f rect Hextile before body
    (slice_index bytes 0 ∷ []) flaw now → IsRefusedWith f rect Hextile before body bytes flaw now
first_refused f rect before body [] flaw now some w = absurd (omega arith)
first_refused f rect before body (byte ∷ rest) flaw now some w =
    let r = w.refused in
    let none : r.n ≡ 0 = let a = r.within in omega arith in
    let bad : rect_data f before.width before.height rect Hextile (body ++ take (0 + 1)
    (byte ∷ [])) ≡ Bad flaw.fault = rw none at r.bad in
    let shows : ShowsFront f rect Hextile before (body ++ take 0 (byte ∷ [])) r.pending now = rw none at r.shows in
    let last : flaw.used ≡ 0 + 1 = rw none at w.last in
    let waits : rect_data f before.width before.height rect Hextile (body ++ take 0
    (byte ∷ [])) ≡ More = rw none at w.waits in
    record {
      refused = record { n = 0; pending = r.pending; within = omega arith; bad = bad; shows = shows };
      last
          = last;
      waits = waits;
    }

-- a step of the first of them is one of all
pub first_steps : (r : Rectangle) (n : ℕ) (seen : Seen) (pending rest bytes : List ℕ) (old new : Grid Colour)
    (result : Result Step Flaw) → 0 < length bytes → Steps r (InTiles n seen) pending old
    (slice_index bytes 0 ∷ []) result rest new → Steps r (InTiles n seen) pending old bytes result rest new
first_steps r n seen pending rest [] old new result some steps = absurd (omega arith)
first_steps r n seen pending rest (byte ∷ bytes) old new (Ok step) some steps =
    let few : step.used ≤ 1 = steps.used in
    let begun : 0 < step.used = steps.some in
    let one : step.used ≡ 1 = omega arith in
    let same : take step.used (byte ∷ []) ≡ take step.used (byte ∷ bytes) = rw one refl in
    record {
      some = begun;
      used = omega arith;
      reaches = subst (λ (ys : List ℕ). Reaches r (InTiles n seen) pending old ys step.stage rest new) same
          steps.reaches;
    }
first_steps r n seen pending rest (byte ∷ bytes) old new (Err flaw) some steps = record {
  some = steps.some;
  within = let one = steps.within in omega (arith, one);
  stops = λ before body stands. first_refused r.format r.rect before body (byte ∷ bytes) flaw new some
      (steps.stops before body stands);
  emptied = steps.emptied;
  width = steps.width;
  height = steps.height;
}
