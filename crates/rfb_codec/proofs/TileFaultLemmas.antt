-- Tiles at fault, and raw tiles, which never are.
use Rattle.std.proofs.Common.{◌≡◌, ℕ, ◌<◌, ◌≤◌, nat_le, List, [], ◌∷◌, ◌++◌, true, None}
use Rattle.std.proofs.Common.{length, take}
use Rattle.std.proofs.Common.{drop, inl, inr, refl, sym, subst, ◌∙◌, ap, append_assoc, arith}
use Rattle.std.specs.Prelude.{slice_index}
use Rattle.std.proofs.lemmas.List.{get_or-take}
use Rattle.std.proofs.lemmas.Bool.{cases_lt}
use Rattle.std.proofs.lemmas.Bool.Decides.{nat_tests}
use Rattle.rfb_pixel.specs.Format.{PixelFormat}
use Rattle.rfb_picture.specs.declared.rect.Rect.{Rect}
use Rattle.rfb_wire.specs.declared.encoding.Encoding.TheVariants.{Hextile}
use Rattle.rfb_wire.specs.stream.Prefix.{Next, More, Got, Bad, ListedAfter}
use Rattle.rfb_wire.specs.Fields.{u8_at}
use Rattle.rfb_wire.specs.stream.Parts.{named}
use Rattle.rfb_wire.proofs.stream_laws.PartLaws.{piece_short}
use Rattle.rfb_codec.specs.declared.fault.PaintFault.{PaintFault}
use Rattle.rfb_codec.specs.Raw.{raw_length}
use Rattle.rfb_codec.specs.Tile.{Tile, RawTile, is_raw, subrects_colored, after_mask, mask_fault}
use Rattle.rfb_codec.specs.Hextile.{tile_count, tile_width, tile_height, SpellsNextTile, hextile}
use Rattle.rfb_codec.specs.Hextile.{next_tile}
use Rattle.rfb_codec.specs.RectData.{Pixels, rect_data}
use Rattle.rfb_codec.proofs.HextileLaws.{hextile_reads}
use Rattle.rfb_codec.proofs.TileLaws.{tile_reads}
use Rattle.rfb_codec.proofs.PaintTileLemmas.{tile_got}

-- a raw tile that is not whole is waited for
pub raw_waits : (f : PixelFormat) (w h : ℕ) (tiles : List Tile) (bytes : List ℕ) (mask : ℕ) →
    1 ≤ length bytes → mask ≡ slice_index bytes 0 → is_raw mask ≡ true → length (drop 1 bytes)
    < raw_length f (tile_width w (length tiles)) (tile_height w h (length tiles)) → next_tile f w h tiles bytes ≡ More
raw_waits f w h tiles bytes mask some mask_is raw short =
    let tw = tile_width w (length tiles) in
    let th = tile_height w h (length tiles) in
    let whole : nat_le 1 (length bytes) ≡ true = grind (arith, nat_tests) in
    let first : u8_at 0 (take 1 bytes) ≡ mask = get_or-take 1 bytes 0 0 (omega arith) ∙ sym mask_is in
    let good : mask_fault tiles mask ≡ None = rw raw refl in
    let waits : after_mask f tw th mask (is_raw mask) (subrects_colored mask) (drop 1 bytes) ≡ More =
    rw (raw, piece_short {F = PaintFault} (raw_length f tw th) (drop 1 bytes) short) refl in
    rw (whole, first, good, waits) refl

-- and never at fault
pub raw_is_good : (f : PixelFormat) (w h : ℕ) (tiles : List Tile) (mask : ℕ) (rest : List ℕ)
    (fault : PaintFault) → is_raw mask ≡ true → next_tile f w h tiles (mask ∷ rest) ≡ Bad fault → ⊥
raw_is_good f w h tiles mask rest fault raw bad =
    let tw = tile_width w (length tiles) in
    let th = tile_height w h (length tiles) in
    let n = raw_length f tw th in
    let good : mask_fault tiles mask ≡ None = rw raw refl in
    elim (cases_lt (length rest) n) [
      | inl short ↦ let more = raw_waits f w h tiles (mask ∷ rest) mask (omega arith) refl raw short in
          let both : ◌≡◌ {A = Next Tile PaintFault} More (Bad fault) = sym more ∙ bad in cc
      | inr enough ↦
          let long : nat_le n (length rest) ≡ true = grind (arith, nat_tests) in
          let found : after_mask f tw th mask (is_raw mask) (subrects_colored mask) rest
          ≡ Got (RawTile (take n rest)) (drop n rest) = rw (raw, long) refl in
          let got = tile_got f tw th tiles (mask ∷ rest) mask (RawTile (take n rest)) (drop n rest)
          (omega arith) refl good found refl in
          let both : ◌≡◌ {A = Next Tile PaintFault} (Got (RawTile (take n rest)) (drop n rest)) (Bad fault) =
          sym got ∙ bad in
          cc
    ]

-- the data of tiles show what the tile after them shows
pub hextile_bad : (f : PixelFormat) (w h : ℕ) (tiles : List Tile) (front xs : List ℕ) (fault : PaintFault) →
    ListedAfter (SpellsNextTile f w h) [] tiles front → length tiles < tile_count w h →
    next_tile f w h tiles xs ≡ Bad fault → hextile f w h (front ++ xs) ≡ Bad fault
hextile_bad f w h tiles front xs fault spelled fewer bad =
    let n = length tiles in
    let one = (tile_reads f (tile_width w n) (tile_height w h n) tiles).blamed xs fault bad in
    let u = one.0 in
    let read = (hextile_reads f w h).blames fault (front ++ u) one.1 (record {
      tiles = tiles;
      front = front;
      back = u;
      whole = refl;
      fewer = fewer;
      spelled = spelled;
      bad = one.3;
    }) in
    subst (λ (ys : List ℕ). hextile f w h ys ≡ Bad fault)
    (append_assoc front u one.1 ∙ ap (λ (ys : List ℕ). front ++ ys) (sym one.2)) read

pub hextile_data : (f : PixelFormat) (width height : ℕ) (rect : Rect) (bytes : List ℕ) (fault : PaintFault) →
    hextile f rect.w rect.h bytes ≡ Bad fault → rect_data f width height rect Hextile bytes ≡ Bad fault
unfolding rect_data
hextile_data f width height rect bytes fault bad = ap (named (λ block. Pixels block) (λ fault. fault)) bad
