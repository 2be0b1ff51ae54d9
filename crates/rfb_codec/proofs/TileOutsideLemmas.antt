-- A tile that a subrectangle leaves: it is refused with its last byte.
use Rattle.std.proofs.Common.{◌≡◌, ℕ, ◌≤◌, nat_le, List, true, false, None, Result, Ok, Err, length, take, drop}
use Rattle.std.proofs.Common.{slice_index, refl, sym, ◌∙◌, ap, arith}
use Rattle.std.specs.Prelude.{IfErr, Option}
use Rattle.std.proofs.lemmas.List.{get_or-take}
use Rattle.std.proofs.lemmas.Bool.Decides.{nat_tests}
use Rattle.rfb_pixel.specs.Format.{PixelFormat}
use Rattle.rfb_picture.specs.declared.rect.Rect.{Rect}
use Rattle.rfb_wire.specs.Fields.{u8_at}
use Rattle.rfb_wire.specs.stream.Prefix.{Got}
use Rattle.rfb_wire.specs.stream.Parts.{judged, continue_with}
use Rattle.rfb_wire.specs.stream.FaultPlace.{FaultsWith}
use Rattle.rfb_codec.specs.declared.fault.Flaw.{Flaw}
use Rattle.rfb_codec.specs.declared.fault.PaintFault.TheVariants.{SubrectOutside}
use Rattle.rfb_codec.specs.declared.hextile.paint.tile_read.Seen.{Seen}
use Rattle.rfb_codec.specs.declared.hextile.paint.tile_read.TileRead.{TileRead}
use Rattle.rfb_codec.specs.Tile.{Tile, is_raw, subrects_colored, mask_fault, after_mask, places_of, tile_layout}
use Rattle.rfb_codec.specs.Tile.{are_inside, tile_fault, tile_after}
use Rattle.rfb_codec.specs.Hextile.{tile_width, tile_height}
use Rattle.rfb_codec.specs.Stage.{Sees}
use Rattle.rfb_codec.specs.decoder.Step.{FaultsNext}
use Rattle.rfb_codec.proofs.ByteLemmas.{last_awaited}
use Rattle.rfb_codec.proofs.TakeTileLemmas.{some_before}
use Rattle.rfb_codec.proofs.TileLaws.{layout_says, layout_reads}

pub outside_faults : (f : PixelFormat) (w h : ℕ) (before : List Tile) (bytes : List ℕ) (mask : ℕ) (tile : Tile)
    (used : ℕ) → 1 ≤ length bytes → mask ≡ slice_index bytes 0 → mask_fault before mask ≡ None →
    after_mask f w h mask (is_raw mask) (subrects_colored mask) (drop 1 bytes) ≡ Got tile (drop used bytes) →
    1 ≤ used → used ≤ length bytes → are_inside w h (places_of tile) ≡ false → FaultsWith
    (tile_after f w h before) bytes used SubrectOutside
outside_faults f w h before bytes mask tile used some mask_is good found begun within outside =
    let whole : nat_le 1 (length bytes) ≡ true = grind (arith, nat_tests) in
    let first : u8_at 0 (take 1 bytes) ≡ mask = get_or-take 1 bytes 0 0 (omega arith) ∙ sym mask_is in
    let laid : tile_layout f w h before bytes ≡ Got tile (drop used bytes) = rw (whole, first, good, found) refl in
    let two = last_awaited (tile_layout f w h before) (layout_says f w h before)
    (layout_reads f w h before) bytes tile used (omega arith) within laid in
    record {
      some = omega arith;
      within = within;
      waits = ap (continue_with (λ (t : Tile). judged (tile_fault w h t) t)) two.1;
      bad = ap (continue_with (λ (t : Tile). judged (tile_fault w h t) t)) two.0 ∙ rw outside refl;
    }

pub next_faults : (f : PixelFormat) (rect : Rect) (n tw th : ℕ) (seen : Seen) (bytes : List ℕ) (result : Result
    (Option TileRead) Flaw) → tw ≡ tile_width rect.w n → th ≡ tile_height rect.w rect.h n → IfErr result (λ flaw.
    (before : List Tile) → Sees before seen → FaultsWith (tile_after f tw th before) bytes flaw.used flaw.fault) →
    IfErr result (λ flaw. FaultsNext f rect n seen bytes flaw)
next_faults f rect n tw th seen bytes (Ok told) wide high faults = tt
next_faults f rect n tw th seen bytes (Err flaw) wide high faults =
    let any = some_before seen in
    let once = faults any.0 any.1 in
    record {
      some = once.some;
      within = once.within;
      shown = λ tiles number sees. rw number (rw (wide, high) at faults tiles sees);
    }
