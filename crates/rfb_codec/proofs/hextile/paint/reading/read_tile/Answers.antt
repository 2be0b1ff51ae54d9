use Rattle.std.proofs.Common.{◌≡◌, ◌∙◌, ◌≤◌, true, refl, sym, arith, false, length, slice_index}
use Rattle.std.proofs.lemmas.Bool.Decides.{nat_tests}
use Rattle.rfb_codec.specs.Tile.{are_inside, places_of}
use Rattle.rfb_codec.specs.decoder.TileRead.{tile_of_read}
use Rattle.rfb_codec.proofs.TileLaws.{inside_true}
use Rattle.rfb_codec.proofs.PaintTileLemmas.{tile_got}
use Rattle.rfb_codec.proofs.TileOutsideLemmas.{outside_faults}
use Rattle.rfb_codec.proofs.hextile.paint.reading.read_tile.Goals as goal

pub returns-then-fits-clause-told : goal.returns-then-fits-clause-told
returns-then-fits-clause-told c = λ before sees.
    let found = c.in-Some-find.ensures.told in
    let tile = tile_of_read c.args.format c.args.width c.args.height c.in-Some-find.read c.args.bytes.now in
    let fit = are_inside c.args.width c.args.height (places_of tile) in
    let inside : fit ≡ true = sym c.fits.ensures ∙ c.if-fits.true in
    let some : 1 ≤ length c.args.bytes.now = grind (arith, nat_tests, c.is_empty.ensures) in (
      tile_got c.args.format c.args.width c.args.height before c.args.bytes.now (slice_index c.args.bytes.now 0) tile _
          some refl (sym (c.in-None.ensures before sees)) found.0 inside,
      found.1,
      inside_true c.args.width c.args.height (places_of tile) inside,
    )

pub returns-else-fits-clause-with : goal.returns-else-fits-clause-with
returns-else-fits-clause-with c = λ before sees.
    let (after, lies) = c.in-Some-find.ensures.told in
    let read = c.in-Some-find.read in
    let bytes = c.args.bytes.now in
    let tile = tile_of_read c.args.format c.args.width c.args.height read bytes in
    let fit = are_inside c.args.width c.args.height (places_of tile) in
    let outside : fit ≡ false = sym c.fits.ensures ∙ c.if-fits.false in
    let some : 1 ≤ length bytes = grind (arith, nat_tests, c.is_empty.ensures) in
    outside_faults c.args.format c.args.width c.args.height before bytes (slice_index bytes 0) tile read.used some
    refl (sym (c.in-None.ensures before sees)) after (omega (arith, lies.end, lies.some)) lies.within outside
