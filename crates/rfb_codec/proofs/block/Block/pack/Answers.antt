use Rattle.std.proofs.Common.{◌*◌, ◌≤◌, arith, take}
use Rattle.std.proofs.Math.Nat.{mul-le-mul}
use Rattle.std.proofs.lemmas.List.{length-take-le}
use Rattle.rfb_codec.proofs.BlockLemmas.{pixels_everywhere, packed_grid}
use Rattle.rfb_codec.proofs.block.Block.pack.Goals as goal

pub returns-clause-packed : goal.returns-clause-packed
returns-clause-packed c =
    let places = c.args.rect.h * c.args.rect.w in
    let few : places ≤ 64 * 64 = mul-le-mul c.requires.rows.1 c.requires.columns.1 in
    packed_grid c.args.format.now c.args.picture.now c.args.rect (take places c.pack_rows.new.pixels) (length-take-le
    places c.pack_rows.new.pixels (omega (arith, few, c.pack_rows.array_long))) c.pack_rows.ensures.packed

pub returns-clause-fits : goal.returns-clause-fits
returns-clause-fits c = pixels_everywhere c.args.format.now _ c.pack_rows.ensures.fits
