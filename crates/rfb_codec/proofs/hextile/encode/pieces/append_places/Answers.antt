use Rattle.std.proofs.Common.{ap, arith, length}
use Rattle.rfb_codec.proofs.TileLengthLemmas.{part_at}
use Rattle.rfb_codec.proofs.hextile.encode.pieces.append_places.Goals as goal

pub append_place-requires-clause-part : goal.append_place-requires-clause-part
append_place-requires-clause-part c =
    let same = ap length c.as_slice-sub-items.ensures.value in
    rw (c.as_slice-sub-items.ensures.value) (part_at c.args.format.now 16 16 c.args.subs.now.items c.loop-sub.sub-index
    _ (omega (arith, same)) c.requires.parts)
