use Rattle.std.proofs.Common.{ap, arith, length}
use Rattle.std.proofs.lemmas.Grind.{common_steps}
use Rattle.rfb_codec.proofs.TileLengthLemmas.{part_at}
use Rattle.rfb_codec.proofs.hextile.encode.pieces.append_colored.Goals as goal

pub append_place-requires-clause-part : goal.append_place-requires-clause-part
append_place-requires-clause-part c =
    let same = ap length c.as_slice-sub-items.ensures.value in
    rw (c.as_slice-sub-items.ensures.value) (part_at c.args.format.now 16 16 c.args.subs.now.items c.loop-sub.sub-index
    _ (omega (arith, same)) c.requires.parts)

pub loop-sub-preserved : goal.loop-sub-preserved
loop-sub-preserved c = grind (arith, common_steps)

pub returns : goal.returns
returns c = grind (arith, common_steps)
