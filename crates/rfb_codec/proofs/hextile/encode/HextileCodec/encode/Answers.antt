use Rattle.std.proofs.Common.{true}
use Rattle.rfb_wire.specs.declared.encoding.Encoding.TheVariants.{Hextile}
use Rattle.rfb_codec.proofs.TakenLaws.{taken}
use Rattle.rfb_codec.proofs.hextile.encode.HextileCodec.encode.Goals as goal

pub returns-clause-taken : goal.returns-clause-taken
returns-clause-taken c =
    taken true Hextile c.args.format.now c.args.block.now c.args.out.now.items c.spell.new.out.items _ _
    c.args.out.now.ok.0 c.spell.new.out.ok.0 c.if-not-spell.ensures.spelled c.if-not-spell.ensures.shorter
