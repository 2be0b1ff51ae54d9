use Rattle.rfb_wire.specs.declared.encoding.Encoding.TheVariants.{Rre}
use Rattle.rfb_codec.proofs.TakenLaws.{taken}
use Rattle.rfb_codec.proofs.rre.encode.RreCodec.encode.Goals as goal

pub returns-then-pixels-le-SMALL-clause-taken : goal.returns-then-pixels-le-SMALL-clause-taken
returns-then-pixels-le-SMALL-clause-taken c =
    taken c.encode_with.result Rre c.args.format.now c.args.block.now c.args.out.now.items c.encode_with.new.out.items _
    _ c.args.out.now.ok.0 c.encode_with.new.out.ok.0 c.encode_with.ensures.spelled c.encode_with.ensures.shorter

pub returns-else-pixels-le-SMALL-clause-taken : goal.returns-else-pixels-le-SMALL-clause-taken
returns-else-pixels-le-SMALL-clause-taken c =
    taken c.encode_with-else-pixels-le-SMALL.result Rre c.args.format.now
    c.args.block.now c.args.out.now.items c.encode_with-else-pixels-le-SMALL.new.out.items _ _ c.args.out.now.ok.0
    c.encode_with-else-pixels-le-SMALL.new.out.ok.0 c.encode_with-else-pixels-le-SMALL.ensures.spelled
    c.encode_with-else-pixels-le-SMALL.ensures.shorter
