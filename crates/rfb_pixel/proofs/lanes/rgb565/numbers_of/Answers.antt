use Rattle.rfb_pixel.proofs.Unpack565Lemmas.{numbers, numbers_below}
use Rattle.rfb_pixel.proofs.lanes.rgb565.numbers_of.Goals as goal

pub returns-clause-value : goal.returns-clause-value
returns-clause-value c = numbers c.args.bytes.now c.requires c.type_inv.bytes

pub returns-clause-bound : goal.returns-clause-bound
returns-clause-bound c = numbers_below c.args.bytes.now
