use Rattle.std.proofs.Common.{arith}
use Rattle.rfb_codec.proofs.CoverLemmas.{run_bits_are}
use Rattle.rfb_codec.proofs.choice.cover.run_bits.Goals as goal

pub returns : goal.returns
returns c = λ i low. run_bits_are c.args.start c.args.end i (omega arith) (omega arith) low
