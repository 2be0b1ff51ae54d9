use Rattle.std.proofs.Common.{arith}
use Rattle.std.proofs.lemmas.Nat.{one_shl}
use Rattle.std.specs.Int.RustNames.{count_ones}
use Rattle.rfb_pixel.proofs.ChannelLemmas.{max-passes}
use Rattle.rfb_pixel.proofs.channel.Channel.read.Goals as goal

pub returns-then-not-is_max-clause-refused : goal.returns-then-not-is_max-clause-refused
returns-then-not-is_max-clause-refused c = λ max.
    let passes = max-passes c.args.max max in
    grind (arith, one_shl (count_ones c.args.max) 32)
