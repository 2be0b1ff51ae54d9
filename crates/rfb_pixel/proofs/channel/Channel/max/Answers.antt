use Rattle.std.proofs.Common.{◌<◌, arith}
use Rattle.std.proofs.lemmas.Nat.{one_shl, pow_below}
use Rattle.rfb_pixel.proofs.channel.Channel.max.Goals as goal

pub returns-clause-some : goal.returns-clause-some
returns-clause-some c =
    let narrow : c.args.self.width < 32 = omega arith in
    rw (one_shl c.args.self.width 32 narrow)
    (omega (arith, pow_below 0 c.args.self.width (omega arith)))
