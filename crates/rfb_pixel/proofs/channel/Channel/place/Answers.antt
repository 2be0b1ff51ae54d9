use Rattle.std.proofs.Common.{◌^◌, ◌<◌, arith}
use Rattle.std.proofs.lemmas.Nat.{shl_whole}
use Rattle.rfb_pixel.proofs.channel.Channel.place.Goals as goal

pub returns : goal.returns
returns c =
    let fits : c.narrow.result < 2 ^ c.args.self.width = omega arith in
    rw (shl_whole c.narrow.result c.args.self.width c.args.self.shift 32 fits (omega arith)) (cc)
