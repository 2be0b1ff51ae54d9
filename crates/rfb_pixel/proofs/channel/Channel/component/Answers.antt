use Rattle.std.proofs.Common.{◌^◌, ◌/◌, refl}
use Rattle.std.proofs.lemmas.Nat.{and_mask}
use Rattle.rfb_pixel.proofs.channel.Channel.component.Goals as goal

pub returns-then-self-le-WIDEST : goal.returns-then-self-le-WIDEST
returns-then-self-le-WIDEST c =
    let field = and_mask (c.args.pixel / 2 ^ c.args.self.shift) c.args.self.width in
    rw (c.widen.ensures, c.max-max.ensures.value, field) refl

pub returns-else-self-le-WIDEST : goal.returns-else-self-le-WIDEST
returns-else-self-le-WIDEST c =
    let field = and_mask (c.args.pixel / 2 ^ c.args.self.shift) c.args.self.width in
    rw (c.rescale.ensures.value, c.max-max.ensures.value, field) refl
