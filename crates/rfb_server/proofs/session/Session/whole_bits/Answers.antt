use Rattle.rfb_server.proofs.NeededLemmas.{no_bits}
use Rattle.rfb_server.proofs.session.Session.whole_bits.Goals as goal

pub returns-then-is_plain : goal.returns-then-is_plain
returns-then-is_plain c =
    no_bits c.args.self.now.area.whole c.args.x c.args.y (λ i inside. c.if-is_plain.ensures i c.args.y
    (rw c.requires.wide at inside) (rw c.requires.high at c.requires.row))
