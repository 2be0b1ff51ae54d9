use Rattle.std.proofs.Common.{arith}
use Rattle.rfb_picture.proofs.PlaneLemmas.{edges-plane}
use Rattle.rfb_picture.proofs.plane.Plane.edges_in.Goals as goal

pub edges_in-requires-clause-small : goal.edges_in-requires-clause-small
edges_in-requires-clause-small c = let least = c.self.invariant.sound.least in let narrow =
    c.self.invariant.sound.narrow in omega arith

pub returns : goal.returns
returns c =
    let room = rw (← c.self.view_is) at c.requires.room in
    let found = rw c.deref.ensures.value at c.edges_in.ensures in
    rw (← c.self.view_is)
    (edges-plane c.self.inside.width c.self.inside.height c.self.inside.across
    c.self.inside.words.items.items c.args.zone c.edges_in.result room found)
