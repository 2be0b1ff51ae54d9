use Rattle.std.proofs.Common.{◌≡◌, length, arith}
use Rattle.std.proofs.lemmas.Grind.{common_steps}
use Rattle.std.proofs.lemmas.List.{with_items_is}
use Rattle.rfb_picture.proofs.PlaneLemmas.{plane-filled}
use Rattle.rfb_picture.proofs.plane.Plane.add.Goals as goal

pub returns-clause-value : goal.returns-clause-value
returns-clause-value c =
    let len : length c.add_places.new.words ≡ c.self.inside.words.items.len = omega arith in
    rw (with_items_is c.self.inside.words.items c.add_places.new.words len, ← c.self.view_is)
    (plane-filled c.self.inside.width c.self.inside.height c.self.inside.across
    c.self.inside.words.items.items c.add_places.new.words c.args.rect c.self.invariant.sound
    (rw c.deref_mut.ensures.value at c.add_places.ensures))

pub add_places-requires-clause-rows : goal.add_places-requires-clause-rows
add_places-requires-clause-rows c = grind (arith, common_steps)

pub invariant_of-self : goal.invariant_of-self
invariant_of-self c = grind (arith, common_steps)
