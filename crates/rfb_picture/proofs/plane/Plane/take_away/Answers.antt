use Rattle.std.proofs.Common.{◌≡◌, ◌∙◌, length, arith}
use Rattle.std.proofs.lemmas.Grind.{common_steps}
use Rattle.std.proofs.lemmas.List.{with_items_is}
use Rattle.rfb_picture.proofs.TakenPlaneLemmas.{plane-taken}
use Rattle.rfb_picture.proofs.plane.Plane.take_away.Goals as goal

pub returns-clause-value : goal.returns-clause-value
returns-clause-value c =
    let wide = rw (← c.self.view_is, ← c.other.view_is) at c.requires.width in
    let high = rw (← c.self.view_is, ← c.other.view_is) at c.requires.height in
    let len : length c.take_places.new.words ≡ c.self.inside.words.items.len = omega arith in
    c.pass_empty_rows.ensures ∙ rw (
      with_items_is c.self.inside.words.items c.take_places.new.words len,
      ← c.self.view_is,
      ← c.other.view_is,
    )
    (plane-taken c.self.inside.width c.self.inside.height c.self.inside.across c.other.inside.width
    c.other.inside.height c.other.inside.across c.self.inside.first c.self.inside.last
    c.self.inside.words.items.items c.take_places.new.words c.other.inside.words.items.items
    c.self.invariant.sound c.other.invariant.sound wide high c.self.invariant.within
    (rw (
      c.from.ensures,
      c.from-2.ensures,
      c.deref_mut.ensures.value,
      c.deref.ensures.value,
    ) at c.take_places.ensures))

pub invariant_of-self : goal.invariant_of-self
invariant_of-self c = grind (arith, common_steps)
