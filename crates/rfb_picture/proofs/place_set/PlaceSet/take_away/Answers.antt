use Rattle.rfb_picture.specs.layout.PlaceSet.{AreAlike}
use Rattle.rfb_picture.proofs.TakenLemmas.{layered-without, sound-without}
use Rattle.rfb_picture.proofs.place_set.PlaceSet.take_away.Goals as goal

pub invariant_of-self : goal.invariant_of-self
invariant_of-self c =
    rw (c.take_away.ensures.value, c.take_away-2.ensures.value)
    (sound-without c.other.inside.layers c.take_parts.new.self c.take_parts.ensures.sound)

pub returns-clause-value : goal.returns-clause-value
returns-clause-value c =
    let alike : AreAlike c.self.inside.layers c.other.inside.layers = (
      rw (← c.self.view_is, ← c.other.view_is) at c.requires.width,
      rw (← c.self.view_is, ← c.other.view_is) at c.requires.height,
    ) in
    rw (c.take_away.ensures.value, c.take_away-2.ensures.value, ← c.self.view_is, ← c.other.view_is)
    (layered-without c.other.inside.layers c.self.inside.layers c.take_parts.new.self
    c.other.invariant c.self.invariant alike c.take_parts.ensures)
