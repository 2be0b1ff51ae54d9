use Rattle.std.proofs.Common.{refl}
use Rattle.rfb_picture.proofs.GridLemmas.{whole-uniform}
use Rattle.rfb_picture.proofs.PlaceSetLemmas.{layered-none, same_sizes, uniform_none}
use Rattle.rfb_picture.proofs.place_set.PlaceSet.clear.Goals as goal

pub invariant_of-self : goal.invariant_of-self
invariant_of-self c =
    same_sizes c.self.inside.layers _ c.self.invariant refl refl c.clear.ensures.width
    c.clear.ensures.height c.clear-2.ensures.width c.clear-2.ensures.height refl refl
    c.self.invariant.all_places (rw c.clear.ensures.value (whole-uniform _ _ _))
    (rw c.clear-2.ensures.value (whole-uniform _ _ _)) c.self.invariant.all_noted c.self.invariant.marks_noted

pub returns-clause-value : goal.returns-clause-value
returns-clause-value c =
    let l = c.self.inside.layers in
    let sound =
    same_sizes l (record { places = l.places; full = c.clear.new.self; used = c.clear-2.new.self; noted = l.noted })
    c.self.invariant refl refl c.clear.ensures.width c.clear.ensures.height
    c.clear-2.ensures.width c.clear-2.ensures.height refl refl c.self.invariant.all_places
    (rw c.clear.ensures.value (whole-uniform _ _ _))
    (rw c.clear-2.ensures.value (whole-uniform _ _ _)) c.self.invariant.all_noted c.self.invariant.marks_noted in
    rw (← c.self.view_is)
    (layered-none (record { places = l.places; full = c.clear.new.self; used = c.clear-2.new.self; noted = l.noted })
    sound
    (λ i j p q. uniform_none c.clear.new.self l.full.width l.full.height i j c.clear.ensures.value
    (rw c.clear.ensures.width at p) (rw c.clear.ensures.height at q))
    (λ i j p q. uniform_none c.clear-2.new.self l.used.width l.used.height i j
    c.clear-2.ensures.value (rw c.clear-2.ensures.width at p)
    (rw c.clear-2.ensures.height at q)))
