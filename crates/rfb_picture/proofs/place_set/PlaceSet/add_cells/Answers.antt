use Rattle.std.proofs.Common.{refl}
use Rattle.rfb_picture.proofs.GridLemmas.{whole-changed}
use Rattle.rfb_picture.proofs.PlaceSetLemmas.{layered-full, same_sizes, whole-layered}
use Rattle.rfb_picture.proofs.PartLemmas.{filled-nowhere}
use Rattle.rfb_picture.proofs.place_set.PlaceSet.add_cells.Goals as goal

pub invariant_of-self : goal.invariant_of-self
invariant_of-self c =
    let l = c.self.inside.layers in
    same_sizes l _ c.self.invariant refl refl c.add.ensures.width c.add.ensures.height refl refl refl
    refl c.self.invariant.all_places
    (rw c.add.ensures.value (whole-changed _ l.full c.self.invariant.all_full))
    c.self.invariant.all_used c.self.invariant.all_noted c.self.invariant.marks_noted

pub returns-then-inner-gt0-2-clause-value : goal.returns-then-inner-gt0-2-clause-value
returns-then-inner-gt0-2-clause-value c =
    let columns = rw (← c.self.view_is) at c.requires.columns in
    let rows = rw (← c.self.view_is) at c.requires.rows in
    rw (c.add.ensures.value, c.cells_of.ensures, ← c.self.view_is)
    (layered-full c.self.inside.layers c.args.inner c.self.invariant c.if-inner-gt0.true
    c.if-inner-gt0-2.true columns rows)

pub returns-else-inner-gt0-clause-value : goal.returns-else-inner-gt0-clause-value
returns-else-inner-gt0-clause-value c =
    filled-nowhere c.args.self.now c.args.inner (rw (← c.self.view_is) (whole-layered c.self.inside.layers))
    c.else-inner-gt0.either
