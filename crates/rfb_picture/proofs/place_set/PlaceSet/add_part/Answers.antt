use Rattle.std.proofs.Common.{◌∙◌}
use Rattle.rfb_picture.proofs.GridLemmas.{width-changed, height-changed}
use Rattle.rfb_picture.proofs.PlaceSetLemmas.{whole-layered}
use Rattle.rfb_picture.proofs.NotedLemmas.{sound-marked}
use Rattle.rfb_picture.proofs.OpenedLemmas.{layered-part}
use Rattle.rfb_picture.proofs.PartLemmas.{filled-nowhere}
use Rattle.rfb_picture.proofs.place_set.PlaceSet.add_part.Goals as goal

pub invariant_of-self : goal.invariant_of-self
invariant_of-self c =
    rw c.mark.ensures (sound-marked c.open_cells.new.self c.args.part c.open_cells.ensures.sound)

pub returns-then-part-gt0-2-clause-value : goal.returns-then-part-gt0-2-clause-value
returns-then-part-gt0-2-clause-value c =
    rw (c.mark.ensures, ← c.self.view_is)
    (layered-part c.self.inside.layers c.open_cells.new.self c.args.part c.self.invariant
    (rw c.cells_of.ensures at c.open_cells.ensures))

pub returns-then-part-gt0-2-clause-width : goal.returns-then-part-gt0-2-clause-width
returns-then-part-gt0-2-clause-width c =
    rw (c.mark.ensures, ← c.self.view_is)
    (width-changed _ c.open_cells.new.self.places ∙ c.open_cells.ensures.wide)

pub returns-then-part-gt0-2-clause-height : goal.returns-then-part-gt0-2-clause-height
returns-then-part-gt0-2-clause-height c =
    rw (c.mark.ensures, ← c.self.view_is)
    (height-changed _ c.open_cells.new.self.places ∙ c.open_cells.ensures.high)

pub returns-else-part-gt0-clause-value : goal.returns-else-part-gt0-clause-value
returns-else-part-gt0-clause-value c =
    filled-nowhere c.args.self.now c.args.part (rw (← c.self.view_is) (whole-layered c.self.inside.layers))
    c.else-part-gt0.either
