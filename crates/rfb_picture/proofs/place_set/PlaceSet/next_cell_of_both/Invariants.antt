use Rattle.std.proofs.Common.{◌-◌, ◌*◌}
use Rattle.rfb_picture.specs.CellOrder.{cells_in}
use Rattle.rfb_picture.proofs.ApartLemmas.{AreApart}
use Rattle.rfb_picture.proofs.place_set.PlaceSet.next_cell_of_both.Given as goal

abbrev pub invariant-loop-cell : goal.invariant-loop-cell
invariant-loop-cell l = AreApart l.self l.other l.from l.at

abbrev pub decreases-loop-cell : goal.decreases-loop-cell
decreases-loop-cell l = cells_in l.self.width * cells_in l.self.height - l.at
