use Rattle.std.proofs.Common.{◌-◌, ◌*◌}
use Rattle.rfb_picture.specs.CellOrder.{cells_in}
use Rattle.rfb_picture.proofs.ApartLemmas.{AreApart}
use Rattle.rfb_picture.proofs.place_set.PlaceSet.next_open_of_both.Given as goal

abbrev pub invariant-loop-here : goal.invariant-loop-here
invariant-loop-here l = AreApart l.self l.other l.from l.at

abbrev pub decreases-loop-here : goal.decreases-loop-here
decreases-loop-here l = cells_in l.self.width * cells_in l.self.height - l.at
