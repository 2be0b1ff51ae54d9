use Rattle.rfb_picture.proofs.NextCellLemmas.{next-layered}
use Rattle.rfb_picture.proofs.place_set.PlaceSet.next_cell.Goals as goal

pub returns : goal.returns
returns c =
    rw (← c.self.view_is)
    (next-layered c.self.inside.layers c.args.from c.next_cell.result c.next_cell.ensures)
