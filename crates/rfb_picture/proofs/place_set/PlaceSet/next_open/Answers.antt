use Rattle.rfb_picture.proofs.NextCellLemmas.{open-layered}
use Rattle.rfb_picture.proofs.place_set.PlaceSet.next_open.Goals as goal

pub returns : goal.returns
returns c =
    rw (← c.self.view_is)
    (open-layered c.self.inside.layers c.args.from c.next_open.result c.self.invariant
    c.next_open.ensures)
