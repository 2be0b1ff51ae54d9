use Rattle.std.proofs.Common.{Some, None}
use Rattle.rfb_picture.proofs.BoxLemmas.{box_is, clear_is}
use Rattle.rfb_picture.proofs.CellLemmas.{edges-layered}
use Rattle.rfb_picture.proofs.place_set.PlaceSet.bounds_in.Goals as goal

pub returns-in-None : goal.returns-in-None
returns-in-None c =
    let room = rw (← c.self.view_is) at c.requires in
    rw (← c.self.view_is)
    (clear_is _ c.args.cell
    (edges-layered c.self.inside.layers c.args.cell None room c.in-None.ensures))

pub returns-in-Some : goal.returns-in-Some
returns-in-Some c =
    let room = rw (← c.self.view_is) at c.requires in
    rw (← c.self.view_is, c.rect.ensures)
    (box_is _ c.args.cell c.in-Some.edges
    (edges-layered c.self.inside.layers c.args.cell (Some c.in-Some.edges) room
    c.in-Some.ensures))
