use Rattle.std.proofs.Common.{◌+◌, ◌*◌, ◌∙◌, sym, arith}
use Rattle.rfb_picture.specs.CellOrder.{cells_in, NoneInCells}
use Rattle.rfb_picture.specs.Box.{is_in}
use Rattle.rfb_picture.proofs.ApartLemmas.{apart_more}
use Rattle.rfb_picture.proofs.NextCellLemmas.{none_in_shut}
use Rattle.rfb_picture.proofs.place_set.PlaceSet.next_open_of_both.Goals as goal

pub returns-in_err-at : goal.returns-in_err-at
returns-in_err-at c =
    let here = c.in-Some.here in
    let shut : NoneInCells (is_in c.args.other.now) c.args.other.now.width c.args.other.now.height here (here + 1) =
    rw (← c.other.view_is)
    (none_in_shut c.other.inside.layers here c.other.invariant (sym c.is_open.ensures ∙ c.if-is_open.false)) in
    let all = cells_in c.args.self.now.width * cells_in c.args.self.now.height in
    let is_cell = c.in-Some.ensures.is_cell in
    let none : NoneInCells (is_in c.args.other.now) c.args.other.now.width c.args.other.now.height (here + 1) all =
    rw (c.requires.width, c.requires.height) c.in_err-at.ensures in
    rw c.from_residual.ensures
    (apart_more c.args.self.now c.args.other.now c.args.from c.loop-here.at here all c.requires.width
    c.requires.height c.in-Some.ensures.after (omega (arith, is_cell)) c.loop-here.invariant c.in-Some.ensures.none
    shut none).none

pub loop-here-preserved : goal.loop-here-preserved
loop-here-preserved c =
    let here = c.in-Some.here in
    let shut : NoneInCells (is_in c.args.other.now) c.args.other.now.width c.args.other.now.height here (here + 1) =
    rw (← c.other.view_is)
    (none_in_shut c.other.inside.layers here c.other.invariant (sym c.is_open.ensures ∙ c.if-is_open.false)) in
    apart_more c.args.self.now c.args.other.now c.args.from c.loop-here.at here c.in_ok-at.at c.requires.width
    c.requires.height c.in-Some.ensures.after c.in_ok-at.ensures.after c.loop-here.invariant c.in-Some.ensures.none
    shut c.in_ok-at.ensures.none
