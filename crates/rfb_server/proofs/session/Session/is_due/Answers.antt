use Rattle.std.proofs.Common.{◌*◌, arith}
use Rattle.std.specs.Int.{div_ceil}
use Rattle.rfb_server.specs.Cells.{IsCell}
use Rattle.rfb_server.proofs.RoomLemmas.{few_cells}
use Rattle.rfb_server.proofs.DueLemmas.{box_due, quiet_skip, quiet_more, quiet_not_due}
use Rattle.rfb_server.proofs.session.Session.is_due.Goals.{After-cell_at}
use Rattle.rfb_server.proofs.session.Session.is_due.Goals as goal

-- the cell of that number
here : (c : After-cell_at) → IsCell c.args.self.now.known.width c.args.self.now.known.height
    (div_ceil c.args.self.now.known.width 64) c.in-Some.index c.cell_at.result
here c = rw (c.width-width.ensures.value, c.height-height.ensures) at c.cell_at.ensures.cell

pub returns-then-is_some-clause-due : goal.returns-then-is_some-clause-due
returns-then-is_some-clause-due c =
    box_due c.args.screen.now c.args.self.now c.requires.about c.in-Some.index c.cell_at.result c.needed_in.result
    (here (goal.at.returns-then-is_some-clause-due c).After-cell_at) c.needed_in.ensures
    (rw c.is_some.ensures at c.if-is_some.true)

pub loop-index-preserved : goal.loop-index-preserved
loop-index-preserved c =
    let s = c.args.self.now in
    let l = c.loop-index in
    let index = c.in-Some.index in
    let next = c.in-Some.ensures in
    let cells = few_cells s.known.width s.known.height s.alike.columns s.alike.rows in
    record {
      quiet = quiet_more c.args.screen.now s c.requires.about index c.cell_at.result c.needed_in.result
          (here (goal.at.loop-index-preserved c).After-cell_at)
          c.needed_in.ensures (rw c.is_some.ensures at c.if-is_some.false)
          (quiet_skip c.args.screen.now s c.requires.about l.next index next.none l.invariant.quiet);
      within = omega (arith, next.is_cell);
      few = omega (arith, next.is_cell, cells);
    }

pub returns-clause-none : goal.returns-clause-none
returns-clause-none c =
    let s = c.args.self.now in
    let l = c.loop-index in
    quiet_not_due c.args.screen.now s c.requires.about
    (quiet_skip c.args.screen.now s c.requires.about l.next (div_ceil s.known.width 64 * div_ceil s.known.height 64)
    (rw c.in_default.is at c.next_cell.ensures) l.invariant.quiet)
