use Rattle.std.proofs.Common.{sym, ◌∙◌}
use Rattle.rfb_picture.specs.Box.{is_in}
use Rattle.rfb_picture.specs.CellOrder.{HasNextCell}
use Rattle.rfb_server.proofs.AskedLaws.{cell_asks, asks_cell}
use Rattle.rfb_server.proofs.session.Session.is_asked.Goals as goal

pub returns-then-is_ready : goal.returns-then-is_ready
returns-then-is_ready c =
    let s = c.args.self.now in
    let next : HasNextCell (is_in s.area.asked) s.area.asked.width s.area.asked.height 0 c.next_cell.result =
    rw (c.asked.ensures) at c.next_cell.ensures in (
      λ e. cell_asks s c.next_cell.result next (sym c.is_ready.ensures ∙ c.if-is_ready.true)
          (sym c.is_some.ensures ∙ e),
      λ has. c.is_some.ensures ∙ asks_cell s c.next_cell.result next has,
    )
