use Rattle.std.proofs.Common.{arith}
use Rattle.std.specs.Int.{div_ceil}
use Rattle.std.proofs.lemmas.Bool.{OnTrue_from}
use Rattle.rfb_server.specs.Cells.{IsCell}
use Rattle.rfb_server.proofs.RoomLemmas.{few_cells}
use Rattle.rfb_server.proofs.TwinLemmas.{agree_same, agree_skip, agree_more, agree_end}
use Rattle.rfb_server.proofs.session.Session.agrees.Goals as goal

pub loop-index-preserved : goal.loop-index-preserved
loop-index-preserved c =
    let s = c.args.self.now in
    let o = c.args.other.now in
    let l = c.loop-index in
    let index = c.in-Some.index in
    let next = c.in-Some.ensures in
    let here : IsCell s.known.width s.known.height (div_ceil s.known.width 64) index c.cell_at.result =
    rw (c.width-width.ensures.value, c.height-height.ensures) at c.cell_at.ensures.cell in
    let cells = few_cells s.known.width s.known.height s.alike.columns s.alike.rows in
    record {
      same = agree_more s o c.requires.columns index c.cell_at.result here c.if-not-agrees_in.ensures
          (agree_skip s o c.requires.columns l.next index c.requires.rows next.none c.if-not-goes_on_at.ensures.none
          l.invariant.same);
      within = omega (arith, next.is_cell);
      few = omega (arith, next.is_cell, cells);
    }

pub returns-then-knows_same : goal.returns-then-knows_same
returns-then-knows_same c = agree_same c.args.self.now c.args.other.now (c.requires.same c.if-knows_same.true)

pub returns : goal.returns
returns c =
    OnTrue_from c.is_none.result _ (λ e. agree_end c.args.self.now c.args.other.now c.loop-index.next
    c.next_cell-2.result c.is_none.result c.requires.columns c.requires.rows c.in_default.ensures
    c.next_cell-2.ensures c.is_none.ensures e c.loop-index.invariant.same)
