use Rattle.std.proofs.Common.{rules, ◌≡◌, ◌+◌, ◌*◌, ◌<◌, ℕ, refl, subst, arith, ◌∙◌}
use Rattle.std.specs.Int.{div_ceil}
use Rattle.rfb_server.specs.Cells.{IsCell}
use Rattle.rfb_server.specs.update.Sends.{IsCost, AppendsCells, NoneMayNeed, may_need}
use Rattle.rfb_server.proofs.RoomLemmas.{sum_more, sum_order, few_cells}
use Rattle.rfb_server.proofs.KeptLemmas.{kept_then}
use Rattle.rfb_server.proofs.SentCells.{cells_start, cells_more, cells_skip, same_wide, same_high, limits_kept}
use Rattle.rfb_server.proofs.session.Session.send_cells.Goals.{After-cell_at}
use Rattle.rfb_server.proofs.session.Session.send_cells.Goals as goal

pub loop-index-init : goal.loop-index-init
loop-index-init c = record {
  kept = search rules;
  about = c.requires.about;
  quiet = c.requires.quiet;
  sent = cells_start (div_ceil c.args.self.now.known.width 64) c.args.screen.now c.args.self.now c.args.out.now.items;
  within = omega arith;
  few = omega arith;
  capacity = refl;
  space = λ cost costs fits. omega (arith, fits);
}

-- the cell of that number, which is one of the screen
here : (c : After-cell_at) → IsCell c.args.self.now.known.width c.args.self.now.known.height
    (div_ceil c.args.self.now.known.width 64) c.in-Some.index c.cell_at.result
here c = rw (c.width-width.ensures.value, c.height-height.ensures) at c.cell_at.ensures.cell

below : (c : After-cell_at) →
    c.in-Some.index < div_ceil c.args.self.now.known.width 64 * div_ceil c.args.self.now.known.height 64
below c =
    rw (
      ← same_wide c.args.screen.now c.args.self.now c.loop-index.self c.requires.about c.loop-index.invariant.about,
      ← same_high c.args.screen.now c.args.self.now c.loop-index.self c.requires.about c.loop-index.invariant.about,
    ) c.in-Some.ensures.is_cell

pub send_cell-sent-requires-clause-room : goal.send_cell-sent-requires-clause-room
send_cell-sent-requires-clause-room c =
    let s = c.args.self.now in
    let l = c.loop-index in
    let enough = c.requires.room.1 in
    let index = c.in-Some.index in
    let next = c.in-Some.ensures in
    let at = (goal.at.send_cell-sent-requires-clause-room c).After-cell_at in
    let cost : IsCost (may_need s.marks s.area) s.format c.cell_at.result (enough.cost index) =
    enough.costs index c.cell_at.result (below at) (here at) in
    let space = l.invariant.space enough.cost enough.costs (omega (arith, enough.sum_is, c.requires.room.2)) in
    let skipped = sum_order enough.cost l.next index next.after in
    let order = sum_order enough.cost (index + 1) (div_ceil s.known.width 64 * div_ceil s.known.height 64)
    (omega (arith, below at)) in
    let more = sum_more enough.cost index in (
      enough.cost index,
      rw (l.invariant.kept.marks, l.invariant.kept.area, l.invariant.kept.setting.format) cost,
      omega (arith, space, skipped, order, more, l.invariant.capacity),
    )

pub loop-index-preserved : goal.loop-index-preserved
loop-index-preserved c =
    let s = c.args.self.now in
    let l = c.loop-index in
    let index = c.in-Some.index in
    let across : ℕ = div_ceil s.known.width 64 in
    let next = c.in-Some.ensures in
    let at = (goal.at.loop-index-preserved c).After-cell_at in
    let cells = few_cells s.known.width s.known.height s.alike.columns s.alike.rows in
    let so_far : AppendsCells across index c.args.screen.now s l.self c.args.out.now.items l.out.items l.count =
    cells_skip l.next index c.args.screen.now s l.self c.args.out.now.items l.out.items l.count c.requires.about
    l.invariant.about l.invariant.kept next.after next.none l.invariant.sent in
    record {
      kept = kept_then s l.self c.send_cell-sent.new.self l.invariant.kept c.send_cell-sent.ensures.kept;
      about = c.send_cell-sent.ensures.about;
      quiet = c.send_cell-sent.ensures.quiet;
      sent = rw (c.from-count.ensures)
          (cells_more (div_ceil s.known.width 64) index c.args.screen.now s l.self c.send_cell-sent.new.self
          c.args.out.now.items l.out.items c.send_cell-sent.new.out.items l.count c.cell_at.result
          c.requires.about l.invariant.kept (here at) so_far c.send_cell-sent.result c.send_cell-sent.ensures.sent);
      within = omega (arith, below at);
      few = omega (arith, below at, cells);
      capacity = c.send_cell-sent.ensures.room ∙ l.invariant.capacity;
      space = λ cost costs fits.
          let before = l.invariant.space cost costs fits in
          let skipped = sum_order cost l.next index next.after in
          let more = sum_more cost index in
          let room : IsCost (may_need s.marks s.area) s.format c.cell_at.result (cost index) =
          costs index c.cell_at.result (below at) (here at) in
          let taken = c.send_cell-sent.ensures.len (cost index)
          (rw (l.invariant.kept.marks, l.invariant.kept.area, l.invariant.kept.setting.format) room) in
          omega (arith, before, skipped, more, taken);
    }

pub returns-clause-sent : goal.returns-clause-sent
returns-clause-sent c =
    let s = c.args.self.now in
    let l = c.loop-index in
    let wide = same_wide c.args.screen.now s l.self c.requires.about l.invariant.about in
    let high = same_high c.args.screen.now s l.self c.requires.about l.invariant.about in
    let none : NoneMayNeed l.self l.next (div_ceil l.self.known.width 64 * div_ceil l.self.known.height 64) =
    rw c.in_default.is at c.next_within.ensures in
    let all : div_ceil l.self.known.width 64 * div_ceil l.self.known.height 64
    ≡ div_ceil s.known.width 64 * div_ceil s.known.height 64 = rw (wide, high) refl in
    cells_skip l.next (div_ceil s.known.width 64 * div_ceil s.known.height 64) c.args.screen.now s l.self
    c.args.out.now.items l.out.items l.count c.requires.about l.invariant.about l.invariant.kept l.invariant.within
    (subst (λ (m : ℕ). NoneMayNeed l.self l.next m) all none) l.invariant.sent

pub next_within-requires : goal.next_within-requires
next_within-requires c =
    let s = c.args.self.now in
    let l = c.loop-index in
    limits_kept s l.self c.args.room.first c.args.room.end l.invariant.kept
    (same_wide c.args.screen.now s l.self c.requires.about l.invariant.about)
    (same_high c.args.screen.now s l.self c.requires.about l.invariant.about) c.requires.limits
