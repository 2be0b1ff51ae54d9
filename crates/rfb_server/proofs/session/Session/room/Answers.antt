use Rattle.std.proofs.Common.{◌≡◌, ◌+◌, ◌*◌, ◌≤◌, ℕ, arith}
use Rattle.std.specs.Int.{div_ceil}
use Rattle.rfb_picture.specs.declared.rect.Rect.{Rect}
use Rattle.rfb_server.specs.declared.session.Session.{Session}
use Rattle.rfb_server.specs.Cells.{IsCell, cell_at}
use Rattle.rfb_server.specs.Room.{cell_room}
use Rattle.rfb_server.specs.update.Sends.{may_need, IsCost, IsEnough, NoneMayNeed}
use Rattle.rfb_server.proofs.RoomLemmas.{costs_none, costs_more, costs_skip, cut, sum_cut, with_cost, sum_with}
use Rattle.rfb_server.proofs.RoomLemmas.{few_cells, one_cell_more, all_cells}
use Rattle.rfb_server.proofs.session.Session.room.Goals as goal

-- the room of a cell
abbrev room_in : Session → ℕ → ℕ
room_in s i = cell_room s.format s.area (cell_at s.known.width s.known.height i)

-- no cell has been looked at
enough_none : (s : Session) → IsEnough s (div_ceil s.known.width 64) 0 0
enough_none s = record {
  cost = λ _. 0;
  costs =
      costs_none s.known.width s.known.height (div_ceil s.known.width 64) (may_need s.marks s.area) s.format (λ _. 0);
  sum_is = omega arith;
}

-- one more, after others that need no room
enough_more : (s : Session) (at index room cost : ℕ) → at ≤ index → NoneMayNeed s at index →
    ((cell : Rect) → IsCell s.known.width s.known.height (div_ceil s.known.width 64) index cell →
    IsCost (may_need s.marks s.area) s.format cell cost) →
    IsEnough s (div_ceil s.known.width 64) at room → IsEnough s (div_ceil s.known.width 64) (index + 1) (room + cost)
enough_more s at index room cost after none here before = record {
  cost = with_cost index cost (cut at before.cost);
  costs = costs_more s.known.width s.known.height (div_ceil s.known.width 64) (may_need s.marks s.area) s.format
      index cost (cut at before.cost)
      (costs_skip s.known.width s.known.height (div_ceil s.known.width 64) (may_need s.marks s.area) s.format
      at index before.cost before.costs none) here;
  sum_is =
      rw (sum_with index cost (cut at before.cost), sum_cut at index before.cost after) (omega (arith, before.sum_is));
}

-- all the others need none
enough_all : (s : Session) (at all room : ℕ) → at ≤ all → NoneMayNeed s at all →
    IsEnough s (div_ceil s.known.width 64) at room → IsEnough s (div_ceil s.known.width 64) all room
enough_all s at all room within none before = record {
  cost = cut at before.cost;
  costs = costs_skip s.known.width s.known.height (div_ceil s.known.width 64) (may_need s.marks s.area) s.format
      at all before.cost before.costs none;
  sum_is = rw (sum_cut at all before.cost within) before.sum_is;
}

pub loop-index-init : goal.loop-index-init
loop-index-init c =
    let s = c.args.self.now in
    let first = c.in-Some.first in
    let next = c.in-Some.ensures in
    let cost = c.cost_of-bytes.result in
    let here : IsCell s.known.width s.known.height (div_ceil s.known.width 64) first c.cell_at.result =
    rw (c.width-width.ensures.value, c.height-height.ensures) at c.cell_at.ensures.cell in
    let cells = few_cells s.known.width s.known.height s.alike.columns s.alike.rows in
    let alone : 0 + cost ≡ cost = omega arith in
    record {
      enough = rw alone at (enough_more s 0 first 0 cost next.after next.none
          (λ cell is. c.cost_of-bytes.ensures.enough (div_ceil s.known.width 64) first cell here is) (enough_none s));
      order = omega arith;
      before = next.none;
      within = omega (arith, next.is_cell);
      few = omega (arith, next.is_cell, cells);
      bound = omega (arith, c.cost_of-bytes.ensures.bound);
      most = rw alone at (one_cell_more (room_in s) 0 first 0 cost
          next.after (omega arith) (rw (c.cell_at.ensures.value, c.width-width.ensures.value, c.height-height.ensures)
          at c.cost_of-bytes.ensures.most));
    }

pub loop-index-preserved : goal.loop-index-preserved
loop-index-preserved c =
    let s = c.args.self.now in
    let l = c.loop-index in
    let index = c.in-Some-next_cell.index in
    let next = c.in-Some-next_cell.ensures in
    let cost = c.cost_of-bytes-in-Some-next_cell.result in
    let here : IsCell s.known.width s.known.height (div_ceil s.known.width 64) index
    c.cell_at-in-Some-next_cell.result =
    rw (c.width-width.ensures.value, c.height-height.ensures) at c.cell_at-in-Some-next_cell.ensures.cell in
    let cells = few_cells s.known.width s.known.height s.alike.columns s.alike.rows in
    record {
      enough = enough_more s l.end index l.bytes cost next.after next.none
          (λ cell is. c.cost_of-bytes-in-Some-next_cell.ensures.enough (div_ceil s.known.width 64) index cell here is)
          l.invariant.enough;
      order = omega (arith, next.after, l.invariant.order);
      before = l.invariant.before;
      within = omega (arith, next.is_cell);
      few = omega (arith, next.is_cell, cells);
      bound = omega (arith, next.after, c.cost_of-bytes-in-Some-next_cell.ensures.bound, l.invariant.bound);
      most = one_cell_more (room_in s) l.end index l.bytes cost next.after l.invariant.most
          (rw (c.cell_at-in-Some-next_cell.ensures.value, c.width-width.ensures.value, c.height-height.ensures)
          at c.cost_of-bytes-in-Some-next_cell.ensures.most);
    }

pub returns-clause-enough : goal.returns-clause-enough
returns-clause-enough c =
    let s = c.args.self.now in
    let l = c.loop-index in
    enough_all s l.end (div_ceil s.known.width 64 * div_ceil s.known.height 64) l.bytes l.invariant.within
    (rw c.in_default-next_cell.is at c.next_cell-in-loop-index.ensures) l.invariant.enough

pub returns-clause-limits : goal.returns-clause-limits
returns-clause-limits c = record {
  some = λ _. c.loop-index.invariant.order;
  within = c.loop-index.invariant.within;
  before = c.loop-index.invariant.before;
  after = rw c.in_default-next_cell.is at c.next_cell-in-loop-index.ensures;
}

pub returns-clause-most : goal.returns-clause-most
returns-clause-most c =
    let s = c.args.self.now in
    let l = c.loop-index in
    all_cells (room_in s) l.end (div_ceil s.known.width 64 * div_ceil s.known.height 64) l.bytes
    l.invariant.within l.invariant.most

pub returns-in_default-clause-enough : goal.returns-in_default-clause-enough
returns-in_default-clause-enough c =
    let s = c.args.self.now in
    enough_all s 0 (div_ceil s.known.width 64 * div_ceil s.known.height 64) 0 (omega arith)
    (rw c.in_default.is at c.next_cell.ensures) (enough_none s)
