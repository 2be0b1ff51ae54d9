use Rattle.std.proofs.Common.{◌≤◌, ◌+◌, ◌*◌, arith, refl, inl}
use Rattle.std.proofs.Math.Nat.{mul-le-mul_right}
use Rattle.rfb_picture.proofs.NextCellLemmas.{row_none, rows_none, next_open_is}
use Rattle.rfb_picture.proofs.place_set.layers.Layers.next_open.Goals as goal

pub returns-in-Some : goal.returns-in-Some
returns-in-Some c =
    let l = c.args.self.now in
    let so_far = rw (c.from-across.ensures, c.width.ensures.value) at c.loop-row.invariant in
    let low = rw (c.from.ensures, c.height.ensures) at c.loop-row-test.true in
    rw (c.from-in-Some.ensures, c.from-across.ensures, c.width.ensures.value)
    (next_open_is l c.args.from c.loop-row.row c.loop-row.start c.in-Some.column so_far.begins
    so_far.reached low c.in-Some.ensures so_far.none)

pub loop-row-preserved : goal.loop-row-preserved
loop-row-preserved c =
    let l = c.args.self.now in
    let so_far = rw (c.from-across.ensures, c.width.ensures.value) at c.loop-row.invariant in
    let none = row_none l c.args.from c.loop-row.row c.loop-row.start l.full.width so_far.begins
    (omega arith) c.in-None.ensures so_far.none in
    let within = so_far.within in
    let reached = so_far.reached in
    let next = c.next_row_of_either.result in
    let far : (c.loop-row.row + 1) * l.full.width ≤ next * l.full.width =
    mul-le-mul_right l.full.width c.next_row_of_either.ensures.bounds.0 in
    rw (c.from-row.ensures, c.from-across.ensures, c.width.ensures.value)
    (record {
      within = omega arith;
      reached = omega (arith, within, reached, far);
      begins = inl refl;
      none = rows_none l c.args.from c.loop-row.row next none c.next_row_of_either.ensures.none;
    })

pub returns : goal.returns
returns c = grind arith
