use Rattle.std.proofs.Common.{◌+◌, ◌-◌, ◌<◌, ◌≤◌, arith}
use Rattle.rfb_picture.proofs.TurnLemmas.{down_turned, length_mid, up_turned}
use Rattle.rfb_picture.proofs.picture.lines.turn.Goals as goal

pub returns-then-rows-clause-turned : goal.returns-then-rows-clause-turned
returns-then-rows-clause-turned c =
    let rows = c.args.rows in
    let above : rows.to ≤ rows.from = omega (arith, c.if-rows.true) in
    let long = length_mid c.args.lines.now rows.to (rows.from + rows.count - rows.to)
    (omega (arith, above, c.requires.source)) in
    rw (c.from.ensures, c.from-then-rows.ensures, c.from-then-rows-2.ensures)
    (up_turned rows c.args.lines.now c.rotate_left.new.self above (omega (arith, c.requires.near.1))
    c.requires.source
    (rw (c.from.ensures, c.from-then-rows.ensures, c.from-then-rows-2.ensures, long) at c.rotate_left.ensures.len)
    (rw (
      c.from.ensures,
      c.from-then-rows.ensures,
      c.from-then-rows-2.ensures,
      c.from-then-rows-3.ensures,
      long,
    ) at c.rotate_left.ensures.by_index))

pub returns-clause-turned : goal.returns-clause-turned
returns-clause-turned c =
    let rows = c.args.rows in
    let below : rows.from < rows.to = omega (arith, c.if-rows.false) in
    let long = length_mid c.args.lines.now rows.from (rows.to + rows.count - rows.from)
    (omega (arith, below, c.requires.target)) in
    rw (c.from-2.ensures, c.from-3.ensures, c.from-4.ensures)
    (down_turned rows c.args.lines.now c.rotate_left-2.new.self below (omega (arith, c.requires.near.0))
    c.requires.target
    (rw (c.from-2.ensures, c.from-3.ensures, c.from-4.ensures, long) at c.rotate_left-2.ensures.len)
    (rw (
      c.from-2.ensures,
      c.from-3.ensures,
      c.from-4.ensures,
      c.from-5.ensures,
      long,
    ) at c.rotate_left-2.ensures.by_index))
