use Rattle.std.proofs.Common.{◌+◌, arith}
use Rattle.rfb_picture.proofs.TakenRowLemmas.{rows_more, rows_passed, none_lost}
use Rattle.rfb_picture.proofs.place_set.layers.Layers.take_parts.Goals as goal

pub loop-row-init : goal.loop-row-init
loop-row-init c =
    let old = c.args.self.now in
    let next = c.next_row_of_either-row in
    record {
      lost = rows_passed 0 next.result c.args.other.now old old c.requires.sound_other
          c.requires.alike next.ensures.bounds.0 next.ensures.none (none_lost c.args.other.now old c.requires.sound);
      within = omega (arith, next.ensures.bounds.1, c.height-rows.ensures);
    }

pub loop-row-preserved : goal.loop-row-preserved
loop-row-preserved c =
    let old = c.args.self.now in
    let row = c.loop-row.row in
    let next = c.next_row_of_either-row-in-loop-row in
    let taken = rows_more row c.args.other.now old c.loop-row.self c.take_row.new.self
    c.loop-row.invariant.lost c.take_row.ensures in
    record {
      lost = rows_passed (row + 1) next.result c.args.other.now old c.take_row.new.self
          c.requires.sound_other c.requires.alike next.ensures.bounds.0 next.ensures.none taken;
      within = omega (arith, next.ensures.bounds.1, c.height-rows.ensures);
    }

pub returns : goal.returns
returns c = grind arith
