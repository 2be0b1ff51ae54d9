use Rattle.std.proofs.Common.{◌≡◌, refl, arith}
use Rattle.rfb_picture.proofs.GatherLemmas.{first_bit}
use Rattle.rfb_picture.proofs.NotedLemmas.{clearing_more, clearing_ends, less_left}
use Rattle.rfb_picture.proofs.place_set.layers.Layers.clear_cell.Goals as goal

pub clear_word-requires-clause-row : goal.clear_word-requires-clause-row
clear_word-requires-clause-row c =
    let left = c.loop-left.left in
    let first = first_bit left (omega arith) (omega arith) in
    let low = c.loop-left.invariant.low _ first.0 first.1 in
    rw c.loop-left.invariant.high low

pub loop-left-smaller : goal.loop-left-smaller
loop-left-smaller c =
    let left = c.loop-left.left in
    let first = first_bit left (omega arith) (omega arith) in
    less_left left _ first.0 first.1

pub loop-left-preserved : goal.loop-left-preserved
loop-left-preserved c =
    let left = c.loop-left.left in
    let first = first_bit left (omega arith) (omega arith) in
    rw c.clear_word.ensures.value
    (clearing_more c.args.column c.args.row left _ c.args.self.now c.loop-left.self first.0 c.loop-left.invariant)

pub returns : goal.returns
returns c =
    let none : c.loop-left.left ≡ 0 = omega arith in
    let inv = rw none at c.loop-left.invariant in
    let places = clearing_ends c.args.column c.args.row c.args.self.now c.loop-left.self c.requires.sound inv in
    rw (c.clear_word-2.ensures.value, places, inv.same_full, inv.same_used, inv.same_noted) refl
