use Rattle.std.proofs.Common.{◌≡◌, arith, refl}
use Rattle.std.specs.Int.{w64, trailing_zeros}
use Rattle.rfb_picture.proofs.GatherLaws.{first_bit}
use Rattle.rfb_codec.proofs.RuleLemmas.{left_of_bit, next_taken, chosen_taken, here_taken, rows_taken, row_passed}
use Rattle.rfb_codec.proofs.RuleLemmas.{none_further}
use Rattle.rfb_codec.proofs.choice.cover.cover.Goals as goal

pub returns-then-len-limit-clause-over : goal.returns-then-len-limit-clause-over
returns-then-len-limit-clause-over g c =
    let left = c.loop-left.left in
    let first = first_bit left (omega arith) c.loop-left.invariant.fits in
    none_further c.args.width c.args.height (trailing_zeros w64 left) c.loop-y.y c.args.limit c.args.pixels.now
    c.args.background left c.loop-left.subs.items first.0 (omega arith)
    (omega (arith, c.if-len-limit.true, c.len.ensures.value)) first.1 c.loop-left.invariant.tells
    c.loop-left.invariant.chosen

pub bounds-pixels-y : goal.bounds-pixels-y
bounds-pixels-y g c =
    let left = c.loop-left.left in
    let first = first_bit left (omega arith) c.loop-left.invariant.fits in
    let column = (left_of_bit c.args.width c.args.pixels.now c.args.background c.loop-left.subs.items c.loop-y.y left
    (trailing_zeros w64 left) c.loop-left.invariant.tells first.0 first.1).0 in
    grind (arith, column)

pub take_from-rect-requires-clause-columns : goal.take_from-rect-requires-clause-columns
take_from-rect-requires-clause-columns g c =
    let left = c.loop-left.left in
    let first = first_bit left (omega arith) c.loop-left.invariant.fits in
    let here = left_of_bit c.args.width c.args.pixels.now c.args.background c.loop-left.subs.items c.loop-y.y left
    (trailing_zeros w64 left) c.loop-left.invariant.tells first.0 first.1 in
    (here.0, c.requires.columns)

pub take_from-rect-requires-clause-here : goal.take_from-rect-requires-clause-here
take_from-rect-requires-clause-here g c = (first_bit c.loop-left.left (omega arith) c.loop-left.invariant.fits).1

pub loop-left-preserved : goal.loop-left-preserved
loop-left-preserved g c =
    let left = c.loop-left.left in
    let x = trailing_zeros w64 left in
    let took = c.take_from-rect.ensures in
    let old = c.loop-left.invariant in
    let first = first_bit left (omega arith) c.loop-left.invariant.fits in
    let here = left_of_bit c.args.width c.args.pixels.now c.args.background c.loop-left.subs.items c.loop-y.y left
    x old.tells first.0 first.1 in
    let next = next_taken c.args.width c.args.height x c.loop-y.y c.args.pixels.now c.args.background left
    c.loop-left.subs.items c.requires.columns here.0 (omega arith) old.chosen old.tells _ refl first.1 first.2
    took.corner.0 took.corner.1 took.some.0 took.some.1 took.inside took.same took.free took.longest took.lowest in
    let full = c.if-len-limit.false in
    let len = c.push.ensures.len in
    record {
      chosen = rw c.push.ensures.items (chosen_taken c.args.width c.args.height x c.loop-y.y c.args.pixels.now
          c.args.background left c.loop-left.subs.items c.requires.columns here.0 (omega arith) old.chosen old.tells _
          next first.1 refl took.corner.0 took.corner.1 c.requires.whole);
      tells = rw c.push.ensures.items (here_taken c.args.width c.args.height x c.loop-y.y c.args.pixels.now
          c.args.background left c.take_from-rect.new.left c.loop-left.subs.items _ old.tells took.corner.0
          took.corner.1 took.some.1 took.first);
      tell = rw c.push.ensures.items (rows_taken c.args.width c.args.height x c.loop-y.y c.args.pixels.now
          c.args.background c.loop-left.rows c.take_from-rect.new.rows c.loop-left.subs.items _ old.tell took.corner.0
          took.corner.1 took.others);
      few = omega (arith, full, len);
      fits = omega (arith, took.less);
    }

pub loop-y-preserved : goal.loop-y-preserved
loop-y-preserved g c =
    let none : c.loop-left.left ≡ 0 = omega arith in
    record {
      chosen = row_passed c.args.width c.args.height c.loop-y.y c.args.pixels.now c.args.background
          c.loop-left.subs.items c.requires.columns c.loop-left.invariant.chosen
          (rw none at c.loop-left.invariant.tells);
      tell = c.loop-left.invariant.tell;
      few = c.loop-left.invariant.few;
    }
