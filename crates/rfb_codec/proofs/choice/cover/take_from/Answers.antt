use Rattle.std.proofs.Common.{◌≡◌, ◌+◌, ◌-◌, arith}
use Rattle.rfb_codec.proofs.CoverLemmas.{without_run, less_without}
use Rattle.rfb_codec.proofs.choice.cover.take_from.Goals as goal

pub returns-clause-lowest : goal.returns-clause-lowest
returns-clause-lowest c =
    let right = c.run_end-right.result in
    let lower = c.take_below-lower.result in
    let wide : c.args.x + (right - c.args.x) ≡ right = omega arith in
    let high : c.args.y + (lower - c.args.y) ≡ lower = omega arith in
    rw (wide, high) c.take_below-lower.ensures.lowest

pub returns-clause-first : goal.returns-clause-first
returns-clause-first c =
    let right = c.run_end-right.result in
    let wide : c.args.x + (right - c.args.x) ≡ right = omega arith in
    rw wide (without_run c.args.left.now c.run_bits.result c.args.x right (omega arith) c.run_bits.ensures)

pub returns-clause-less : goal.returns-clause-less
returns-clause-less c =
    let right = c.run_end-right.result in
    less_without c.args.left.now c.run_bits.result c.args.x right (omega arith) (omega arith) (omega arith)
    c.requires.here c.run_bits.ensures
