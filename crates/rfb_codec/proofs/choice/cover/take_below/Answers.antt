use Rattle.std.proofs.Common.{◌≡◌, ◌+◌, ◌-◌, ◌*◌, ◌<◌, ◌≤◌, arith, inl, inr}
use Rattle.std.proofs.lemmas.Bool.{cases_lt}
use Rattle.rfb_codec.proofs.CoverLemmas.{row_taken}
use Rattle.rfb_codec.proofs.choice.cover.take_below.Goals as goal

pub loop-j-preserved : goal.loop-j-preserved
loop-j-preserved c = record {
  same = λ i j from before under above.
      elim (cases_lt j c.loop-j.j) [
        | inl earlier ↦ c.loop-j.invariant.same i j from before under earlier
        | inr here ↦
            let level : j ≡ c.loop-j.j = omega (arith, here, above) in
            let place = c.loop-j.j * c.args.width + i in
            rw level (c.if-not-has_run.ensures.has place (omega (arith, from)) (omega (arith, before)))
      ];
  others = row_taken c.args.x c.args.right (c.args.y + 1) c.loop-j.j c.run_bits-run.result c.args.rows.now c.loop-j.rows
      (omega arith) (omega arith) (omega arith) c.run_bits-run.ensures c.loop-j.invariant.others;
}

pub returns-then-not-has_run-clause-lowest : goal.returns-then-not-has_run-clause-lowest
returns-then-not-has_run-clause-lowest c below agrees =
    let other = c.if-not-has_run.ensures.other in
    let start = c.loop-j.j * c.args.width in
    let column = other.0 - start in
    let left : c.args.x ≤ column = omega (arith, other.1) in
    let before : column < c.args.right = omega (arith, other.1, other.2) in
    let place : start + column ≡ other.0 = omega (arith, other.1) in
    other.3 (rw place at (agrees column left before))
