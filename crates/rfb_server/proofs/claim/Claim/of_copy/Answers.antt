use Rattle.std.proofs.Common.{◌+◌, inl, inr, arith}
use Rattle.std.proofs.lemmas.Bool.{cases_lt}
use Rattle.rfb_picture.specs.Box.{is_in}
use Rattle.rfb_server.proofs.ClaimLemmas.{clear_band, boxed_band}
use Rattle.rfb_server.proofs.claim.Claim.of_copy.Goals.{in-Some, in_default}
use Rattle.rfb_server.proofs.claim.Claim.of_copy.Goals as goal

pub loop-row-preserved : goal.loop-row-preserved
loop-row-preserved c =
    let copy = c.args.copy in
    let row = c.loop-row.row in
    let h = c.min-h.result in
    record {
      within = omega arith;
      unmarked = λ x y inside below fresh.
          elim c.match-bounds_in.branch [
            | in-Some w ↦
                let both = w.add.ensures y (rw (← w.stale-is) fresh) in
                elim (cases_lt y (copy.to.y + row)) [
                  | inl above ↦ c.loop-row.invariant.unmarked x y inside above both.0
                  | inr here ↦ boxed_band (is_in c.args.marks.now) copy row h x y inside
                      (omega (arith, here)) below w.in-Some.marked
                      (rw c.new-band.ensures at w.in-Some.ensures) both.1
                ]
            | in_default w ↦ elim (cases_lt y (copy.to.y + row)) [
              | inl above ↦ c.loop-row.invariant.unmarked x y inside above (rw (← w.stale-is) fresh)
              | inr here ↦ clear_band (is_in c.args.marks.now) copy row h x y inside (omega (arith, here)) below
                  (rw (w.in_default.is, c.new-band.ensures) at c.bounds_in.ensures)
            ]
          ];
    }
