use Rattle.std.proofs.Common.{◌≡◌, replicate, length, arith}
use Rattle.std.proofs.lemmas.List.{same_lists, get_or-replicate, length-replicate}
use Rattle.std.proofs.lemmas.Bool.Decides.{nat_tests}
use Rattle.rfb_picture.proofs.LoanLemmas.{run_in_row}
use Rattle.rfb_picture.proofs.picture.tests.fill_row.Goals as goal

pub returns-clause-value : goal.returns-clause-value
returns-clause-value g c =
    let len : length c.fill_places.new.places ≡ c.args.w = omega arith in
    let filled : c.fill_places.new.places ≡ replicate c.args.w c.args.value =
    same_lists c.fill_places.new.places (replicate c.args.w c.args.value) (rw length-replicate len)
    (λ k d l. rw (get_or-replicate c.args.w k c.args.value d (omega arith))
    (let written = rw c.from.ensures at (c.fill_places.ensures k d) in
    grind (arith, nat_tests, written))) in
    rw filled
    (run_in_row c.args.x c.args.y (replicate c.args.w c.args.value) c.args.picture.now
    c.row_mut-row.ensures.whole (rw length-replicate c.requires.columns))
