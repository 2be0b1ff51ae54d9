use Rattle.std.proofs.Common.{◌≡◌, arith}
use Rattle.rfb_picture.proofs.WordLemmas.{one_row_more}
use Rattle.rfb_picture.proofs.words.add_column.Goals as goal

pub loop-row-preserved : goal.loop-row-preserved
loop-row-preserved c =
    one_row_more c.loop-row.words c.args.words.now c.args.across c.args.column c.args.top c.loop-row.row c.args.bottom
    c.args.mask c.requires.column c.loop-row-test.true (omega arith) c.loop-row.auto.row c.loop-row.invariant

pub returns : goal.returns
returns c = let last : c.args.bottom ≡ c.loop-row.row = omega arith in rw last c.loop-row.invariant
