use Rattle.std.proofs.Common.{◌+◌, ◌*◌, slice_index_or, arith, inl, inr}
use Rattle.std.specs.Int.Bits.{and_lt}
use Rattle.std.proofs.lemmas.Bool.{cases_lt}
use Rattle.rfb_picture.proofs.TakenWordLemmas.{next_here, none_here, none_in_word}
use Rattle.rfb_picture.proofs.words.next_place.Goals.{then-word-ne0+else-bits-ne0, else-word-ne0}
use Rattle.rfb_picture.proofs.words.next_place.Goals as goal

pub returns-then-bits-ne0 : goal.returns-then-bits-ne0
returns-then-bits-ne0 c =
    let column = c.loop-column.column in
    let index = c.args.row * c.args.across + column in
    let mask = c.columns_between.result in
    next_here c.args.words.now c.args.across c.args.row c.args.from c.args.to column mask
    c.columns_between.ensures c.loop-column.invariant c.if-bits-ne0.true
    (and_lt 64 (slice_index_or c.args.words.now index 0) mask
    (omega (arith, c.type_inv.words index)) (omega arith))

pub loop-column-preserved : goal.loop-column-preserved
loop-column-preserved c =
    let column = c.loop-column.column in
    λ x p l before.
    elim (cases_lt x (column * 64)) [
      | inl left ↦ c.loop-column.invariant x p l left
      | inr right ↦ elim c.if-word-ne0.branch [
        | then-word-ne0+else-bits-ne0 w ↦
            none_here c.args.words.now c.args.across c.args.row c.args.from c.args.to column
            w.columns_between.result x w.columns_between.ensures w.if-bits-ne0.false p l right
            (omega arith)
        | else-word-ne0 w ↦
            none_in_word c.args.words.now c.args.across c.args.row column x w.if-word-ne0.false
            right (omega arith)
      ]
    ]
