use Rattle.std.proofs.Common.{◌+◌, ◌*◌, slice_index_or, arith, inl, inr}
use Rattle.std.proofs.lemmas.Bool.{cases_eq, false≢true}
use Rattle.rfb_picture.proofs.TakenWordLemmas.{covered, covers}
use Rattle.rfb_picture.proofs.words.has_strip.Goals as goal

pub returns-then-words-row : goal.returns-then-words-row
returns-then-words-row c =
    let index = c.loop-row.row * c.args.strip.across + c.args.strip.column in
    let word = slice_index_or c.args.words.now index 0 in (
      λ none. absurd (false≢true none),
      λ all.
          absurd (c.if-words-row.true
          (covers word c.args.strip.mask (omega (arith, c.type_inv.words index))
          (omega arith)
          (λ i l set. all c.loop-row.row i (omega arith) (omega arith) l set))),
    )

pub loop-row-preserved : goal.loop-row-preserved
loop-row-preserved c =
    λ y i from to l set.
    let word = slice_index_or c.args.words.now (c.loop-row.row * c.args.strip.across + c.args.strip.column) 0 in
    elim (cases_eq y c.loop-row.row) [
      | inl same ↦ rw same (covered word c.args.strip.mask i c.if-words-row.false set)
      | inr other ↦ c.loop-row.invariant y i from (omega arith) l set
    ]
