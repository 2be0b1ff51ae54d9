use Rattle.std.proofs.Common.{◌*◌, arith, rules, inl, inr}
use Rattle.std.proofs.lemmas.Bool.{cases_lt, false≢true}
use Rattle.rfb_picture.proofs.TakenWordLemmas.{masked_of_places, place_of_masked}
use Rattle.rfb_picture.proofs.words.has_places.Goals as goal

pub returns-then-not-has_strip : goal.returns-then-not-has_strip
returns-then-not-has_strip c =
    let mask = rw (c.from-from.ensures, c.from.ensures) at c.columns_between-mask.ensures in
    let has = rw (c.from-top.ensures, c.from-2.ensures) at c.has_strip.ensures in (
      λ none. absurd (false≢true none),
      λ all. let yes =
          has.1 (masked_of_places c.args.words.now c.args.across c.loop-column.column
          c.columns_between-mask.result c.args.rect mask all) in
          rw c.if-not-has_strip.true at yes,
    )

pub loop-column-preserved : goal.loop-column-preserved
loop-column-preserved c =
    let mask = rw (c.from-from.ensures, c.from.ensures) at c.columns_between-mask.ensures in
    let has = rw (c.from-top.ensures, c.from-2.ensures) at c.has_strip.ensures in
    λ x y l inside.
    elim (cases_lt x (c.loop-column.column * 64)) [
      | inl left ↦ c.loop-column.invariant x y left inside
      | inr right ↦
          place_of_masked c.args.words.now c.args.across c.loop-column.column
          c.columns_between-mask.result c.args.rect x y mask (has.0 (search rules)) right
          (omega arith) inside
    ]

pub returns : goal.returns
returns c = grind arith
