use Rattle.std.proofs.Common.{refl, arith, rules}
use Rattle.std.proofs.lemmas.Grind.{common_steps}
use Rattle.std.proofs.lemmas.Bool.{false≢true}
use Rattle.rfb_picture.specs.layout.PlaceSet.{in_set}
use Rattle.rfb_picture.proofs.CoverLemmas.{column_inside, all_columns_more, all_columns_done}
use Rattle.rfb_picture.proofs.place_set.layers.Layers.has_all.Goals as goal

pub returns-then-not-has_all_in_column : goal.returns-then-not-has_all_in_column
returns-then-not-has_all_in_column c =
    let has = rw c.in_column.ensures at c.has_all_in_column.ensures in (
      λ none. absurd (false≢true none),
      λ all.
          let yes = has.1
          (λ x y inside.
          all x y (column_inside c.args.zone c.loop-column.column x y
          c.loop-column.auto.column inside)) in
          rw c.if-not-has_all_in_column.true at yes,
    )

pub loop-column-preserved : goal.loop-column-preserved
loop-column-preserved c =
    let has = rw c.in_column.ensures at c.has_all_in_column.ensures in
    all_columns_more (in_set c.args.self.now) c.args.zone c.loop-column.column
    c.loop-column.auto.column c.loop-column.invariant (has.0 (search rules))

pub returns : goal.returns
returns c = (
  λ yes. all_columns_done (in_set c.args.self.now) c.args.zone c.loop-column.column
      (omega arith) c.loop-column.invariant,
  λ all. refl,
)

pub returns-then-zone-eq0 : goal.returns-then-zone-eq0
returns-then-zone-eq0 c = grind (arith, common_steps)
