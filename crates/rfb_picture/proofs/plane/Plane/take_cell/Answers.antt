use Rattle.std.proofs.Common.{◌≡◌, length, arith}
use Rattle.std.proofs.lemmas.Grind.{common_steps}
use Rattle.std.proofs.lemmas.List.{with_items_is}
use Rattle.rfb_picture.proofs.TakenPlaneLemmas.{plane-cell_taken}
use Rattle.rfb_picture.proofs.plane.Plane.take_cell.Goals as goal

pub returns-clause-value : goal.returns-clause-value
returns-clause-value c =
    let wide = rw (← c.self.view_is, ← c.other.view_is) at c.requires.width in
    let high = rw (← c.self.view_is, ← c.other.view_is) at c.requires.height in
    let len : length c.take_column.new.words ≡ c.self.inside.words.items.len = omega arith in
    rw (
      with_items_is c.self.inside.words.items c.take_column.new.words len,
      ← c.self.view_is,
      ← c.other.view_is,
    )
    (plane-cell_taken c.self.inside.width c.self.inside.height c.self.inside.across
    c.other.inside.width c.other.inside.height c.other.inside.across c.args.column c.args.row
    c.min-bottom.result c.self.inside.words.items.items c.take_column.new.words
    c.other.inside.words.items.items c.self.invariant.sound c.other.invariant.sound wide high
    (rw (c.from-top.ensures, c.from.ensures) at c.min-bottom.ensures)
    (rw (
      c.from-top.ensures,
      c.from-2.ensures,
      c.deref_mut.ensures.value,
      c.deref.ensures.value,
    ) at c.take_column.ensures))

pub take_column-requires-clause-others : goal.take_column-requires-clause-others
take_column-requires-clause-others c = grind arith

pub invariant_of-self : goal.invariant_of-self
invariant_of-self c = grind (arith, common_steps)
