use Rattle.std.proofs.Common.{arith}
use Rattle.std.proofs.lemmas.Grind.{common_steps}
use Rattle.rfb_picture.proofs.SpanLemmas.{rows_clear_within, rows_clear_past}
use Rattle.rfb_picture.proofs.plane.Plane.next_row_of_either.Goals as goal

pub returns-then-y-last-clause-none : goal.returns-then-y-last-clause-none
returns-then-y-last-clause-none c =
    let wide = rw (← c.self.view_is, ← c.other.view_is) at c.requires.width in
    let tall = rw (← c.self.view_is, ← c.other.view_is) at c.requires.height in
    rw (← c.self.view_is, ← c.other.view_is)
    (rows_clear_past c.self.inside.width c.self.inside.height c.self.inside.across
    c.other.inside.width c.other.inside.height c.other.inside.across
    c.self.inside.words.items.items c.other.inside.words.items.items c.self.inside.first
    c.self.inside.last c.other.inside.first c.other.inside.last c.args.y c.self.invariant
    c.other.invariant wide tall (omega arith) (omega arith))

pub returns-clause-none : goal.returns-clause-none
returns-clause-none c =
    let wide = rw (← c.self.view_is, ← c.other.view_is) at c.requires.width in
    let tall = rw (← c.self.view_is, ← c.other.view_is) at c.requires.height in
    let low = c.self.invariant.low in
    let low_too = c.other.invariant.low in
    let none = rw (
      c.deref.ensures.value,
      c.deref-2.ensures.value,
      c.from.ensures,
    ) at c.next_used.ensures.none in
    rw (← c.self.view_is, ← c.other.view_is)
    (rows_clear_within c.self.inside.width c.self.inside.height c.self.inside.across
    c.other.inside.width c.other.inside.height c.other.inside.across
    c.self.inside.words.items.items c.other.inside.words.items.items c.self.inside.first
    c.self.inside.last c.other.inside.first c.other.inside.last c.args.y c.min-first.result
    c.next_used.result c.self.invariant c.other.invariant wide tall (search arith) (omega arith)
    (λ j q l. (omega arith, omega arith)) none)

pub next_used-requires-clause-within : goal.next_used-requires-clause-within
next_used-requires-clause-within c = grind (arith, common_steps)

pub overflow_cast-result : goal.overflow_cast-result
overflow_cast-result c = grind (arith, common_steps)

pub returns-clause-bounds : goal.returns-clause-bounds
returns-clause-bounds c = grind (arith, common_steps)
