use Rattle.rfb_picture.proofs.SpanLemmas.{within-passed, within-none}
use Rattle.std.proofs.Common.{◌/◌, arith}
use Rattle.rfb_picture.proofs.plane.Plane.pass_empty_rows.Goals as goal

pub invariant_of-self : goal.invariant_of-self
invariant_of-self c =
    let sound = c.self.invariant.sound in
    let none =
    rw (c.deref.ensures.value, c.deref-then-self-gt0.ensures.value, c.from.ensures) at c.next_used.ensures.none in
    let few = c.next_used.ensures.bounds.1 in
    record {
      sound = sound;
      low = c.self.invariant.low;
      within = within-passed c.self.inside.width c.self.inside.height c.self.inside.across
          c.self.inside.words.items.items c.self.inside.first c.self.inside.last
          c.next_used.result sound (search arith) none c.self.invariant.within;
    }

pub invariant_of-self-else-row-self : goal.invariant_of-self-else-row-self
invariant_of-self-else-row-self c =
    let sound = c.self.invariant.sound in
    let none = rw (
      c.deref.ensures.value,
      c.deref-then-self-gt0.ensures.value,
      c.from.ensures,
    ) at c.next_used.ensures.none in
    let few = c.next_used.ensures.bounds.1 in
    let passed = within-passed c.self.inside.width c.self.inside.height c.self.inside.across
    c.self.inside.words.items.items c.self.inside.first c.self.inside.last c.next_used.result
    sound (search arith) none c.self.invariant.within in
    record {
      sound = sound;
      low = omega arith;
      within = within-none c.self.inside.width c.self.inside.height c.self.inside.across
          c.self.inside.words.items.items (c.next_used.result / c.self.inside.across)
          c.self.inside.last c.self.inside.height 0 (omega arith) passed;
    }

pub overflow_cast-row : goal.overflow_cast-row
overflow_cast-row c = grind arith
