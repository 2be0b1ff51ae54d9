use Rattle.std.proofs.Common.{false, ◌%◌, ap}
use Rattle.rfb_picture.proofs.PlaneLemmas.{at-plane, place_word_below}
use Rattle.std.proofs.lemmas.Nat.Bits.{shr_and_one}
use Rattle.rfb_picture.specs.Places.{has_bit}
use Rattle.rfb_picture.proofs.plane.Plane.has.Goals as goal

pub word_at-word-requires : goal.word_at-word-requires
word_at-word-requires c =
    rw c.deref.ensures.value (place_word_below _ _ _ _ c.args.x c.args.y c.self.invariant.sound
    (rw (← c.self.view_is) at c.requires.column) (rw (← c.self.view_is) at c.requires.row))

pub returns : goal.returns
returns c =
    let column = rw (← c.self.view_is) at c.requires.column in
    let row = rw (← c.self.view_is) at c.requires.row in
    let read = rw c.deref.ensures.value at c.word_at-word.ensures in
    rw (
      ← c.self.view_is,
      at-plane c.self.inside.width c.self.inside.height c.self.inside.across
          c.self.inside.words.items.items c.args.x c.args.y false column row,
      shr_and_one,
    )
    (ap (λ n. has_bit n (c.args.x % 64)) read)
