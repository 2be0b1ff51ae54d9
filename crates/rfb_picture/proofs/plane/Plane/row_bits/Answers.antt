use Rattle.rfb_picture.proofs.PlaneLemmas.{place_word_below}
use Rattle.rfb_picture.proofs.TakenPlaneLemmas.{row_bits-plane}
use Rattle.rfb_picture.proofs.plane.Plane.row_bits.Goals as goal

pub word_at-word-requires : goal.word_at-word-requires
word_at-word-requires c =
    rw c.deref.ensures.value (place_word_below _ _ _ _ c.args.x c.args.y c.self.invariant.sound
    (rw (← c.self.view_is) at c.requires.column) (rw (← c.self.view_is) at c.requires.row))

pub returns : goal.returns
returns c = λ i l.
    let row = rw (← c.self.view_is) at c.requires.row in
    let read = rw c.deref.ensures.value at c.word_at-word.ensures in
    let mask = rw (c.from-from.ensures, c.from.ensures) at (c.columns_between.ensures i l) in
    rw (read, ← c.self.view_is)
    (row_bits-plane c.self.inside.width c.self.inside.height c.self.inside.across
    c.self.inside.words.items.items c.args.x c.args.y i c.columns_between.result
    c.requires.start row l mask)
