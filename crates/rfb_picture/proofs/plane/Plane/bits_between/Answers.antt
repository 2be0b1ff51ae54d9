use Rattle.std.proofs.Common.{arith}
use Rattle.rfb_picture.proofs.PlaneLemmas.{place_word_below}
use Rattle.rfb_picture.proofs.OneWordLemmas.{bits_between-plane}
use Rattle.rfb_picture.proofs.plane.Plane.bits_between.Goals as goal

pub word_at-word-requires : goal.word_at-word-requires
word_at-word-requires c =
    let columns = rw (← c.self.view_is) at c.requires.columns in
    let some = c.requires.some in
    rw c.deref.ensures.value (place_word_below _ _ _ _ c.args.from c.args.y c.self.invariant.sound
    (omega (arith, columns, some)) (rw (← c.self.view_is) at c.requires.row))

pub returns : goal.returns
returns c = λ i l.
    let row = rw (← c.self.view_is) at c.requires.row in
    let columns = rw (← c.self.view_is) at c.requires.columns in
    let read = rw c.deref.ensures.value at c.word_at-word.ensures in
    let mask = rw (c.from.ensures, c.from-2.ensures, c.from-3.ensures) at (c.columns_between.ensures i l) in
    rw (read, ← c.self.view_is)
    (bits_between-plane c.self.inside.width c.self.inside.height c.self.inside.across
    c.self.inside.words.items.items c.args.y c.args.from c.args.to i c.columns_between.result row columns l mask)
