use Rattle.rfb_picture.proofs.BoxLemmas.{word_none, word_some}
use Rattle.rfb_picture.proofs.edges.edges_in.Goals as goal

pub returns-in-None : goal.returns-in-None
returns-in-None c =
    λ x y inside.
    let mask = rw (c.from-from.ensures, c.from-2.ensures) at c.columns_between-mask.ensures in
    let none = rw (c.from-from.ensures, c.from-top.ensures, c.from.ensures) at c.in-None.ensures in
    word_none c.args.words.now c.args.across c.columns_between-mask.result c.args.zone x y mask
    c.requires.word none inside

pub returns-in-Some : goal.returns-in-Some
returns-in-Some c =
    let mask = rw (c.from-from.ensures, c.from-2.ensures) at c.columns_between-mask.ensures in
    let some = rw (c.from-from.ensures, c.from-top.ensures, c.from.ensures) at c.in-Some.ensures in
    rw c.from-from.ensures
    (word_some c.args.words.now c.args.across c.columns_between-mask.result c.args.zone
    c.in-Some.found mask c.requires.word some)
