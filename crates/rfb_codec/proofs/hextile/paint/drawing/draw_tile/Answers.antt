use Rattle.std.proofs.lemmas.List.{take_rest}
use Rattle.rfb_codec.proofs.TileReadLemmas.{colored_inside, list_left, plain_inside}
use Rattle.rfb_codec.proofs.PaintHextileLemmas.{drawn_plain, drawn_colored}
use Rattle.rfb_codec.proofs.hextile.paint.drawing.draw_tile.Goals as goal

pub draw_subs-requires-clause-inside : goal.draw_subs-requires-clause-inside
draw_subs-requires-clause-inside c =
    rw (take_rest c.args.bytes.now c.args.read.list) (plain_inside _ _ _ _ _ _ (list_left c.args.read.list _ _
    c.args.bytes.now (rw c.in-Plain.is at c.requires.lies.end) c.requires.lies.within)
    (rw c.in-Plain.is at c.requires.inside))

pub draw_subs-requires-in-Colored-clause-inside : goal.draw_subs-requires-in-Colored-clause-inside
draw_subs-requires-in-Colored-clause-inside c =
    rw (take_rest c.args.bytes.now c.args.read.list) (colored_inside _ _ _ _ _ _ (list_left c.args.read.list _ _
    c.args.bytes.now (rw c.in-Colored.is at c.requires.lies.end) c.requires.lies.within)
    (rw c.in-Colored.is at c.requires.inside))

pub returns-in-Plain-clause-value : goal.returns-in-Plain-clause-value
returns-in-Plain-clause-value c = λ before sees.
    drawn_plain c.args.format c.args.rect before c.args.seen c.args.read.layout c.args.read.list
    c.args.read.count c.args.bytes.now _ c.in-Plain.background c.in-Plain.foreground c.or_zero-background.result
    c.or_zero-foreground.result c.draw_subs.new.picture c.args.picture.now
    c.in-Plain.is c.or_zero-background.ensures c.or_zero-foreground.ensures
    (take_rest c.args.bytes.now c.args.read.list) c.draw_subs.ensures.value sees

pub returns-in-Colored-clause-value : goal.returns-in-Colored-clause-value
returns-in-Colored-clause-value c = λ before sees.
    drawn_colored c.args.format c.args.rect before c.args.seen c.args.read.layout c.args.read.list c.args.read.count
    c.args.bytes.now _ c.in-Colored.background c.or_zero-background.result c.or_zero-foreground.result
    c.draw_subs-in-Colored.new.picture c.args.picture.now
    c.in-Colored.is c.or_zero-background.ensures (take_rest c.args.bytes.now c.args.read.list)
    c.draw_subs-in-Colored.ensures.value sees
