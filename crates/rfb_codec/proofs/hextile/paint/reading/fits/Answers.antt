use Rattle.std.proofs.Common.{◌∙◌, List, ℕ, ap, sym, drop}
use Rattle.std.proofs.lemmas.List.{take_rest}
use Rattle.rfb_codec.specs.Tile.{are_inside}
use Rattle.rfb_codec.specs.decoder.TileRead.{places_from}
use Rattle.rfb_codec.proofs.PaintTileLemmas.{places_plain, places_colored}
use Rattle.rfb_codec.proofs.hextile.paint.reading.fits.Goals as goal

pub returns-in-Plain : goal.returns-in-Plain
returns-in-Plain c =
    let read = c.args.read in
    let rest = drop read.list c.args.bytes.now in
    let fit = are_inside c.args.width c.args.height in
    rw c.in-Plain.is (c.are_places_inside.ensures ∙ ap (λ (ys : List ℕ). fit (places_from 0 read.count ys))
    (take_rest c.args.bytes.now read.list) ∙ ap fit (sym (places_plain read.count rest)))

pub returns-in-Colored : goal.returns-in-Colored
returns-in-Colored c =
    let read = c.args.read in
    let rest = drop read.list c.args.bytes.now in
    let fit = are_inside c.args.width c.args.height in
    rw c.in-Colored.is (c.are_places_inside-in-Colored.ensures
    ∙ ap (λ (ys : List ℕ). fit (places_from c.size.result read.count ys)) (take_rest c.args.bytes.now read.list)
    ∙ ap (λ (n : ℕ). fit (places_from n read.count rest)) c.size.ensures.value
    ∙ ap fit (sym (places_colored c.args.format read.count rest)))
