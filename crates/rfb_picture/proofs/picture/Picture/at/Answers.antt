use Rattle.std.proofs.Common.{◌∙◌, sym, arith}
use Rattle.std.proofs.lemmas.List.{get_or_default}
use Rattle.rfb_picture.specs.layout.Lines.{place_in}
use Rattle.rfb_picture.proofs.LineLemmas.{line_fits}
use Rattle.rfb_picture.proofs.ShownLemmas.{at-shown}
use Rattle.rfb_picture.proofs.picture.Picture.at.Goals as goal

pub returns : goal.returns
returns g c = λ d.
    let column = rw (← c.self.view_is) at c.requires.column in
    let row = rw (← c.self.view_is) at c.requires.row in
    let fits = line_fits
    c.args.x c.args.y 1 c.self.invariant.kept row (omega (arith, column)) in
    let is = rw (c.place_of.ensures, c.deref.ensures.value) at (c.index.ensures) in
    rw (← c.self.view_is)
    (is ∙ get_or_default c.self.inside.places.items
    (place_in c.self.inside.lines.items c.self.inside.width c.args.x c.args.y)
    _ d (omega (arith, fits))
    ∙ sym (at-shown c.self.inside.width c.self.inside.height c.self.inside.lines.items c.self.inside.places.items
    c.args.x c.args.y d c.self.invariant.kept column row))

pub index-requires : goal.index-requires
index-requires g c =
    let column = rw (← c.self.view_is) at c.requires.column in
    let row = rw (← c.self.view_is) at c.requires.row in
    let fits = line_fits
    c.args.x c.args.y 1 c.self.invariant.kept row (omega (arith, column)) in
    rw (c.place_of.ensures, c.deref.ensures.value) (omega (arith, fits, c.self.inside.places.ok.0))
