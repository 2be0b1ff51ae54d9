use Rattle.std.proofs.Common.{◌≡◌, ◌+◌, ◌-◌, arith}
use Rattle.rfb_picture.proofs.ShownLemmas.{row_shown}
use Rattle.rfb_picture.proofs.picture.Picture.row.Goals as goal

pub returns-clause-value : goal.returns-clause-value
returns-clause-value g c =
    let columns = rw (← c.self.view_is) at c.requires.columns in
    let row = rw (← c.self.view_is) at c.requires.row in
    let count : c.place_of-start.result + c.from.result - c.place_of-start.result ≡ c.args.w =
    omega (arith, c.from.ensures) in
    rw (count, ← c.self.view_is, c.place_of-start.ensures, c.deref.ensures.value, c.deref-2.ensures.value)
    (row_shown c.self.inside.width c.self.inside.height c.self.inside.lines.items c.self.inside.places.items
    c.args.x c.args.y c.args.w c.self.invariant.kept columns row)
