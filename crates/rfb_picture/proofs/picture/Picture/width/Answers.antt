use Rattle.rfb_picture.proofs.ShownLemmas.{whole-shown}
use Rattle.rfb_picture.proofs.picture.Picture.width.Goals as goal

pub returns-clause-whole : goal.returns-clause-whole
returns-clause-whole g c =
    rw (← c.self.view_is)
    (whole-shown c.self.inside.width c.self.inside.height c.self.inside.lines.items c.self.inside.places.items
    c.self.invariant.kept)
