use Rattle.rfb_picture.proofs.PlaneLemmas.{whole-plane}
use Rattle.rfb_picture.proofs.plane.Plane.width.Goals as goal

pub returns-clause-whole : goal.returns-clause-whole
returns-clause-whole c =
    rw (← c.self.view_is)
    (whole-plane c.self.inside.width c.self.inside.height c.self.inside.across
    c.self.inside.words.items.items)
