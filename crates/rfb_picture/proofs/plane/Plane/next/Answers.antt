use Rattle.rfb_picture.proofs.TakenPlaneLemmas.{next-plane, none-plane}
use Rattle.rfb_picture.proofs.plane.Plane.next.Goals as goal

pub returns-in-None : goal.returns-in-None
returns-in-None c =
    let none = rw (c.deref.ensures.value, c.from-row.ensures, c.from-to.ensures, c.from.ensures) at c.in-None.ensures in
    rw (← c.self.view_is) (none-plane _ _ _ _ c.args.y c.args.x (rw (← c.self.view_is) at c.requires) none)

pub returns-in-Some : goal.returns-in-Some
returns-in-Some c =
    let next = rw (c.deref.ensures.value, c.from-row.ensures, c.from-to.ensures, c.from.ensures) at c.in-Some.ensures in
    rw (← c.self.view_is) (next-plane _ _ _ _ c.args.y c.args.x _ (rw (← c.self.view_is) at c.requires) next)
