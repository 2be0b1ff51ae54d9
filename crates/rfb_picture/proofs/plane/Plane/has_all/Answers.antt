use Rattle.rfb_picture.proofs.TakenPlaneLemmas.{all-plane, all-words}
use Rattle.rfb_picture.proofs.plane.Plane.has_all.Goals as goal

pub returns : goal.returns
returns c =
    let room = rw (← c.self.view_is) at c.requires in
    let has = rw c.deref.ensures.value at c.has_places.ensures in
    rw (← c.self.view_is) (
      λ yes. all-plane _ _ _ c.self.inside.words.items.items c.args.rect room (has.0 yes),
      λ all. has.1 (all-words _ _ _ c.self.inside.words.items.items c.args.rect room all),
    )
