use Rattle.rfb_picture.proofs.CoverLemmas.{all-layered, all-in_set}
use Rattle.rfb_picture.proofs.place_set.PlaceSet.has_all.Goals as goal

pub returns : goal.returns
returns c =
    let room = rw (← c.self.view_is) at c.requires in
    rw (← c.self.view_is) (
      λ yes. all-layered c.self.inside.layers c.args.rect room (c.has_all.ensures.0 yes),
      λ all. c.has_all.ensures.1 (all-in_set c.self.inside.layers c.args.rect room all),
    )
