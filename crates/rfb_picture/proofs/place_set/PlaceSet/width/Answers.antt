use Rattle.rfb_picture.proofs.PlaceSetLemmas.{whole-layered}
use Rattle.rfb_picture.proofs.place_set.PlaceSet.width.Goals as goal

pub returns-clause-whole : goal.returns-clause-whole
returns-clause-whole c = rw (← c.self.view_is) (whole-layered c.self.inside.layers)
