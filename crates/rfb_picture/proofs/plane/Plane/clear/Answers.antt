use Rattle.std.proofs.Common.{◌≡◌, length, arith}
use Rattle.std.proofs.lemmas.List.{with_items_is}
use Rattle.rfb_picture.proofs.PlaneLemmas.{plane-zeros}
use Rattle.rfb_picture.proofs.plane.Plane.clear.Goals as goal

pub returns-clause-value : goal.returns-clause-value
returns-clause-value c =
    let len : length c.fill.new.self ≡ c.self.inside.words.items.len = omega arith in
    rw (
      with_items_is c.self.inside.words.items c.fill.new.self len,
      c.fill.ensures.after (λ y e. e),
      ← c.self.view_is,
    ) (plane-zeros _ _ _ _)
