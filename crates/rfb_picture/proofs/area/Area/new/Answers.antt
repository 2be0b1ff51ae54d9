use Rattle.rfb_picture.proofs.AreaLemmas.{noted-no_places}
use Rattle.rfb_picture.proofs.area.Area.new.Goals as goal

pub invariant_of-result : goal.invariant_of-result
invariant_of-result c =
    rw (c.in_ok-asked.ensures.value, c.in_ok-whole.ensures.value)
    (noted-no_places c.args.width c.args.height)
