use Rattle.std.proofs.Common.{Bool, subst}
use Rattle.rfb_picture.specs.Grid.{Grid}
use Rattle.rfb_picture.specs.Box.{is_in}
use Rattle.rfb_picture.specs.Places.{AllMarked}
use Rattle.rfb_server.proofs.RecordLemmas.{added_already}
use Rattle.rfb_server.proofs.record.taking.learn.Goals as goal

pub returns-else-not-has_all-clause-value : goal.returns-else-not-has_all-clause-value
returns-else-not-has_all-clause-value c =
    added_already c.args.known.now c.args.rect c.width.ensures.sound
    (subst (λ (g : Grid Bool). AllMarked (is_in g) c.args.rect) c.asked.ensures
    (c.has_all.ensures.0 c.if-not-has_all.false))
