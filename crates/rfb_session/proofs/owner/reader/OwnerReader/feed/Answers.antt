use Rattle.std.proofs.Common.{sym, subst}
use Rattle.rfb_session.specs.declared.owner.stage.Stage.{Stage}
use Rattle.rfb_session.specs.owner.Reader.{IsFresh}
use Rattle.rfb_session.proofs.owner.reader.OwnerReader.feed.Goals as goal

pub feed_line-requires-clause-fresh : goal.feed_line-requires-clause-fresh
feed_line-requires-clause-fresh c =
    subst (λ (s : Stage). IsFresh s) (sym c.replace-stage.ensures.after) c.new.ensures

pub feed_pixels-requires-clause-fresh : goal.feed_pixels-requires-clause-fresh
feed_pixels-requires-clause-fresh c =
    subst (λ (s : Stage). IsFresh s) (sym c.replace-stage.ensures.after) c.new.ensures

pub feed_refused-requires-clause-fresh : goal.feed_refused-requires-clause-fresh
feed_refused-requires-clause-fresh c =
    subst (λ (s : Stage). IsFresh s) (sym c.replace-stage.ensures.after) c.new.ensures
