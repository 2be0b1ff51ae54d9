use Rattle.std.proofs.Common.{refl, sym, subst, arith}
use Rattle.rfb_session.specs.declared.owner.order.Order.{Order}
use Rattle.rfb_session.specs.declared.owner.stage.Stage.{Stage}
use Rattle.rfb_session.specs.owner.Reader.{IsFresh}
use Rattle.rfb_session.proofs.OwnerEndLemmas.{pixels_close, pixels_cut, refused_closes, refused_cut}
use Rattle.rfb_session.proofs.owner.reader.OwnerReader.end.Goals.{After-replace-stage}
use Rattle.rfb_session.proofs.owner.reader.OwnerReader.end.Goals as goal

-- the stage that is left has read nothing
left_fresh : (c : After-replace-stage) → IsFresh c.replace-stage.new.dest
left_fresh c = subst (λ (s : Stage). IsFresh s) (sym c.replace-stage.ensures.after) c.new.ensures

pub close_line-requires : goal.close_line-requires
close_line-requires c = record {
  fresh = left_fresh (goal.at.close_line-requires c).After-replace-stage;
}

pub returns-then-left-gt0 : goal.returns-then-left-gt0
returns-then-left-gt0 c =
    rw c.in-Pixels.ensures.value at (pixels_cut c.args.self.now.screen c.in-Pixels.pixels _
    (omega (arith, c.left.ensures)) (left_fresh (goal.at.returns-then-left-gt0 c).After-replace-stage) refl)

pub returns-then-left-gt0-2 : goal.returns-then-left-gt0-2
returns-then-left-gt0-2 c =
    rw c.in-Refused.ensures.value at (refused_cut c.args.self.now.screen c.in-Refused.left c.in-Refused.why _
    (omega arith) (left_fresh (goal.at.returns-then-left-gt0-2 c).After-replace-stage) refl)

pub returns-else-left-gt0 : goal.returns-else-left-gt0
returns-else-left-gt0 c =
    rw c.in-Pixels.ensures.value at (pixels_close c.args.self.now.screen c.in-Pixels.pixels
    (Order.Pixels c.into_parts-bytes.result.0 c.into_parts-bytes.result.1) _ (omega (arith, c.left.ensures))
    (λ text begun whole lies. rw (c.into_parts-bytes.ensures.rect, c.into_parts-bytes.ensures.bytes) (
      begun,
      whole,
      lies,
    ))
    (left_fresh (goal.at.returns-else-left-gt0 c).After-replace-stage) refl)

pub returns-else-left-gt0-2 : goal.returns-else-left-gt0-2
returns-else-left-gt0-2 c =
    rw c.in-Refused.ensures.value at (refused_closes c.args.self.now.screen c.in-Refused.left c.in-Refused.why _
    (omega arith) (left_fresh (goal.at.returns-else-left-gt0-2 c).After-replace-stage) refl)
