use Rattle.std.proofs.Common.{Option, sym, subst}
use Rattle.rfb_picture.specs.declared.rect.Rect.{Rect}
use Rattle.rfb_session.specs.ShareMoves.{GetsChange}
use Rattle.rfb_session.proofs.ShareMoveLemmas.{change_none, change_some}
use Rattle.rfb_session.proofs.share.mirroring.telling.tell_change.Goals as goal

pub returns-in-Some : goal.returns-in-Some
returns-in-Some c =
    subst (λ (o : Option Rect). GetsChange c.args.picture.now o c.args.seat.now c.notified.new.self) (sym c.in-Some.is)
    (change_some c.args.picture.now c.in-Some.area c.change_in.result c.args.seat.now c.notified.new.self
    c.change_in.ensures.hint
    (λ before alike outside. c.change_in.ensures.told before c.requires.full alike outside)
    c.notified.ensures.notified)

pub returns-in_default : goal.returns-in_default
returns-in_default c =
    subst (λ (o : Option Rect). GetsChange c.args.picture.now o c.args.seat.now c.args.seat.now) (sym c.in_default.is)
    (change_none c.args.picture.now c.args.seat.now c.requires.full)
