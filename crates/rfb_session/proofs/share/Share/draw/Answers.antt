use Rattle.std.proofs.Common.{◌≤◌, ◌∙◌, subst, arith}
use Rattle.rfb_server.specs.Strokes.{stroke, notice_of}
use Rattle.rfb_server.proofs.DrawingLaws.{area_held}
use Rattle.rfb_session.specs.declared.share.screen.Screen.{Screen}
use Rattle.rfb_session.specs.ShareScreen.{shown_on}
use Rattle.rfb_session.specs.ShareSeats.{IsNotifiedIn}
use Rattle.rfb_session.proofs.FollowLemmas.{AllFollow, all_about, all_notified}
use Rattle.rfb_session.proofs.KinLemmas.{alike_still, still_kept}
use Rattle.rfb_session.proofs.ShareStateLemmas.{sound_seen}
use Rattle.rfb_session.proofs.ShareWorkLemmas.{rest_of_all}
use Rattle.rfb_session.proofs.share.Share.draw.Goals as goal

pub notify_all-requires : goal.notify_all-requires
notify_all-requires c =
    let s = c.args.self.now in (
      omega arith,
      rw c.in_ok-notice.ensures.value
          (all_about (λ seat. seat.session) c.in-Drawn.picture s.seats _
          (subst (λ (x : Screen). AllFollow (λ seat. seat.session) (shown_on x) s.seats) c.in-Drawn.is s.follow)
          (area_held (stroke c.args.drawing.now) c.in-Drawn.picture c.in_ok-notice.ensures.inside)),
    )

pub draw_on-requires : goal.draw_on-requires
draw_on-requires c = record { inside = c.in_ok-notice.ensures.inside }

pub invariant_of-self : goal.invariant_of-self
invariant_of-self c =
    let s = c.args.self.now in
    record {
      eight = s.eight;
      columns = s.columns;
      rows = s.rows;
      follow = s.follow;
      rest = s.rest;
      alike = s.alike;
    }

pub invariant_of-self-in-Break-1 : goal.invariant_of-self-in-Break-1
invariant_of-self-in-Break-1 c = assumption (sound_seen c.args.self.now _ c.in-Drawn.is)

pub invariant_of-self-2 : goal.invariant_of-self-2
invariant_of-self-2 c =
    let s = c.args.self.now in
    let one = stroke c.args.drawing.now in
    let is = c.in-Drawn.is in
    record {
      eight = c.notify_all.ensures.size ∙ s.eight;
      columns = rw c.draw_on.ensures.width (subst (λ (x : Screen). (shown_on x).width ≤ 4096) is s.columns);
      rows = rw c.draw_on.ensures.height (subst (λ (x : Screen). (shown_on x).height ≤ 4096) is s.rows);
      rest = rest_of_all c.draw_on.new.screen c.notify_all.new.slots c.all-self.result
          (c.notify_all.ensures.size ∙ s.eight) c.all-self.ensures;
      follow = rw c.draw_on.ensures.value
          (all_notified (λ seat. seat.session) (λ a b. IsNotifiedIn (notice_of one) a b) c.in-Drawn.picture
          s.seats c.notify_all.new.slots one (λ a b one. one.follows)
          (subst (λ (x : Screen). AllFollow (λ seat. seat.session) (shown_on x) s.seats) is s.follow)
          (rw c.in_ok-notice.ensures.value at c.notify_all.ensures.notified));
      alike = alike_still s.kin s.seats c.notify_all.new.slots
          (λ k. still_kept (λ a b. IsNotifiedIn c.in_ok-notice.notice a b) _ _ (λ a b one. one.keeps)
          (c.notify_all.ensures.notified k)) s.alike;
    }
