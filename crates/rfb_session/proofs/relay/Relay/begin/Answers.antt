use Rattle.std.proofs.Common.{◌∙◌, ◌≡◌, ◌++◌, false, refl, sym, subst}
use Rattle.rfb_picture.specs.declared.rect.Rect.{Rect}
use Rattle.rfb_viewer.specs.declared.viewer.Viewer.{Viewer}
use Rattle.rfb_viewer.specs.Messages.{request_message}
use Rattle.rfb_session.specs.Mirrors.{StandsOrFailed}
use Rattle.rfb_session.specs.relay.Server.{BadSize}
use Rattle.rfb_session.proofs.RelayLemmas.{called_stands}
use Rattle.rfb_session.proofs.RelayBeginLemmas.{ok_of, begun_so, takes_request}
use Rattle.rfb_session.proofs.RelayStepLemmas.{same_value}
use Rattle.rfb_session.proofs.relay.Relay.begin.Goals as goal

pub returns-then-not-is_shown_size-clause-begins : goal.returns-then-not-is_shown_size-clause-begins
returns-then-not-is_shown_size-clause-begins g c =
    let sends = c.send.ensures in
    BadSize (sym c.if-not-is_shown_size.ensures) c.send.new.self sends.waits sends.server.presence sends.keeps
    c.lose_server.ensures.loses

pub invariant_of-self-2 : goal.invariant_of-self-2
invariant_of-self-2 g c = record {
  eight = c.send.new.self.eight;
  stands = λ x is. subst (λ (v : Viewer). ∥ StandsOrFailed v ∥₁)
      (sym (same_value c.send_call.new.viewer x (sym c.seat_in.ensures ∙ is)))
      (called_stands c.args.viewer c.send_call.new.viewer _
      (ok_of c.send_call.result _ (sym c.if-is_err.ensures.value) c.send_call.ensures.called) c.requires.stands);
}

pub returns-clause-begins : goal.returns-clause-begins
returns-clause-begins g c =
    let call = c.send_call.ensures in
    let went = sym c.if-is_err.ensures.value in
    begun_so c.args.self.now c.send.new.self c.args.viewer c.send_call.new.viewer c.args.reply.now c.args.width
    c.args.height _ c.send.ensures.waits c.send.ensures.keeps c.send.ensures.server
    (subst (λ (r : Rect). c.send_call.new.self ≡ c.send.new.self.to_server ++ request_message false r)
    c.whole.ensures (ok_of c.send_call.result _ went call.sent)) c.seat_in.ensures refl refl
    (takes_request c.args.viewer c.send_call.new.viewer _ _ c.send_call.result c.whole.ensures went call.refusal
    (ok_of c.send_call.result _ went call.spelled) (ok_of c.send_call.result _ went call.called))
