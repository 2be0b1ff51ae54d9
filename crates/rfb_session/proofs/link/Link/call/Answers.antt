use Rattle.std.proofs.Common.{◌≡◌, Some, None, refl, ap, ◌∙◌}
use Rattle.rfb_viewer.specs.Call.{message_of, message_bytes, refusal_for, called}
use Rattle.rfb_session.specs.LinkCalls.{refusal_at}
use Rattle.rfb_session.specs.Told.{refused_as}
use Rattle.rfb_session.proofs.CalledLemmas.{call_taken, call_refused_there, refusal_there, not_taken}
use Rattle.rfb_session.proofs.CalledLemmas.{sends_message, sends_none}
use Rattle.rfb_session.proofs.link.Link.call.Goals as goal

pub returns-in-Ok-clause-bytes : goal.returns-in-Ok-clause-bytes
returns-in-Ok-clause-bytes c =
    let call = c.args.call.now in
    record {
      sends = sends_message (message_of call) (message_bytes call) (message_bytes call)
          (λ s. called call s) _ c.args.self.now _ c.taken.result
          (c.taken.ensures.refused ∙ ap (λ o. refused_as o) c.in-Ok.ensures.refuses) refl
          c.in-Ok.ensures.spelled
          (record {
            session = refl;
            viewer = c.in-Ok.ensures.called;
            to_server = c.in-Ok.ensures.sent;
            to_viewer = refl;
            latest = refl;
          });
      same = c.in-Ok.ensures.unnoted;
    }

pub returns-in-Ok-clause-does : goal.returns-in-Ok-clause-does
returns-in-Ok-clause-does c = λ e n made reached stands.
    let call = c.args.call.now in
    let has = stands.carries in
    let none = c.in-Ok.ensures.refusal e.viewing n.link.viewer has.viewer_has has.viewer_is in
    let one = call_taken e c.args.self.now _ n call stands reached none c.in-Ok.ensures.spelled
    (record {
      session = refl;
      viewer = c.in-Ok.ensures.called;
      to_server = c.in-Ok.ensures.sent;
      to_viewer = refl;
      latest = refl;
    }) in (
      one.0,
      one.1,
      c.taken.ensures.refused ∙ ap (λ o. refused_as o)
          (none ∙ refusal_there e c.args.self.now n call stands reached),
      one.2,
    )

pub returns-in-Err-Refused-clause-bytes : goal.returns-in-Err-Refused-clause-bytes
returns-in-Err-Refused-clause-bytes c =
    let call = c.args.call.now in
    record {
      sends = sends_none (message_of call) (message_bytes call) (λ s. called call s) _
          c.in-Err-Refused.fault c.args.self.now _ c.of_refusal.result
          (c.of_refusal.ensures.refused ∙ c.from.ensures)
          (rw c.in-Err-Refused.field-0-is at c.in-Err-Refused.ensures.refuses);
      same = c.in-Err-Refused.ensures.unnoted;
    }

pub returns-in-Err-Refused-clause-does : goal.returns-in-Err-Refused-clause-does
returns-in-Err-Refused-clause-does c = λ e n made reached stands.
    let call = c.args.call.now in
    let has = stands.carries in
    let some : Some c.in-Err-Refused.fault ≡ refusal_for n.link.viewer has.viewer_has call =
    rw c.in-Err-Refused.field-0-is at (c.in-Err-Refused.ensures.refusal e.viewing n.link.viewer
    has.viewer_has has.viewer_is) in
    let one = call_refused_there e c.args.self.now _ n call c.in-Err-Refused.fault stands reached some
    (record {
      session = refl;
      viewer = c.in-Err-Refused.ensures.same;
      to_server = c.in-Err-Refused.ensures.kept;
      to_viewer = refl;
      latest = refl;
    }) in (
      one.0,
      one.1,
      (c.of_refusal.ensures.refused ∙ c.from.ensures) ∙ ap (λ o. refused_as o)
          (some ∙ refusal_there e c.args.self.now n call stands reached),
      one.2,
    )

pub returns-in-Err-NoMemory-clause-spared : goal.returns-in-Err-NoMemory-clause-spared
returns-in-Err-NoMemory-clause-spared c = λ refused.
    let call = c.args.call.now in
    let n = refused.n in
    let has = refused.stands.carries in
    let none : None ≡ refusal_for n.link.viewer has.viewer_has call =
    rw c.in-Err-NoMemory.field-0-is at (c.in-Err-NoMemory.ensures.refusal refused.e.viewing
    n.link.viewer has.viewer_has has.viewer_is) in
    absurd (not_taken (refusal_at n.link call) refused.refused
    (none ∙ refusal_there refused.e c.args.self.now n call refused.stands refused.reached)
    refused.refuses)
