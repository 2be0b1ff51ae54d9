use Rattle.std.proofs.Common.{◌≡◌, ◌≤◌, length, drop, [], arith, subst, sym, ap, List, ℕ}
use Rattle.std.specs.Vec.{vec_capacity}
use Rattle.rfb_server.specs.Room.{update_room}
use Rattle.rfb_server.specs.UpdateCall.{SendsUpdate}
use Rattle.rfb_session.specs.declared.share.waiting.Waiting.{Waiting}
use Rattle.rfb_session.specs.declared.share.waiting.Waiting.TheVariants.{Shared}
use Rattle.rfb_session.specs.ShareRoom.{kept_in, memory_of}
use Rattle.rfb_session.specs.ShareSeats.{session_at, waiting_in}
use Rattle.rfb_session.proofs.ShareFitLemmas.{fits_sent}
use Rattle.rfb_session.proofs.ShareTwinLemmas.{ready_going, same_room}
use Rattle.rfb_session.proofs.share.seat.ShareSeat.take_over.Goals as goal

pub invariant_of-self : goal.invariant_of-self
invariant_of-self c =
    let s = c.args.self.now in
    let twin = c.requires.twin in
    let there : c.args.sent.now.written ≤ length c.in-Shared.bytes.value.items =
    subst (λ (w : Waiting). c.args.sent.now.written ≤ length (kept_in w)) c.in-Shared.is c.args.sent.now.within in
    let sends = c.take_over.ensures.sends (session_at twin.was) [] (waiting_in c.args.sent.now) twin.twins.sessions
    twin.sends.update in
    record {
      within = rw (c.in-Ok.ensures.cases) there;
      few = omega arith;
      roomy = fits_sent c.args.screen.now s.session c.take_over.new.self s.waiting (Shared c.in-Ok.bytes)
          _ _ sends (λ point none. none) s.roomy;
    }

pub returns-clause-sends : goal.returns-clause-sends
returns-clause-sends c =
    let s = c.args.self.now in
    let twin = c.requires.twin in
    let written = c.args.sent.now.written in
    let room = same_room (session_at twin.was) s.session twin.twins.sessions in
    let items : drop written c.in-Ok.bytes.value.items ≡ waiting_in c.args.sent.now =
    rw (c.in-Ok.ensures.cases) (ap (λ (w : Waiting). drop written (kept_in w)) (sym c.in-Shared.is)) in
    let memory : vec_capacity c.in-Shared.bytes.value ≤ update_room (session_at twin.was) =
    subst (λ (w : Waiting). memory_of w ≤ update_room (session_at twin.was)) c.in-Shared.is twin.sends.memory in
    record {
      going = ready_going s.session.progress twin.twins.sessions.ready;
      written = twin.twins.written_too;
      update = subst (λ (after : List ℕ). SendsUpdate c.args.screen.now s.session c.take_over.new.self [] after)
          (sym items) (c.take_over.ensures.sends (session_at twin.was) [] (waiting_in c.args.sent.now)
          twin.twins.sessions twin.sends.update);
      room = rw (items, ← room) twin.sends.room;
      memory = rw (c.in-Ok.ensures.cases, ← room) memory;
      spent = c.take_over.ensures.spent;
    }
