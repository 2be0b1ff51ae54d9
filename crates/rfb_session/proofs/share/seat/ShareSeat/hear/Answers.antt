use Rattle.std.proofs.Common.{◌≤◌, length, length-append, take, sym, ap, refl, subst, arith}
use Rattle.std.proofs.lemmas.Result.{err_from_is_err_and}
use Rattle.rfb_server.specs.Told.{seen}
use Rattle.rfb_session.specs.declared.share.seat.ShareSeat.{ShareSeat}
use Rattle.rfb_session.specs.declared.share.waiting.Waiting.{Waiting}
use Rattle.rfb_session.specs.declared.share.waiting.Waiting.TheVariants.{Answers}
use Rattle.rfb_session.specs.ShareRoom.{kept_in, HasRoomForAnswers}
use Rattle.rfb_session.specs.ShareSeats.{Hears, holds_update}
use Rattle.rfb_session.proofs.ShareFitLemmas.{fits_refused, answer_fits, fits_after, answers_after}
use Rattle.rfb_session.proofs.ShareSeatLemmas.{not_ended, refused_late, seat_kept, heard_answer, heard_update}
use Rattle.rfb_session.proofs.ShareSeatLemmas.{update_fits}
use Rattle.rfb_session.proofs.share.seat.ShareSeat.hear.Goals as goal
use Rattle.rfb_session.proofs.share.seat.ShareSeat.hear.Goals.{in-Answers, in-Update, in-Shared}

pub invariant_of-self : goal.invariant_of-self
invariant_of-self c =
    let s = c.args.self.now in
    assumption (
      s,
      fits_refused s.session c.feed.new.self s.waiting c.in_err-fed.field-0.0 c.in_err-fed.ensures.fails
          c.in_err-fed.ensures.refused s.roomy,
    )

pub returns-in_err-fed-clause-ended : goal.returns-in_err-fed-clause-ended
returns-in_err-fed-clause-ended c =
    let p = err_from_is_err_and c.from_residual.result c.from_residual.ensures.1 in
    rw (p.1, p.2)
    (refused_late c.args.bytes.now c.in_err-fed.field-0.0 c.args.self.now _
    (λ fault is. record {
      fails = c.in_err-fed.ensures.fails fault is;
      ends = c.in_err-fed.ensures.kept fault is;
      waits = refl;
      memory = refl;
      made = c.in_err-fed.ensures.made;
      failed = λ before had. seat_kept c.args.self.now c.feed.new.self _ _ _
          (c.in_err-fed.ensures.failed before had).1;
    })
    (λ is. seat_kept c.args.self.now c.feed.new.self _ _ _ (c.in_err-fed.ensures.refused is)))

pub append-requires : goal.append-requires
append-requires c =
    let s = c.args.self.now in
    let going = not_ended _ _ c.feed.result c.in_ok-fed.fed
    c.feed.ensures.failed c.in_ok-fed.was in (
      omega arith,
      rw c.server_reply.ensures (answer_fits s.session c.feed.new.self c.in-Answers.kept
          (take c.in_ok-fed.fed.used c.args.bytes.now) (seen c.in_ok-fed.fed.event) going
          c.in_ok-fed.ensures.takes.fed
          (subst (λ (w : Waiting). ∥ HasRoomForAnswers s.session w ∥₁) c.in-Answers.is s.roomy)),
    )

pub invariant_of-self-in-Answers : goal.invariant_of-self-in-Answers
invariant_of-self-in-Answers c =
    let s = c.args.self.now in
    let going = not_ended _ _ c.feed.result c.in_ok-fed.fed
    c.feed.ensures.failed c.in_ok-fed.was in
    let more = rw c.server_reply.ensures at c.append.ensures.items in
    let within : s.written ≤ length c.in-Answers.kept.items =
    subst (λ (w : Waiting). s.written ≤ length (kept_in w)) c.in-Answers.is s.within in
    let long = ap (λ xs. length xs) c.append.ensures.items in
    let sum = length-append c.in-Answers.kept.items c.server_reply.result.now in
    let room = answer_fits s.session c.feed.new.self c.in-Answers.kept
    (take c.in_ok-fed.fed.used c.args.bytes.now) (seen c.in_ok-fed.fed.event) going
    c.in_ok-fed.ensures.takes.fed
    (subst (λ (w : Waiting). ∥ HasRoomForAnswers s.session w ∥₁) c.in-Answers.is s.roomy) in
    let reply = ap (λ xs. length xs) c.server_reply.ensures in
    record {
      within = omega (arith, within, long, sum);
      few = omega (arith, room, long, sum, reply);
      roomy = fits_after s.session c.feed.new.self (Answers c.in-Answers.kept)
          (Answers c.append.new.kept) (take c.in_ok-fed.fed.used c.args.bytes.now)
          (seen c.in_ok-fed.fed.event) going c.in_ok-fed.ensures.takes.fed
          (answers_after c.in-Answers.kept c.append.new.kept (seen c.in_ok-fed.fed.event) more)
          (subst (λ (w : Waiting). ∥ HasRoomForAnswers s.session w ∥₁) c.in-Answers.is s.roomy);
    }

pub invariant_of-self-in-Update : goal.invariant_of-self-in-Update
invariant_of-self-in-Update c =
    let s = c.args.self.now in
    assumption (
      s,
      update_fits s c.feed.new.self _ _ _ c.feed.result c.in_ok-fed.fed c.feed.ensures.failed
          c.in_ok-fed.was c.in_ok-fed.ensures.takes.fed (ap (λ (w : Waiting). holds_update w) c.in-Update.is),
    )

pub invariant_of-self-in-Shared : goal.invariant_of-self-in-Shared
invariant_of-self-in-Shared c =
    let s = c.args.self.now in
    assumption (
      s,
      update_fits s c.feed.new.self _ _ _ c.feed.result c.in_ok-fed.fed c.feed.ensures.failed
          c.in_ok-fed.was c.in_ok-fed.ensures.takes.fed (ap (λ (w : Waiting). holds_update w) c.in-Shared.is),
    )

pub returns-clause-heard : goal.returns-clause-heard
returns-clause-heard c =
    let s = c.args.self.now in
    let bytes = take c.in_ok-fed.fed.used c.args.bytes.now in
    let told = seen c.in_ok-fed.fed.event in
    let going = not_ended _ _ c.feed.result c.in_ok-fed.fed
    c.feed.ensures.failed c.in_ok-fed.was in
    elim c.match-self.branch [
      | in-Answers w ↦
          subst (λ (seat : ShareSeat). Hears bytes told s seat) (sym w.self-is)
          (heard_answer s _ w.in-Answers.kept w.append.new.kept bytes told w.in-Answers.is refl
          refl (rw w.server_reply.ensures at w.append.ensures.items) going c.in_ok-fed.ensures.takes.fed
          c.feed.ensures.made c.feed.ensures.hints)
      | in-Update w ↦
          subst (λ (seat : ShareSeat). Hears bytes told s seat) (sym w.self-is)
          (heard_update s _ bytes told refl refl going c.in_ok-fed.ensures.takes.fed c.feed.ensures.made
          c.feed.ensures.hints (ap (λ (v : Waiting). holds_update v) w.in-Update.is))
      | in-Shared w ↦
          subst (λ (seat : ShareSeat). Hears bytes told s seat) (sym w.self-is)
          (heard_update s _ bytes told refl refl going c.in_ok-fed.ensures.takes.fed c.feed.ensures.made
          c.feed.ensures.hints (ap (λ (v : Waiting). holds_update v) w.in-Shared.is))
    ]
