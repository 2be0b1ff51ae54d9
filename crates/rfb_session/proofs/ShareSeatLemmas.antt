-- A seat at a share: what a call of its session makes of it.
use Rattle.std.proofs.Common.{◌≡◌, ℕ, ◌+◌, ◌≤◌, Bool, true, false, List, [], ◌++◌, length, drop, append-nil, Option}
use Rattle.std.proofs.Common.{None, Some, Result, Ok, Err, refl, sym, ap, ◌∙◌, subst, arith}
use Rattle.std.proofs.Math.Logic.{∥∥₁_prop}
use Rattle.std.proofs.lemmas.List.{drop-append-le}
use Rattle.std.specs.Coded.{le_prop}
use Rattle.arrayvec.specs.ArrayVec.{ArrayVec}
use Rattle.rfb_pixel.specs.declared.colour.Colour.{Colour}
use Rattle.rfb_picture.specs.Grid.{Grid}
use Rattle.rfb_wire.specs.stream.End.{FedBy, StaysFailed}
use Rattle.rfb_server.specs.declared.fault.ServerFault.{ServerFault}
use Rattle.rfb_server.specs.declared.late.feeding.LateFault.{LateFault}
use Rattle.rfb_server.specs.declared.late.feeding.LateFault.TheVariants.{Session as OfSession, NoMemory as Wanting}
use Rattle.rfb_server.specs.declared.session.Session.{Session}
use Rattle.rfb_server.specs.ClientBytes.{ClientAt}
use Rattle.rfb_server.specs.Server.{Serving, server}
use Rattle.rfb_server.specs.Hints.{hints_in}
use Rattle.rfb_server.specs.Model.{SessionStandsFor, session_fault, session_serving}
use Rattle.rfb_server.specs.Told.{ServerTold}
use Rattle.rfb_session.specs.declared.share.seat.ShareSeat.{ShareSeat}
use Rattle.rfb_session.specs.declared.share.waiting.Waiting.{Waiting}
use Rattle.rfb_session.specs.declared.share.waiting.Waiting.TheVariants.{Answers, Update, Shared}
use Rattle.rfb_session.specs.InFlight.{server_reply}
use Rattle.rfb_session.specs.ShareRoom.{kept_in, answers_in, answers_left, AnswersFit, HasRoomForAnswers, memory_of}
use Rattle.rfb_session.specs.ShareSeats.{Hears, Ends, waiting_in, is_update, holds_update}
use Rattle.rfb_session.specs.ShareSlots.{EndsAtSeat, fault_of_late}
use Rattle.rfb_session.proofs.ShareFitLemmas.{fits_after, none_after}

-- a seat with another session
abbrev seat_of : (seat : ShareSeat) (session : Session) →
    seat.written ≤ length (kept_in seat.waiting) → answers_in seat.waiting ≤ 297 →
    ∥ HasRoomForAnswers session seat.waiting ∥₁ → ShareSeat
seat_of seat session within few roomy = record {
  alloc = seat.alloc;
  session = session;
  waiting = seat.waiting;
  written = seat.written;
  within = within;
  few = few;
  roomy = roomy;
}

-- ---- whether a session has failed

-- a call that answers well has not failed before
pub not_failed : {V A F : Type 0} (o : Option F) (old new : V) (result : Result A F) (a : A) →
    StaysFailed o old result new → result ≡ Ok a → o ≡ None
not_failed None old new result a failed is = refl
not_failed (Some f) old new result a failed is = absurd (apart (sym (failed f refl).0 ∙ is))
  where
    apart : Err f ≡ Ok a → ⊥
    apart e = cc

-- the same of a session that takes its memory late
pub not_ended : {A : Type 0} (o : Option ServerFault) (same : Type 0) (result : Result A LateFault) (a : A) →
    ((fault : ServerFault) → o ≡ Some fault → (result ≡ Err (OfSession fault)) × same) →
    result ≡ Ok a → o ≡ None
not_ended None same result a failed is = refl
not_ended (Some f) same result a failed is = absurd (apart (sym (failed f refl).0 ∙ is))
  where
    apart : Err (OfSession f) ≡ Ok a → ⊥
    apart e = cc

-- a seat with the session that it had is the old one
pub seat_kept : (seat : ShareSeat) (session : Session)
    (within : seat.written ≤ length (kept_in seat.waiting)) (few : answers_in seat.waiting ≤ 297)
    (roomy : ∥ HasRoomForAnswers session seat.waiting ∥₁) → session ≡ seat.session →
    seat_of seat session within few roomy ≡ seat
seat_kept seat session within few roomy is =
    subst (λ (s : Session). (r : ∥ HasRoomForAnswers s seat.waiting ∥₁) →
    seat_of seat s within few r ≡ seat) (sym is) same roomy
  where
    same : (r : ∥ HasRoomForAnswers seat.session seat.waiting ∥₁) →
        seat_of seat seat.session within few r ≡ seat
    same r = ap (λ w. seat_of seat seat.session w few r) (le_prop within seat.within)
        ∙ ap (λ f. seat_of seat seat.session seat.within f r) (le_prop few seat.few)
        ∙ ap (λ q. seat_of seat seat.session seat.within seat.few q) (∥∥₁_prop r seat.roomy)

-- bytes that were not taken: its session has ended, or there was no memory for it
pub refused_late : (bytes : List ℕ) (why : LateFault) (old new : ShareSeat) →
    ((fault : ServerFault) → why ≡ OfSession fault → Ends bytes fault old new) →
    (why ≡ Wanting → new ≡ old) → EndsAtSeat bytes (fault_of_late why) old new
refused_late bytes (OfSession fault) old new ends same = ends fault refl
refused_late bytes Wanting old new ends same = same refl

-- ---- what a call makes of a seat

is_not_both : (b : Bool) → b ≡ false → b ≡ true → ⊥
is_not_both b no_update some = cc

-- its session was fed, and the answer joined those that are kept
pub heard_answer : (old new : ShareSeat) (answers later : ArrayVec ℕ) (bytes : List ℕ)
    (told : Option ServerTold) → old.waiting ≡ Answers answers → new.waiting ≡ Answers later →
    new.written ≡ old.written → later.items ≡ answers.items ++ server_reply told →
    session_fault old.session ≡ None →
    ((serving : Serving) (screen : Grid Colour) → FedBy (server serving)
    (SessionStandsFor serving screen) old.session bytes told new.session) →
    session_serving new.session ≡ session_serving old.session →
    hints_in new.session ≡ hints_in old.session → Hears bytes told old new
heard_answer old new answers later bytes told was is written more going fed made hints =
    let kept : kept_in old.waiting ≡ answers.items = ap (λ (w : Waiting). kept_in w) was in
    let within : old.written ≤ length answers.items =
    subst (λ (xs : List ℕ). old.written ≤ length xs) kept old.within in
    let none : is_update old ≡ false = ap (λ (w : Waiting). holds_update w) was in
    record {
      going = going;
      fed = fed;
      waits = ap (λ (w : Waiting). drop new.written (kept_in w)) is
          ∙ ap (λ (k : ℕ). drop k later.items) written
          ∙ ap (λ (xs : List ℕ). drop old.written xs) more
          ∙ drop-append-le old.written answers.items (server_reply told) within
          ∙ ap (λ (xs : List ℕ). drop old.written xs ++ server_reply told) (sym kept);
      update = ap (λ (w : Waiting). holds_update w) is ∙ sym none;
      quiet = λ some. absurd (is_not_both (is_update old) none some);
      memory = ap (λ (w : Waiting). memory_of w) is ∙ sym (ap (λ (w : Waiting). memory_of w) was);
      made = made;
      hints = hints;
    }

-- it was fed, where an update waits
heard_after : (old new : ShareSeat) (bytes : List ℕ) (told : Option ServerTold) →
    new.waiting ≡ old.waiting → new.written ≡ old.written → server_reply told ≡ [] →
    session_fault old.session ≡ None →
    ((serving : Serving) (screen : Grid Colour) → FedBy (server serving)
    (SessionStandsFor serving screen) old.session bytes told new.session) →
    session_serving new.session ≡ session_serving old.session →
    hints_in new.session ≡ hints_in old.session → Hears bytes told old new
heard_after old new bytes told is written none going fed made hints =
    let same : waiting_in new ≡ waiting_in old =
    ap (λ (w : Waiting). drop new.written (kept_in w)) is
    ∙ ap (λ (k : ℕ). drop k (kept_in old.waiting)) written in
    record {
      going = going;
      fed = fed;
      waits = same ∙ sym (append-nil (waiting_in old))
          ∙ ap (λ (xs : List ℕ). waiting_in old ++ xs) (sym none);
      update = ap (λ (w : Waiting). holds_update w) is;
      quiet = λ some. same;
      memory = ap (λ (w : Waiting). memory_of w) is;
      made = made;
      hints = hints;
    }

-- where an update waits, no answer is left
update_has_none : (point : ClientAt) (waiting : Waiting) → holds_update waiting ≡ true →
    AnswersFit waiting point → answers_left point ≡ 0
update_has_none point (Answers answers) some fit = absurd (is_not_both false refl some)
update_has_none point (Update update) some fit = fit
update_has_none point (Shared update) some fit = fit

update_stays : (waiting : Waiting) (event : Option ServerTold) →
    holds_update waiting ≡ true → (before after : ClientAt) → AnswersFit waiting before →
    length (server_reply event) + answers_left after ≤ answers_left before →
    AnswersFit waiting after
update_stays (Answers answers) event some before after fit fewer =
    absurd (is_not_both false refl some)
update_stays (Update update) event some before after fit fewer = omega (arith, fit, fewer)
update_stays (Shared update) event some before after fit fewer = omega (arith, fit, fewer)

-- and so it was fed, where an update waits
pub heard_update : (old new : ShareSeat) (bytes : List ℕ) (told : Option ServerTold) →
    new.waiting ≡ old.waiting → new.written ≡ old.written → session_fault old.session ≡ None →
    ((serving : Serving) (screen : Grid Colour) → FedBy (server serving)
    (SessionStandsFor serving screen) old.session bytes told new.session) →
    session_serving new.session ≡ session_serving old.session → hints_in new.session ≡ hints_in old.session →
    holds_update old.waiting ≡ true → Hears bytes told old new
heard_update old new bytes told is written going fed made hints some =
    heard_after old new bytes told is written
    (none_after old.session new.session old.waiting bytes told going fed
    (λ point. update_has_none point old.waiting some) old.roomy) going fed made hints

-- what is left of the answers of a session that was fed fits, where an update waits
pub update_fits : (old : ShareSeat) (new : Session) (bytes : List ℕ) (event : Option ServerTold) (same : Type 0)
    {A : Type 0} (result : Result A LateFault) (a : A) →
    ((fault : ServerFault) → session_fault old.session ≡ Some fault →
    (result ≡ Err (OfSession fault)) × same) →
    result ≡ Ok a →
    ((serving : Serving) (screen : Grid Colour) → FedBy (server serving) (SessionStandsFor serving screen)
    old.session bytes event new) → holds_update old.waiting ≡ true → ∥ HasRoomForAnswers new old.waiting ∥₁
update_fits old new bytes event same result a failed is fed some =
    fits_after old.session new old.waiting old.waiting bytes event (not_ended _ same result a failed is) fed
    (update_stays old.waiting event some) old.roomy
