-- The answers that wait at a seat of a share fit, whatever a call makes of its session.
use Rattle.std.proofs.Common.{◌≡◌, ℕ, ◌+◌, ◌≤◌, false, List, [], ◌∷◌, ◌++◌}
use Rattle.std.proofs.Common.{length, length-append, length-drop}
use Rattle.std.proofs.Common.{take, drop, Option, None, Some, refl, sym, ap, ◌∙◌, subst, arith}
use Rattle.std.proofs.Math.Logic.{∥∥₁_elim, ∥∥₁_map}
use Rattle.std.proofs.lemmas.List.{length-take}
use Rattle.std.specs.Coded.{le_prop}
use Rattle.arrayvec.specs.ArrayVec.{ArrayVec}
use Rattle.rfb_pixel.specs.declared.colour.Colour.{Colour}
use Rattle.rfb_picture.specs.Grid.{Grid}
use Rattle.rfb_wire.specs.stream.End.{FedBy}
use Rattle.rfb_wire.specs.stream.Sequel.{First, Second}
use Rattle.rfb_hello.specs.declared.version.Version.{Version}
use Rattle.rfb_hello.specs.declared.version.Version.TheVariants.{V33, V37, V38}
use Rattle.rfb_hello.specs.Version.{version_text}
use Rattle.rfb_hello.specs.ClientHandshake.{AwaitsVersion, AwaitsChoice, AwaitsInit, Begun}
use Rattle.rfb_server.specs.declared.fault.ServerFault.{ServerFault}
use Rattle.rfb_server.specs.declared.late.feeding.LateFault.{LateFault}
use Rattle.rfb_server.specs.declared.late.feeding.LateFault.TheVariants.{Session as OfSession, NoMemory as Wanting}
use Rattle.rfb_server.specs.declared.session.Session.{Session}
use Rattle.rfb_server.specs.ClientBytes.{ClientAt}
use Rattle.rfb_server.specs.Server.{Serving, ServerState, server, first_server}
use Rattle.rfb_server.specs.Model.{SessionStandsFor, KeepsSession, session_fault, with_screen}
use Rattle.rfb_server.specs.Told.{ServerTold}
use Rattle.rfb_server.specs.UpdateCall.{SendsUpdate}
use Rattle.rfb_server.proofs.ServerLaws.{session_over}
use Rattle.rfb_session.specs.declared.share.waiting.Waiting.{Waiting}
use Rattle.rfb_session.specs.declared.share.waiting.Waiting.TheVariants.{Answers, Update, Shared}
use Rattle.rfb_session.specs.InFlight.{server_reply}
use Rattle.rfb_session.specs.ShareRoom.{kept_in, answers_in, answers_left, AnswersFit, HasRoomForAnswers, IsCut}
use Rattle.rfb_session.specs.ShareSeats.{IsFresh, is_update, holds_update}
use Rattle.rfb_session.proofs.ShareRoomLemmas.{fewer_left}

-- then its answers fit as they did
pub fits_refused : (old new : Session) (waiting : Waiting) (why : LateFault) →
    ((fault : ServerFault) → why ≡ OfSession fault → session_fault new ≡ Some fault) →
    (why ≡ Wanting → new ≡ old) → ∥ HasRoomForAnswers old waiting ∥₁ →
    ∥ HasRoomForAnswers new waiting ∥₁
fits_refused old new waiting (OfSession fault) fails same roomy =
    ∥∥₁_map roomy (λ has going. absurd (apart (sym (fails fault refl) ∙ going)))
  where
    apart : Some fault ≡ None → ⊥
    apart e = cc
fits_refused old new waiting Wanting fails same roomy =
    subst (λ (s : Session). ∥ HasRoomForAnswers s waiting ∥₁) (sym (same refl)) roomy

-- ---- a fresh seat

abbrev pub nowhere : Grid Colour
nowhere = record { width = 0; height = 0; places = [] }

pub fresh_fits : (session : Session) (answers : ArrayVec ℕ) → IsFresh session →
    length answers.items ≡ 12 → HasRoomForAnswers session (Answers answers)
fresh_fits session answers fresh twelve = λ going. record {
  serving = fresh.0;
  screen = nowhere;
  state = with_screen nowhere (first_server fresh.0);
  prefix = [];
  stands = fresh.2 nowhere;
  name = fresh.1;
  fit = omega (arith, twelve);
}

-- a version's text has twelve bytes
pub version_size : (version : Version) → length (version_text version) ≡ 12
version_size V33 = refl
version_size V37 = refl
version_size V38 = refl

pub greets_twelve : (answers : ArrayVec ℕ) (none greeting : List ℕ) (version : Version) →
    answers.items ≡ none ++ greeting → none ≡ [] → greeting ≡ version_text version →
    answers.items ≡ version_text version
greets_twelve answers none greeting version is empty greets =
    is ∙ ap (λ (xs : List ℕ). xs ++ greeting) empty ∙ greets

-- ---- what waits

pub few_waiting : (waiting : Waiting) (kept : List ℕ) (n written : ℕ) → kept ≡ kept_in waiting →
    answers_in waiting ≤ 297 → holds_update waiting ≡ false →
    length (take n (drop written kept)) ≤ 297
few_waiting (Answers answers) kept n written is few none =
    let long = ap (λ (xs : List ℕ). length xs) is in
    let some = length-take n (drop written kept) in
    let rest = length-drop written kept in
    omega (arith, long, some, rest, few)
few_waiting (Update update) kept n written is few none = cc
few_waiting (Shared update) kept n written is few none = cc

-- ---- bytes of its viewer's

-- the answer fits after those that are kept
pub answer_fits : (old new : Session) (answers : ArrayVec ℕ) (bytes : List ℕ)
    (event : Option ServerTold) → session_fault old ≡ None →
    ((serving : Serving) (screen : Grid Colour) → FedBy (server serving)
    (SessionStandsFor serving screen) old bytes event new) →
    ∥ HasRoomForAnswers old (Answers answers) ∥₁ →
    length answers.items + length (server_reply event) ≤ 297
answer_fits old new answers bytes event going fed roomy = ∥∥₁_elim roomy le_prop fits
  where
    fits : HasRoomForAnswers old (Answers answers) →
        length answers.items + length (server_reply event) ≤ 297
    fits has =
        let one = has going in
        let here = fed one.serving one.screen one.state one.prefix one.stands in
        let fewer = fewer_left one.serving one.state here.3.items event one.name here.3.ends in
        let room = one.fit in
        omega (arith, fewer, room)

-- after an update there is none
pub none_after : (old new : Session) (waiting : Waiting) (bytes : List ℕ)
    (event : Option ServerTold) → session_fault old ≡ None →
    ((serving : Serving) (screen : Grid Colour) → FedBy (server serving)
    (SessionStandsFor serving screen) old bytes event new) →
    ((point : ClientAt) → AnswersFit waiting point → answers_left point ≡ 0) →
    ∥ HasRoomForAnswers old waiting ∥₁ → server_reply event ≡ []
none_after old new waiting bytes event going fed is_update roomy =
    nothing (server_reply event) (∥∥₁_elim roomy le_prop fits)
  where
    nothing : (xs : List ℕ) → length xs ≤ 0 → xs ≡ []
    nothing [] short = refl
    nothing (x ∷ xs) short = absurd (omega (arith, short))

    fits : HasRoomForAnswers old waiting → length (server_reply event) ≤ 0
    fits has =
        let one = has going in
        let here = fed one.serving one.screen one.state one.prefix one.stands in
        let fewer = fewer_left one.serving one.state here.3.items event one.name here.3.ends in
        let none = is_update one.state.point one.fit in
        omega (arith, fewer, none)

-- what is left fits after what is kept then
pub fits_after : (old new : Session) (waiting later : Waiting) (bytes : List ℕ)
    (event : Option ServerTold) → session_fault old ≡ None →
    ((serving : Serving) (screen : Grid Colour) → FedBy (server serving)
    (SessionStandsFor serving screen) old bytes event new) →
    ((before after : ClientAt) → AnswersFit waiting before →
    length (server_reply event) + answers_left after ≤ answers_left before →
    AnswersFit later after) →
    ∥ HasRoomForAnswers old waiting ∥₁ → ∥ HasRoomForAnswers new later ∥₁
fits_after old new waiting later bytes event going fed moves roomy = ∥∥₁_map roomy goes_on
  where
    goes_on : HasRoomForAnswers old waiting → HasRoomForAnswers new later
    goes_on has = λ still.
        let one = has going in
        let here = fed one.serving one.screen one.state one.prefix one.stands in
        let fewer = fewer_left one.serving one.state here.3.items event one.name here.3.ends in
        record {
          serving = one.serving;
          screen = one.screen;
          state = here.0;
          prefix = here.1;
          stands = here.2;
          name = one.name;
          fit = moves one.state.point here.0.point one.fit
              (subst (λ (s : ServerState). length (server_reply event) + answers_left s.point
              ≤ answers_left one.state.point) (sym here.3.state) fewer);
        }

-- of answers, and of an update
pub answers_after : (answers later : ArrayVec ℕ) (event : Option ServerTold) →
    later.items ≡ answers.items ++ server_reply event → (before after : ClientAt) →
    AnswersFit (Answers answers) before →
    length (server_reply event) + answers_left after ≤ answers_left before →
    AnswersFit (Answers later) after
answers_after answers later event is before after fit fewer =
    let sum = length-append answers.items (server_reply event) in
    let long = ap (λ (xs : List ℕ). length xs) is ∙ sum in
    omega (arith, long, fit, fewer)

-- a session that has failed needs no room
pub failed_fits : (session : Session) (waiting : Waiting) (fault : ServerFault) →
    session_fault session ≡ Some fault → HasRoomForAnswers session waiting
failed_fits session waiting fault fails = λ going. absurd (apart (sym fails ∙ going))
  where
    apart : Some fault ≡ None → ⊥
    apart e = cc

-- ---- where a session is kept

-- at every point all that may come fits after nothing
most_left : (point : ClientAt) → answers_left point ≤ 285
most_left (First AwaitsVersion) = omega arith
most_left (First (AwaitsChoice version)) = omega arith
most_left (First (AwaitsInit version)) = omega arith
most_left (First (Begun version shared)) = omega arith
most_left (Second between) = omega arith

-- nothing that it stands for has changed, and what is kept leaves as much room
pub fits_kept : (old new : Session) (waiting later : Waiting) → KeepsSession old new →
    ((point : ClientAt) → AnswersFit waiting point → AnswersFit later point) →
    ∥ HasRoomForAnswers old waiting ∥₁ → ∥ HasRoomForAnswers new later ∥₁
fits_kept old new waiting later keeps moves roomy = ∥∥₁_map roomy goes_on
  where
    goes_on : HasRoomForAnswers old waiting → HasRoomForAnswers new later
    goes_on has = λ still.
        let one = has (sym keeps.fault_is ∙ still) in
        record {
          serving = one.serving;
          screen = one.screen;
          state = one.state;
          prefix = one.prefix;
          stands = keeps.stands one.serving one.screen one.state one.prefix one.stands;
          name = one.name;
          fit = moves one.state.point one.fit;
        }

-- the same session, where what is left fits after what is kept then
fits_instead : (session : Session) (old new : Waiting) →
    ((point : ClientAt) → AnswersFit old point → AnswersFit new point) →
    ∥ HasRoomForAnswers session old ∥₁ → ∥ HasRoomForAnswers session new ∥₁
fits_instead session old new fits roomy = ∥∥₁_map roomy (λ has going.
    let one = has going in
    record {
      serving = one.serving;
      screen = one.screen;
      state = one.state;
      prefix = one.prefix;
      stands = one.stands;
      name = one.name;
      fit = fits one.state.point one.fit;
    })

-- as where nothing is kept
pub fits_empty : (session : Session) (waiting : Waiting) (none : ArrayVec ℕ) → none.items ≡ [] →
    ∥ HasRoomForAnswers session waiting ∥₁ → ∥ HasRoomForAnswers session (Answers none) ∥₁
fits_empty session waiting none is roomy =
    fits_instead session waiting (Answers none)
    (λ point fit. let most = most_left point in
    let size = ap (λ (xs : List ℕ). length xs) is in omega (arith, most, size)) roomy

-- ---- an update

-- after it no answer comes
pub fits_sent : (screen : Grid Colour) (old new : Session) (waiting later : Waiting)
    (before after : List ℕ) → SendsUpdate screen old new before after →
    ((point : ClientAt) → answers_left point ≡ 0 → AnswersFit later point) →
    ∥ HasRoomForAnswers old waiting ∥₁ → ∥ HasRoomForAnswers new later ∥₁
fits_sent screen old new waiting later before after sends none roomy = ∥∥₁_map roomy goes_on
  where
    goes_on : HasRoomForAnswers old waiting → HasRoomForAnswers new later
    goes_on has = λ still.
        let one = has (sym sends.fault_is ∙ still) in
        let sent = sends.sent one.serving (with_screen screen one.state) one.prefix
        (session_over one.serving one.screen screen old one.state one.prefix one.stands) in
        record {
          serving = one.serving;
          screen = screen;
          state = sent.resulting;
          prefix = one.prefix;
          stands = sent.stands;
          name = one.name;
          fit = none sent.resulting.point (ap (λ (point : ClientAt). answers_left point)
              (sent.update.composes.same_point ∙ sent.update.due.ready));
        }

-- ---- an update, and some of its bytes are kept no more

pub cut_few : (old new : Waiting) → IsCut old new → answers_in old ≤ 297 → answers_in new ≤ 297
cut_few (Answers a) new is few = subst (λ (w : Waiting). answers_in w ≤ 297) (sym is) few
cut_few (Update a) (Answers b) is few = absurd is
cut_few (Update a) (Update b) is few = omega arith
cut_few (Update a) (Shared b) is few = omega arith
cut_few (Shared a) new is few = subst (λ (w : Waiting). answers_in w ≤ 297) (sym is) few

pub cut_kind : (old new : Waiting) → IsCut old new → holds_update new ≡ holds_update old
cut_kind (Answers a) new is = ap (λ (w : Waiting). holds_update w) is
cut_kind (Update a) (Answers b) is = absurd is
cut_kind (Update a) (Update b) is = refl
cut_kind (Update a) (Shared b) is = refl
cut_kind (Shared a) new is = ap (λ (w : Waiting). holds_update w) is

cut_leaves : (old new : Waiting) → IsCut old new → (point : ClientAt) → AnswersFit old point →
    AnswersFit new point
cut_leaves (Answers a) new is point fit = subst (λ (w : Waiting). AnswersFit w point) (sym is) fit
cut_leaves (Update a) (Answers b) is point fit = absurd is
cut_leaves (Update a) (Update b) is point fit = fit
cut_leaves (Update a) (Shared b) is point fit = fit
cut_leaves (Shared a) new is point fit = subst (λ (w : Waiting). AnswersFit w point) (sym is) fit

pub cut_fits : (session : Session) (old new : Waiting) → IsCut old new →
    ∥ HasRoomForAnswers session old ∥₁ → ∥ HasRoomForAnswers session new ∥₁
cut_fits session old new is roomy = fits_instead session old new (cut_leaves old new is) roomy
