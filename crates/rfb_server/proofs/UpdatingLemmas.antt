-- What composing leaves of what a session stands for, and a server.
use Rattle.std.proofs.Common.{◌≡◌, ◌≢◌, ℕ, Bool, true, false, List, [], ◌++◌, Option, None, Result}
use Rattle.std.proofs.Common.{Ok, Err, IfOk, OnOk}
use Rattle.std.proofs.Common.{OnErr, refl, sym, ap, subst, ◌∙◌, append-nil}
use Rattle.rfb_pixel.specs.declared.colour.Colour.{Colour}
use Rattle.rfb_pixel.specs.Format.{PixelFormat}
use Rattle.rfb_picture.specs.Grid.{Grid}
use Rattle.rfb_picture.specs.Area.{Places}
use Rattle.rfb_wire.specs.declared.encoding.Encoding.{Encoding}
use Rattle.rfb_wire.specs.stream.Sequel.{First, Second}
use Rattle.rfb_hello.specs.declared.server_hello.ServerHello.{ServerHello}
use Rattle.rfb_server.specs.declared.hint.Hint.{Hint}
use Rattle.rfb_server.specs.declared.session.Session.{Session}
use Rattle.rfb_server.specs.declared.server.Server.{Server}
use Rattle.rfb_server.specs.declared.session.input.progress.Progress.{Progress}
use Rattle.rfb_server.specs.declared.session.input.progress.Progress.TheVariants.{Handshake, Head, Encodings, CutText}
use Rattle.rfb_server.specs.declared.session.input.progress.Progress.TheVariants.{Failed}
use Rattle.rfb_server.specs.ClientBytes.{ClientAt}
use Rattle.rfb_server.specs.Server.{Serving, ServerState}
use Rattle.rfb_server.specs.Progress.{ProgressStandsFor, is_ready, fault_in}
use Rattle.rfb_server.specs.Model.{SessionStandsFor, KeepsSession, Draws, with_screen}
use Rattle.rfb_server.specs.session.Sessions.{IsSame}
use Rattle.rfb_server.specs.Composition.{IsDue}
use Rattle.rfb_server.specs.Hints.{hints_in}
use Rattle.rfb_server.specs.update.Sends.{state_of}
use Rattle.rfb_server.specs.update.Composed.{IsAwaited, HasComposed, StaysIdle}
use Rattle.rfb_server.specs.UpdateCall.{HasSent, IsUpdate, SendsUpdate, OwesUpdate, OwesNone, NoneDue}
use Rattle.rfb_server.proofs.KeptLemmas.{setting_back}
use Rattle.rfb_server.proofs.ServerLaws.{session_over, same_notes}

-- a session that is ready is between messages, or in one
pub point_ready : (serving : Serving) (hello : ServerHello) (progress : Progress) (point : ClientAt)
    (prefix : List ℕ) →
    is_ready progress ≡ true → ProgressStandsFor serving hello progress point prefix → point ≡ Second tt
point_ready serving hello Handshake point prefix e stands = absurd cc
point_ready serving hello (Head bytes) (First point) prefix e stands = absurd stands
point_ready serving hello (Head bytes) (Second between) prefix e stands = refl
point_ready serving hello (Encodings left number list) (First point) prefix e stands = absurd stands
point_ready serving hello (Encodings left number list) (Second between) prefix e stands = refl
point_ready serving hello (CutText text_length left kept) (First point) prefix e stands = absurd stands
point_ready serving hello (CutText text_length left kept) (Second between) prefix e stands = refl
point_ready serving hello (Failed fault) point prefix e stands = absurd cc

-- and the other way round
pub ready_point : (serving : Serving) (hello : ServerHello) (progress : Progress) (point : ClientAt)
    (prefix : List ℕ) →
    point ≡ Second tt → ProgressStandsFor serving hello progress point prefix → is_ready progress ≡ true
ready_point serving hello Handshake (First point) prefix e stands = absurd cc
ready_point serving hello Handshake (Second between) prefix e stands = absurd stands
ready_point serving hello (Head bytes) point prefix e stands = refl
ready_point serving hello (Encodings left number list) point prefix e stands = refl
ready_point serving hello (CutText text_length left kept) point prefix e stands = refl
ready_point serving hello (Failed fault) point prefix e stands = absurd stands

-- one that has failed is not ready
pub failed_unready : (progress : Progress) → fault_in progress ≢ None → is_ready progress ≡ false
failed_unready Handshake some = refl
failed_unready (Head bytes) some = absurd (some refl)
failed_unready (Encodings left number list) some = absurd (some refl)
failed_unready (CutText text_length left kept) some = absurd (some refl)
failed_unready (Failed fault) some = refl

abbrev pub state : ClientAt → Grid Colour → Grid (Option ℕ) → Places → PixelFormat → List Encoding →
    ServerState
state point screen known area form encodings =
    record { point = point; screen = screen; known = known; area = area; form = form; encodings = encodings }

pub same_state : (point at : ClientAt) (screen picture : Grid Colour) (known record_now : Grid (Option ℕ))
    (area places : Places) (form format : PixelFormat) (encodings list : List Encoding) →
    point ≡ at → screen ≡ picture → known ≡ record_now → area ≡ places → form ≡ format →
    encodings ≡ list →
    state point screen known area form encodings ≡ state at picture record_now places format list
same_state point at screen picture known record_now area places form format encodings list a b c d e f =
    rw (a, b, c, d, e, f) refl

-- the state that a ready session stands for
pub state_is : (serving : Serving) (screen : Grid Colour) (session : Session) (s : ServerState) (prefix : List ℕ) →
    is_ready session.progress ≡ true → SessionStandsFor serving screen session s prefix →
    s ≡ state_of screen session
state_is serving screen session s prefix ready stands =
    same_state s.point (Second tt) s.screen screen s.known session.known s.area session.area s.form session.format
    s.encodings session.encodings
    (point_ready serving session.hello session.progress s.point prefix ready stands.progress_is) stands.screen_is
    stands.known_is stands.area_is stands.form_is stands.encodings_are

-- a session that is ready, and keeps its handshake and its progress, stands for its own state
pub stands_anew : (serving : Serving) (screen : Grid Colour) (old new : Session) (s : ServerState)
    (prefix : List ℕ) →
    is_ready old.progress ≡ true → new.hello ≡ old.hello → new.progress ≡ old.progress →
    new.text_limit ≡ old.text_limit →
    SessionStandsFor serving screen old s prefix → SessionStandsFor serving screen new (state_of screen new) prefix
stands_anew serving screen old new s prefix ready hello progress limit stands =
    let point = point_ready serving old.hello old.progress s.point prefix ready stands.progress_is in
    record {
      setup_is = rw hello stands.setup_is;
      limit_is = limit ∙ stands.limit_is;
      progress_is = rw (hello, progress) (subst
          (λ (p : ClientAt). ProgressStandsFor serving old.hello old.progress p prefix) point stands.progress_is);
      screen_is = refl;
      known_is = refl;
      area_is = refl;
      form_is = refl;
      encodings_are = refl;
    }

-- one that is the same stands for the same
stands_same : (serving : Serving) (screen : Grid Colour) (old new : Session) (s : ServerState) (prefix : List ℕ) →
    IsSame old new → SessionStandsFor serving screen old s prefix → SessionStandsFor serving screen new s prefix
stands_same serving screen old new s prefix same stands = record {
  setup_is = rw (same.setting.hello) stands.setup_is;
  limit_is = same.setting.text_limit ∙ stands.limit_is;
  progress_is = rw (same.setting.hello, same.setting.progress) stands.progress_is;
  screen_is = stands.screen_is;
  known_is = stands.known_is ∙ sym same.known;
  area_is = stands.area_is ∙ sym same.area;
  form_is = stands.form_is ∙ sym same.setting.format;
  encodings_are = stands.encodings_are ∙ sym same.setting.encodings;
}

-- an update was sent
pub sent_update : (serving : Serving) (s : ServerState) (prefix : List ℕ) (hints : List Hint) (screen : Grid Colour)
    (new : Session) (before after : List ℕ) → IsUpdate s (state_of screen new) hints before after →
    SessionStandsFor serving screen new (state_of screen new) prefix →
    HasSent serving s prefix hints screen new before after
sent_update serving s prefix hints screen new before after update stands = record {
  resulting = state_of screen new;
  update = update;
  stands = stands;
}

-- a session that has composed has sent an update
pub sends : (screen : Grid Colour) (old new : Session) (before after : List ℕ) →
    HasComposed screen old new before after → SendsUpdate screen old new before after
sends screen old new before after done = record {
  fault_is = ap fault_in done.progress;
  made_is = rw (done.hello, done.text_limit) refl;
  sent = λ serving s prefix stands.
      sent_update serving s prefix (hints_in old) screen new before after
      (subst (λ (t : ServerState). IsUpdate t (state_of screen new) (hints_in old) before after)
      (sym (state_is serving screen old s prefix done.ready stands)) done.update)
      (stands_anew serving screen old new s prefix done.ready done.hello done.progress done.text_limit stands);
}

-- one that is the same but for marks and hints is as it was
pub keeps_session : (old new : Session) → IsSame old new → KeepsSession old new
keeps_session old new same = record {
  fault_is = ap fault_in same.setting.progress;
  made_is = rw (same.setting.hello, same.setting.text_limit) refl;
  notes_are = same_notes new.known old.known new.area old.area new.format old.format new.encodings old.encodings
      same.known same.area same.setting.format same.setting.encodings;
  stands = λ serving screen s prefix stands. stands_same serving screen old new s prefix same stands;
}

same_back : (old new : Session) → IsSame old new → IsSame new old
same_back old new same = record {
  setting = setting_back old new same.setting;
  known = sym same.known;
  area = sym same.area;
}

idle_none : (screen : Grid Colour) (old new : Session) (before after : List ℕ) →
    StaysIdle screen old new before after → NoneDue screen old
idle_none screen old new before after idle = λ serving s prefix stands due.
    let ready = ready_point serving old.hello old.progress s.point prefix due.ready stands.progress_is in
    idle.not_due ready (subst (λ (t : ServerState). IsDue t) (state_is serving screen old s prefix ready stands) due)

-- so is one that stays idle
pub owes_none : (screen : Grid Colour) (old new : Session) (before after : List ℕ) →
    StaysIdle screen old new before after → OwesNone screen old new before after
owes_none screen old new before after idle = record {
  appended = idle.appended;
  kept = keeps_session old new idle.same;
  not_due = idle_none screen old new before after idle;
  still = λ serving s prefix stands.
      idle_none screen old new before after idle serving s prefix
      (stands_same serving screen new old s prefix (same_back old new idle.same) stands);
}

-- an update that is awaited is owed
pub owes : (screen : Grid Colour) (old : Session) → IsAwaited screen old → OwesUpdate screen old
owes screen old awaited = λ serving s prefix stands.
    subst (λ (t : ServerState). IsDue t) (sym (state_is serving screen old s prefix awaited.ready stands)) awaited.due

-- ---- a server

-- a server whose session is as it was has the new screen, and else nothing new
pub draws : (screen : Grid Colour) (old new : Server) → new.screen ≡ screen →
    KeepsSession old.session new.session → new.taken ≡ old.taken → Draws screen old new
draws screen old new e kept count = record {
  screen_is = e;
  fault_is = kept.fault_is;
  notes_are = kept.notes_are;
  taken_is = count;
  stands = λ serving s prefix stands.
      subst (λ (g : Grid Colour). SessionStandsFor serving g new.session (with_screen screen s) prefix) (sym e)
      (session_over serving old.screen screen new.session s prefix (kept.stands serving old.screen s prefix stands));
}

-- whether a call was taken or not
pub in_any : {A E : Type 0} (X : Type 0) (result : Result A E) → X → OnOk result X
in_any X (Ok value) x = x
in_any X (Err error) x = tt

-- a call that keeps all leaves what a drawing left
pub then_kept : {A E : Type 0} (result : Result A E) (screen : Grid Colour) (old mid new : Server) →
    Draws screen old mid → OnOk result (Draws mid.screen mid new) → OnOk result (Draws screen old new)
then_kept (Ok value) screen old mid new drawn kept = record {
  screen_is = kept.screen_is ∙ drawn.screen_is;
  fault_is = kept.fault_is ∙ drawn.fault_is;
  notes_are = kept.notes_are ∙ drawn.notes_are;
  taken_is = kept.taken_is ∙ drawn.taken_is;
  stands = λ serving s prefix stands.
      subst (λ (g : Grid Colour). SessionStandsFor serving new.screen new.session (with_screen g s) prefix)
      drawn.screen_is
      (kept.stands serving (with_screen screen s) prefix (drawn.stands serving s prefix stands));
}
then_kept (Err error) screen old mid new drawn kept = tt

-- whatever it answers, bytes were appended, if only none
pub appends : {E : Type 0} (screen : Grid Colour) (old new : Session) (before after : List ℕ)
    (result : Result Bool E) →
    IfOk result (λ did. did ≡ true → HasComposed screen old new before after) →
    IfOk result (λ did. did ≡ false → StaysIdle screen old new before after) →
    OnErr result (after ≡ before) → (bytes : List ℕ) × (after ≡ before ++ bytes)
appends screen old new before after (Ok true) composed idle kept =
    ((composed refl).update.bytes, (composed refl).update.appended)
appends screen old new before after (Ok false) composed idle kept =
    ([], (idle refl).appended ∙ sym (append-nil before))
appends screen old new before after (Err error) composed idle kept = ([], kept ∙ sym (append-nil before))
