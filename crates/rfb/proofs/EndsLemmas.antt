-- What an event does to both ends, from what the calls and the queues promise.
use Rattle.std.proofs.Common.{◌≡◌, ◌≢◌, ◌⊎◌, inl, inr, ◌↔◌, ℕ, true, false, List, ◌++◌, Option, None, Some, Result, Ok}
use Rattle.std.proofs.Common.{Err, IsErr, IfOk, IfErr, OnOk, OnErr, refl, sym, ap, ◌∙◌}
use Rattle.rfb_pixel.specs.declared.colour.Colour.{Colour}
use Rattle.rfb_picture.specs.Grid.{Grid}
use Rattle.rfb_server.specs.declared.fault.Outside.{Outside as OutsideFault}
use Rattle.rfb_server.specs.declared.hint.Hint.{Hint}
use Rattle.rfb_server.specs.declared.server.Server.{Server}
use Rattle.rfb_server.specs.Hints.{hints_of}
use Rattle.rfb_server.specs.Model.{Draws}
use Rattle.rfb_viewer.specs.declared.fault.CallFault.{CallFault}
use Rattle.rfb_viewer.specs.declared.fault.CallFault.TheVariants.{NotReady as CallNotReady}
use Rattle.rfb_viewer.specs.declared.fault.CallFault.TheVariants.{Busy as CallBusy, AreaOutside as CallOutside}
use Rattle.rfb_viewer.specs.declared.viewer.Viewer.{Viewer}
use Rattle.rfb_viewer.specs.Calls.{refusal_of}
use Rattle.rfb_viewer.specs.Model.{StandsFor, fault_of as viewer_fault, picture_of}
use Rattle.rfb_viewer.specs.Viewer.{Viewing, ViewerState}
use Rattle.rfb_session.specs.declared.told.Refused.{Refused}
use Rattle.rfb_session.specs.declared.told.Refused.TheVariants.{NotReady}
use Rattle.rfb_session.specs.Told.{RefusesUnless, refused_as, refused_by}
use Rattle.rfb.specs.declared.fault.Fault.{Fault}
use Rattle.rfb.specs.declared.loopback.ends.Ends.{Ends}
use Rattle.rfb.specs.Loopback.{Accepts, Becomes, DrawsOn, Sends}

-- ---- what is said of each outcome

-- what holds at all times holds on `Ok`
pub always_ok : {A E : Type 0} (r : Result A E) (P : Type 0) → P → OnOk r P
always_ok (Ok done) P holds = holds
always_ok (Err fault) P holds = tt

-- and on `Err`
pub always_err : {A E : Type 0} (r : Result A E) (P : Type 0) → P → OnErr r P
always_err (Ok done) P holds = tt
always_err (Err fault) P holds = holds

-- two facts of one value
pub both_ok : {A E : Type 0} (r : Result A E) (P Q : A → Type 0) → IfOk r P → IfOk r Q →
    IfOk r (λ a. P a × Q a)
both_ok (Ok done) P Q first second = (first, second)
both_ok (Err fault) P Q first second = tt

-- ---- drawings

not_err : false ≡ true → ⊥
not_err e = cc

-- a drawing or a hint, from what the server promises of it
pub draws_on : (Inside : Type 0) (screen : Grid Colour) (hints : List Hint) (old new : Ends)
    (result : Result (Unit {0}) OutsideFault) (refused : Option Refused) →
    Inside ⊎ (Inside → ⊥) → (IsErr result ↔ (Inside → ⊥)) →
    OnErr result (new.server ≡ old.server) → OnOk result (Draws screen old.server new.server) →
    OnOk result (hints_of new.server ≡ hints) → refused ≡ refused_by result →
    new ≡ record old { server = new.server } → DrawsOn Inside screen hints old refused new
draws_on Inside screen hints old new (Err fault) refused whether iff kept draws hinted told others =
    record {
      refusal = inr (iff.0 refl, told);
      kept = λ some. others ∙ ap (λ (s : Server). record old { server = s }) kept;
      drawn = λ none. absurd cc;
      hinted = λ none. absurd cc;
      others = others;
    }
draws_on Inside screen hints old new (Ok done) refused whether iff kept draws hinted told others =
    record {
      refusal = by whether;
      kept = λ some. absurd (some told);
      drawn = λ none. draws;
      hinted = λ none. hinted;
      others = others;
    }
  where
    by : Inside ⊎ (Inside → ⊥) → RefusesUnless Inside refused
    by (inl inside) = inl (inside, told)
    by (inr outside) = absurd (not_err (iff.1 outside))

-- ---- calls

-- what a call of the viewer's promises: its message, when it is refused, and that nothing has
-- changed then
pub record IsCall {A : Type 0} (items : A → List ℕ)
    (refusal_in : ViewerState → List ℕ → Option CallFault) (message : List ℕ) (old new : Viewer)
    (called : Result A CallFault) : Type 0 where
  pub sent : IfOk called (λ bytes. items bytes ≡ message)
  pub refusal : (viewing : Viewing) (s : ViewerState) (prefix : List ℕ) →
      StandsFor viewing old s prefix → refusal_of called ≡ refusal_in s prefix
  pub failed : viewer_fault old ≢ None → called ≡ Err CallNotReady
  pub kept : OnErr called (new ≡ old)

-- what was done with it: its message is in flight, or its refusal was answered
pub record IsSent {A : Type 0} (items : A → List ℕ) (called : Result A CallFault)
    (answer : Result (Option Refused) Fault) (before after : List ℕ) : Type 0 where
  pub taken : IfOk called (λ message. IfOk answer (λ refused. refused ≡ None))
  pub sent : IfOk called (λ message. OnOk answer (after ≡ before ++ items message))
  pub refused : IfErr called (λ fault. answer ≡ Ok (refused_as (Some fault)))

answer_in : (answer : Result (Option Refused) Fault) (refused other : Option Refused) →
    answer ≡ Ok refused → answer ≡ Ok other → refused ≡ other
answer_in answer refused other is e = cc

is_refused : (fault : CallFault) → refused_as (Some fault) ≡ None → ⊥
is_refused CallNotReady none = absurd cc
is_refused CallBusy none = absurd cc
is_refused CallOutside none = absurd cc

pub sends : {A : Type 0} (items : A → List ℕ)
    (refusal_in : ViewerState → List ℕ → Option CallFault) (message : List ℕ) (old new : Ends)
    (called : Result A CallFault) (answer : Result (Option Refused) Fault) →
    IsCall items refusal_in message old.viewer new.viewer called →
    IsSent items called answer old.to_server.items new.to_server.items →
    OnErr called (new.to_server ≡ old.to_server) →
    new ≡ record old { viewer = new.viewer; to_server = new.to_server } →
    IfOk answer (λ refused. Sends refusal_in message old refused new)
sends items refusal_in message old new called (Err fault) call sent kept others = tt
sends items refusal_in message old new (Ok bytes) (Ok refused) call sent kept others =
    record {
      refusal = λ viewing s prefix stands.
          sent.taken ∙ ap (λ o. refused_as o) (call.refusal viewing s prefix stands);
      failed = λ fails. let never : Ok bytes ≡ Err CallNotReady = call.failed fails in absurd cc;
      kept = λ some. absurd (some sent.taken);
      sent = λ none. sent.sent ∙ ap (λ (b : List ℕ). old.to_server.items ++ b) call.sent;
      others = others;
    }
sends {A = A} items refusal_in message old new (Err fault) (Ok refused) call sent kept others =
    let told = answer_in (Ok refused) refused (refused_as (Some fault)) refl sent.refused in
    record {
      refusal = λ viewing s prefix stands.
          told ∙ ap (λ o. refused_as o) (call.refusal viewing s prefix stands);
      failed =
          λ fails. told ∙ ap (λ o. refused_as o) (ap (λ (r : Result A CallFault). refusal_of r) (call.failed fails));
      kept = λ some. others
          ∙ ap (λ (v : Viewer). record old { viewer = v; to_server = new.to_server }) call.kept
          ∙ ap (λ q. record old { to_server = q }) kept;
      sent = λ none. absurd (is_refused fault (sym told ∙ none));
      others = others;
    }

-- what became of the viewer
pub becomes : {A : Type 0} (state : ViewerState → ViewerState) (old new : Viewer)
    (called : Result A CallFault) (answer : Result (Option Refused) Fault) →
    IfOk called (λ bytes. (viewing : Viewing) (s : ViewerState) (prefix : List ℕ) →
    StandsFor viewing old s prefix → StandsFor viewing new (state s) prefix) →
    picture_of new ≡ picture_of old →
    IfErr called (λ fault. answer ≡ Ok (refused_as (Some fault))) →
    IfOk answer (λ refused. Becomes state old refused new)
becomes state old new called (Err fault) stands picture refused = tt
becomes state old new (Ok bytes) (Ok refused) stands picture told =
    record { stands = λ none. stands; picture = picture }
becomes state old new (Err fault) (Ok refused) stands picture told =
    let is = answer_in (Ok refused) refused (refused_as (Some fault)) refl told in
    record { stands = λ none. absurd (is_refused fault (sym is ∙ none)); picture = picture }

module _ {A : Type 0} (items : A → List ℕ) (refusal_in : ViewerState → List ℕ → Option CallFault)
    (message : List ℕ) (old new : Ends) (called : Result A CallFault) (answer : Result (Option Refused) Fault)
    (call : IsCall items refusal_in message old.viewer new.viewer called)
    (sent : IsSent items called answer old.to_server.items new.to_server.items)
    (kept : OnErr called (new.to_server ≡ old.to_server))
    (others : new ≡ record old { viewer = new.viewer; to_server = new.to_server }) where
  -- a call that may change the viewer
  pub call_taken : (state : ViewerState → ViewerState) →
      IfOk called (λ bytes. (viewing : Viewing) (s : ViewerState) (prefix : List ℕ) →
      StandsFor viewing old.viewer s prefix → StandsFor viewing new.viewer (state s) prefix) →
      picture_of new.viewer ≡ picture_of old.viewer →
      IfOk answer (λ refused. Sends refusal_in message old refused new
      × Becomes state old.viewer refused new.viewer)
  call_taken state stands picture =
      both_ok answer (λ refused. Sends refusal_in message old refused new)
      (λ refused. Becomes state old.viewer refused new.viewer)
      (sends items refusal_in message old new called answer call sent kept others)
      (becomes state old.viewer new.viewer called answer stands picture sent.refused)

  -- a call that leaves the viewer as it was
  pub message_taken : new.viewer ≡ old.viewer →
      IfOk answer (λ refused. Sends refusal_in message old refused new × (new.viewer ≡ old.viewer))
  message_taken same =
      both_ok answer (λ refused. Sends refusal_in message old refused new)
      (λ refused. new.viewer ≡ old.viewer)
      (sends items refusal_in message old new called answer call sent kept others)
      (always_ok answer (new.viewer ≡ old.viewer) same)

not_ok : {A E : Type 0} (r : Result A E) (a : A) (e : E) → r ≡ Ok a → r ≡ Err e → ⊥
not_ok r a e is other = cc

-- an error comes only of a call that is not refused
pub asks : {A : Type 0} (refusal_in : ViewerState → List ℕ → Option CallFault) (old : Viewer)
    (called : Result A CallFault) (answer : Result (Option Refused) Fault) →
    ((viewing : Viewing) (s : ViewerState) (prefix : List ℕ) →
    StandsFor viewing old s prefix → refusal_of called ≡ refusal_in s prefix) →
    (viewer_fault old ≢ None → called ≡ Err CallNotReady) →
    IfErr called (λ fault. answer ≡ Ok (refused_as (Some fault))) →
    OnErr answer (Accepts refusal_in old)
asks refusal_in old called (Ok refused) refusal failed told = tt
asks refusal_in old (Ok bytes) (Err want) refusal failed told = record {
  taken = λ viewing s prefix stands. sym (refusal viewing s prefix stands);
  goes_on = λ fails. not_ok (Ok bytes) bytes CallNotReady refl (failed fails);
}
asks refusal_in old (Err fault) (Err want) refusal failed told =
    absurd (not_ok (Err want) (refused_as (Some fault)) want told refl)

-- the same of a text
pub text_asks : (refusal_in : ViewerState → List ℕ → Option CallFault) (old : Viewer)
    (answer : Result (Option Refused) Fault) →
    (viewer_fault old ≢ None → answer ≡ Ok (Some NotReady)) →
    OnErr answer ((viewing : Viewing) (s : ViewerState) (prefix : List ℕ) →
    StandsFor viewing old s prefix → refusal_in s prefix ≡ None) →
    OnErr answer (Accepts refusal_in old)
text_asks refusal_in old (Ok refused) failed taken = tt
text_asks refusal_in old (Err want) failed taken = record {
  taken = taken;
  goes_on = λ fails. not_ok (Err want) (Some NotReady) want (failed fails) refl;
}

-- a text that is cut
pub text_sends : (refusal_in : ViewerState → List ℕ → Option CallFault) (message : List ℕ)
    (old new : Ends) (answer : Result (Option Refused) Fault) →
    IfOk answer (λ refused. (viewing : Viewing) (s : ViewerState) (prefix : List ℕ) →
    StandsFor viewing old.viewer s prefix → refused ≡ refused_as (refusal_in s prefix)) →
    (viewer_fault old.viewer ≢ None → answer ≡ Ok (Some NotReady)) →
    IfOk answer (λ refused. refused ≢ None → new.to_server ≡ old.to_server) →
    IfOk answer (λ refused. refused ≡ None →
    new.to_server.items ≡ old.to_server.items ++ message) →
    new.viewer ≡ old.viewer →
    new ≡ record old { viewer = new.viewer; to_server = new.to_server } →
    IfOk answer (λ refused. Sends refusal_in message old refused new × (new.viewer ≡ old.viewer))
text_sends refusal_in message old new (Err fault) refusal failed kept sent same others = tt
text_sends refusal_in message old new (Ok refused) refusal failed kept sent same others = (
  record {
    refusal = refusal;
    failed = λ fails. answer_in (Ok refused) refused (Some NotReady) refl (failed fails);
    kept = λ some. others
        ∙ ap (λ (v : Viewer). record old { viewer = v; to_server = new.to_server }) same
        ∙ ap (λ q. record old { to_server = q }) (kept some);
    sent = sent;
    others = others;
  },
  same,
)
