-- The three answers of a step of the viewer's end, and what it promises by each.
use Rattle.std.proofs.Common.{◌≡◌, ◌≢◌, ℕ, ◌<◌, ◌≤◌, List, [], ◌++◌, Option, Some, None}
use Rattle.std.proofs.Common.{Result, Ok, Err, length, take, refl, sym, subst, ◌∙◌, ap, append-nil}
use Rattle.rfb_wire.specs.stream.Prefix.{More, Got, Bad}
use Rattle.rfb_wire.specs.stream.End.{IsMachine, RunsOutBy, StepsBy}
use Rattle.rfb_hello.specs.declared.fault.HelloFault.{HelloFault}
use Rattle.rfb_hello.specs.declared.fault.HelloFault.TheVariants.{NoMemory}
use Rattle.rfb_hello.specs.declared.step.ViewerStep.{ViewerStep}
use Rattle.rfb_hello.specs.declared.viewer_hello.ViewerHello.{ViewerHello}
use Rattle.rfb_hello.specs.declared.viewer_hello.progress.Progress.{Progress}
use Rattle.rfb_hello.specs.declared.viewer_hello.progress.Progress.TheVariants.{Failed}
use Rattle.rfb_hello.specs.KeptText.{no_text}
use Rattle.rfb_hello.specs.Offer.{KeepsOffer, TakesOffer}
use Rattle.rfb_hello.specs.ServerHandshake.{ServerPoint, ServerItem, past_server_item}
use Rattle.rfb_hello.specs.ServerItems.{server_item}
use Rattle.rfb_hello.specs.ViewerEnd.{ViewerSetup, viewer_end, viewer_tells, AsksMemory}
use Rattle.rfb_hello.specs.ViewerProgress.{ProgressStandsFor}
use Rattle.rfb_hello.specs.ViewerModel.{KeepsReason, StandsFor, fault_of, goes_on_after, is_open, setup_of}
use Rattle.rfb_hello.specs.pieces.ViewerPiece.{TakesPiece}
use Rattle.rfb_hello.proofs.ServerStreamLaws.{server_handshake_laws}

pub viewer_machine : (setup : ViewerSetup) → IsMachine (viewer_end setup)
viewer_machine setup = record { laws = server_handshake_laws setup.limit setup.max_places; past = λ s i. refl }

-- what an end stands for whose progress is known
here : (setup : ViewerSetup) (old : ViewerHello) (p : Progress) (s : ServerPoint) (prefix : List ℕ) → old.progress ≡ p →
    StandsFor setup old s prefix → ProgressStandsFor setup.text_limit p s prefix
here setup old p s prefix was stands =
    subst (λ (q : Progress). ProgressStandsFor setup.text_limit q s prefix) was stands.progress_is

pub more_step : (setup : ViewerSetup) (old : ViewerHello) (p q : Progress) (unit : List ℕ) → old.progress ≡ p →
    ((s : ServerPoint) (prefix : List ℕ) → ProgressStandsFor setup.text_limit p s prefix →
    (server_item setup.max_places s (prefix ++ unit) ≡ More)
    × ProgressStandsFor setup.text_limit q s (prefix ++ unit)) →
    StepsBy (viewer_end setup) (StandsFor setup) old unit (Ok None) (record old { progress = q })
more_step setup old p q unit was step s prefix stands =
    let h = step s prefix (here setup old p s prefix was stands) in
    rw h.0 (refl, record { setup_is = stands.setup_is; progress_is = h.1 })

pub bad_step : (setup : ViewerSetup) (old new : ViewerHello) (p : Progress) (unit : List ℕ) (fault : HelloFault) →
    old.progress ≡ p →
    ((s : ServerPoint) (prefix : List ℕ) → ProgressStandsFor setup.text_limit p s prefix →
    server_item setup.max_places s (prefix ++ unit) ≡ Bad fault) →
    StepsBy (viewer_end setup) (StandsFor setup) old unit (Err fault) new
bad_step setup old new p unit fault was step s prefix stands =
    rw (step s prefix (here setup old p s prefix was stands)) refl

pub got_new : (setup : ViewerSetup) (old new : ViewerHello) (p q : Progress) (unit : List ℕ)
    (event : Option ViewerStep) →
    old.progress ≡ p → new.progress ≡ q → setup_of new ≡ setup_of old →
    ((s : ServerPoint) (prefix : List ℕ) → setup_of old ≡ setup → ProgressStandsFor setup.text_limit p s prefix →
    (i : ServerItem) × (server_item setup.max_places s (prefix ++ unit) ≡ Got i []) ×
    (viewer_tells setup s i ≡ event) × ProgressStandsFor setup.text_limit q (past_server_item setup.limit s i) []) →
    StepsBy (viewer_end setup) (StandsFor setup) old unit (Ok event) new
got_new setup old new p q unit event was is made step s prefix stands =
    let h = step s prefix stands.setup_is (here setup old p s prefix was stands) in
    rw h.1 (
      refl,
      h.2,
      record {
        setup_is = made ∙ stands.setup_is;
        progress_is =
            subst (λ (x : Progress). ProgressStandsFor setup.text_limit x (past_server_item setup.limit s h.0) [])
            (sym is) h.3;
      },
    )

pub got_step : (setup : ViewerSetup) (old : ViewerHello) (p q : Progress) (unit : List ℕ) (event : Option ViewerStep) →
    old.progress ≡ p →
    ((s : ServerPoint) (prefix : List ℕ) → setup_of old ≡ setup → ProgressStandsFor setup.text_limit p s prefix →
    (i : ServerItem) × (server_item setup.max_places s (prefix ++ unit) ≡ Got i []) ×
    (viewer_tells setup s i ≡ event) × ProgressStandsFor setup.text_limit q (past_server_item setup.limit s i) []) →
    StepsBy (viewer_end setup) (StandsFor setup) old unit (Ok event) (record old { progress = q })
got_step setup old p q unit event was step = got_new setup old (record old { progress = q }) p q unit event was refl
    refl step

pub asks_step : (asks : ServerPoint → List ℕ → Type 0) (setup : ViewerSetup) (old : ViewerHello) (p : Progress)
    (unit : List ℕ) → old.progress ≡ p →
    ((s : ServerPoint) (prefix : List ℕ) → ProgressStandsFor setup.text_limit p s prefix → asks s (prefix ++ unit)) →
    RunsOutBy (viewer_end setup) asks (StandsFor setup) old unit
asks_step asks setup old p unit was asked s prefix stands =
    record {
      items = [];
      front = prefix ++ unit;
      later = [];
      reads = sym (append-nil (prefix ++ unit));
      quiet = refl;
      asked = asked s prefix (here setup old p s prefix was stands);
    }

-- a step to a progress that is equal to another
pub becomes : (setup : ViewerSetup) (old : ViewerHello) (unit : List ℕ)
    (result : Result (Option ViewerStep) HelloFault)
    (p q : Progress) → q ≡ p →
    StepsBy (viewer_end setup) (StandsFor setup) old unit result (record old { progress = p }) →
    StepsBy (viewer_end setup) (StandsFor setup) old unit result (record old { progress = q })
becomes setup old unit result p q is steps =
    subst (λ (x : Progress). StepsBy (viewer_end setup) (StandsFor setup) old unit result
    (record old { progress = x })) (sym is) steps

-- bytes of one piece after a part of it
pub joined : (prefix part unit whole : List ℕ) → prefix ≡ part → whole ≡ part ++ unit → prefix ++ unit ≡ whole
joined prefix part unit whole is whole_is = ap (λ (ys : List ℕ). ys ++ unit) is ∙ sym whole_is

-- ---- what bytes of one item promise

module _ {old new : ViewerHello} {bytes : List ℕ} {used : ℕ} (some : (0 < used) × (used ≤ length bytes)) where
  -- where they are no fault
  pub takes : {event : Option ViewerStep} →
      ((setup : ViewerSetup) → StepsBy (viewer_end setup) (StandsFor setup) old (take used bytes) (Ok event) new) →
      is_open new ≡ goes_on_after event → fault_of new ≡ None → TakesOffer event old (take used bytes) new →
      setup_of new ≡ setup_of old → TakesPiece old bytes used (Ok event) new
  takes steps goes going offered setup = record {
    some = some.0;
    within = some.1;
    steps = λ _. steps;
    memory = λ e. absurd cc;
    goes = goes;
    going = going;
    fails = tt;
    reason = tt;
    offer = tt;
    offered = offered;
    setup = setup;
  }

  -- where they are one
  pub refuses : {result : HelloFault} (fault : HelloFault) → result ≡ fault → fault ≢ NoMemory →
      ((setup : ViewerSetup) → StepsBy (viewer_end setup) (StandsFor setup) old (take used bytes) (Err fault) new) →
      fault_of new ≡ Some fault → KeepsReason fault old (take used bytes) new →
      KeepsOffer fault old (take used bytes) new → setup_of new ≡ setup_of old →
      TakesPiece old bytes used (Err result) new
  refuses fault is other steps fails reason offer setup = rw is (record {
    some = some.0;
    within = some.1;
    steps = λ _. steps;
    memory = λ e. absurd (other cc);
    goes = tt;
    going = tt;
    fails = fails;
    reason = reason;
    offer = offer;
    offered = tt;
    setup = setup;
  })

  -- where memory is wanting
  pub starves : {result : HelloFault} → result ≡ NoMemory → ((setup : ViewerSetup) →
      RunsOutBy (viewer_end setup) (AsksMemory setup) (StandsFor setup) old (take used bytes)) →
      new ≡ record old { progress = Failed NoMemory no_text } → TakesPiece old bytes used (Err result) new
  starves is asks after = rw (is, after) (record {
    some = some.0;
    within = some.1;
    steps = λ other. absurd (other refl);
    memory = λ _. asks;
    goes = tt;
    going = tt;
    fails = refl;
    reason = refl;
    offer = refl;
    offered = tt;
    setup = refl;
  })
