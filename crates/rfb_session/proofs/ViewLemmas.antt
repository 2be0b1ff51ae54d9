-- What an engine does with a viewer that it asks for updates, call by call.
use Rattle.std.proofs.Common.{◌≡◌, ℕ, zero, suc, ◌+◌, ◌<◌, Bool, true, List, [], ◌∷◌, ◌++◌, Option, Some, None, IfSome}
use Rattle.std.proofs.Common.{Result, Ok, Err, OnOk, OnErr, take, drop, refl, sym, ap, ◌∙◌, subst, append-nil}
use Rattle.std.proofs.Common.{take-append-drop, inl, inr, arith}
use Rattle.std.specs.Io.KnownBytes.{Appends}
use Rattle.std.proofs.KnownBytes.{Appends-nil}
use Rattle.rfb_pixel.specs.declared.colour.Colour.{Colour}
use Rattle.rfb_picture.specs.Grid.{Grid}
use Rattle.rfb_picture.specs.declared.rect.Rect.{Rect}
use Rattle.rfb_viewer.specs.declared.fault.CallFault.{CallFault}
use Rattle.rfb_viewer.specs.Calls.{request_refusal, requested}
use Rattle.rfb_viewer.specs.Messages.{request_message}
use Rattle.rfb_viewer.specs.ShownPieces.{Shows}
use Rattle.rfb_viewer.specs.declared.viewer.Viewer.{Viewer}
use Rattle.rfb_viewer.specs.Told.{ViewerTold}
use Rattle.rfb_viewer.specs.Viewer.{Viewing, ViewerState}
use Rattle.rfb_viewer.specs.Model.{StandsFor}
use Rattle.rfb_session.specs.Devices.{AppendsBeginning}
use Rattle.rfb_session.specs.InFlight.{viewer_reply}
use Rattle.rfb_session.specs.EngineRun.{Step, Fed, Did}
use Rattle.rfb_session.specs.ViewerActs.{ViewerAct, Asked, PassedOver, whole_area, viewer_driven, ends_told, WasFed}
use Rattle.rfb_session.specs.ViewEngine.{due_after, due, AsksInTurn, RunsInTurn, KeepsLast}
use Rattle.rfb_session.specs.EngineRead.{AsksForScreen, HasAsked, IsCutInAsking, due_until, IsAnswered, IsCutInAnswer}
use Rattle.rfb_session.specs.EngineRead.{Looks, IsLookCutOff}
use Rattle.rfb_session.specs.Wire.{Writing}
use Rattle.rfb_session.proofs.WrittenLemmas.{whole_beginning}
use Rattle.rfb_session.proofs.EngineRunLemmas.{joined, ran_fed, ran_none}
use Rattle.rfb_session.proofs.PlaySomeLemmas.{is_end}
use Rattle.rfb_session.proofs.ShownLemmas.{shown_whole}
use Rattle.rfb_session.proofs.WireLemmas.{Joins}

-- ---- runs with requests in turn

due_append : (before more : List (Step ViewerTold ViewerAct)) → due before ≡ None →
    due (more ++ before) ≡ due more
due_append before [] none = none
due_append before (Fed bytes event ∷ more) none = refl
due_append before (Did act ∷ more) none = refl

turn_append : (before more : List (Step ViewerTold ViewerAct)) → AsksInTurn before →
    due before ≡ None → AsksInTurn more → AsksInTurn (more ++ before)
turn_append before [] turn none more_turn = turn
turn_append before (Fed bytes event ∷ more) turn none more_turn =
    (turn_append before more turn none more_turn.0, due_append before more none ∙ more_turn.1)
turn_append before (Did act ∷ more) turn none more_turn =
    (turn_append before more turn none more_turn.0, due_append before more none ∙ more_turn.1)

pub turn_none : (now : Viewer) → RunsInTurn now [] [] 0 None now
unfolding ran_none
turn_none now = λ viewing s prefix stands. (ran_none viewer_driven now viewing s prefix stands, tt, refl)

pub turn_then : (old mid new : Viewer) (fed sent more_fed more_sent : List ℕ) (n m : ℕ)
    (asks : Option Bool) → RunsInTurn old fed sent n None mid →
    RunsInTurn mid more_fed more_sent m asks new →
    RunsInTurn old (fed ++ more_fed) (sent ++ more_sent) (n + m) asks new
turn_then old mid new fed sent more_fed more_sent n m asks one two = λ viewing s prefix stands.
    let a = one viewing s prefix stands in
    let b = two viewing a.0.state a.0.rest a.0.stands in (
      joined viewer_driven viewing s prefix mid new fed sent more_fed more_sent
          (fed ++ more_fed) (sent ++ more_sent) n m (n + m) refl refl refl a.0 b.0,
      turn_append a.0.steps b.0.steps a.1 a.2 b.1,
      due_append a.0.steps b.0.steps a.2 ∙ b.2,
    )

-- a call
pub fed_turn : (first old : Viewer) (bytes : List ℕ) (event : Option ViewerTold) →
    WasFed first bytes event old →
    RunsInTurn first bytes (viewer_reply event) (ends_told event) (due_after event) old
unfolding ran_fed
fed_turn first old bytes event fed = λ viewing s prefix stands. (
  ran_fed viewer_driven first old bytes event fed viewing s prefix stands,
  (tt, refl),
  refl,
)

rest_none : (event : Option ViewerTold) (incremental : Bool) (rest : List ℕ) →
    due_after event ≡ Some incremental → IfSome event (λ _. rest ≡ []) → rest ≡ []
rest_none None incremental rest is whole = absurd cc
rest_none (Some told) incremental rest is whole = whole

and_none : (n : ℕ) → n ≡ 0 + n + 0
and_none n = omega arith

-- a call, and the request that is due after it
asked_turn : (first old new : Viewer) (bytes sent : List ℕ) (event : Option ViewerTold)
    (incremental : Bool) → WasFed first bytes event old → due_after event ≡ Some incremental →
    AsksForScreen incremental old sent new →
    RunsInTurn first bytes (viewer_reply event ++ sent) (ends_told event) None new
asked_turn first old new bytes sent event incremental fed is asks = λ viewing s prefix stands.
    let one = fed viewing s prefix stands in
    let bare : one.1 ≡ [] = rest_none event incremental one.1 is one.3.whole in
    let two = asks.asked viewing one.0
    (subst (λ (l : List ℕ). StandsFor viewing old one.0 l) bare one.2) in (
      record {
        steps = Did asks.act ∷ Fed bytes event ∷ [];
        state = two.0;
        rest = [];
        runs = (one.0, one.1, (s, prefix, (refl, refl), one.3), (two.1, sym bare));
        stands = two.2;
        fed_is = sym (append-nil bytes);
        sent_is = ap (λ (l : List ℕ). viewer_reply event ++ l) asks.sent_is;
        updates_are = and_none (ends_told event);
      },
      ((tt, refl), is ∙ sym (ap (λ (b : Bool). Some b) asks.kind)),
      refl,
    )

-- ---- what is due

due_at_end : (event : Option ViewerTold) → 0 < ends_told event → due_after event ≡ Some true
due_at_end event some = ap (λ (e : Option ViewerTold). due_after e) (is_end event some)

pub until_some : (n : ℕ) → 0 < n → due_until n ≡ None
until_some zero some = absurd (omega (arith, some))
until_some (suc n) some = refl

-- ---- requests

-- between two items what is stored is the picture
pub area_shown : (s : ViewerState) (stored : Option (Grid Colour)) → Shows s [] stored →
    whole_area stored ≡ whole_area s.picture
area_shown s stored shows =
    ap (λ (p : Option (Grid Colour)). whole_area p) (shown_whole s.point s.picture stored shows)

-- one that the viewer accepts
pub asks_screen : (incremental : Bool) (area : Rect) (old new : Viewer) (sent : List ℕ) →
    sent ≡ request_message incremental area →
    ((viewing : Viewing) (s : ViewerState) → StandsFor viewing old s [] →
    area ≡ whole_area s.picture) →
    ((viewing : Viewing) (s : ViewerState) (prefix : List ℕ) → StandsFor viewing old s prefix →
    None ≡ request_refusal s area) →
    ((viewing : Viewing) (s : ViewerState) (prefix : List ℕ) → StandsFor viewing old s prefix →
    StandsFor viewing new (requested s) prefix) → AsksForScreen incremental old sent new
asks_screen incremental area old new sent is whole accepted stands = record {
  act = Asked incremental area;
  kind = refl;
  sent_is = is;
  asked = λ viewing s was. (
    requested s,
    (whole viewing s was, sym (accepted viewing s [] was), refl),
    stands viewing s [] was,
  );
}

-- one that it refuses
pub passes_over : (incremental : Bool) (area : Rect) (old new : Viewer) (fault : CallFault) →
    ((viewing : Viewing) (s : ViewerState) → StandsFor viewing old s [] →
    area ≡ whole_area s.picture) →
    ((viewing : Viewing) (s : ViewerState) (prefix : List ℕ) → StandsFor viewing old s prefix →
    Some fault ≡ request_refusal s area) → new ≡ old → AsksForScreen incremental old [] new
passes_over incremental area old new fault whole refused same = record {
  act = PassedOver incremental;
  kind = refl;
  sent_is = refl;
  asked = λ viewing s was.
      let is : Some fault ≡ request_refusal s (whole_area s.picture) =
      refused viewing s [] was ∙ ap (λ (a : Rect). request_refusal s a) (whole viewing s was) in (
        s,
        ((λ none. some_is_none fault (is ∙ none)), refl),
        subst (λ (v : Viewer). StandsFor viewing v s []) (sym same) was,
      );
}
  where
    some_is_none : (f : CallFault) → Some f ≡ None → ⊥
    some_is_none f e = absurd cc

-- ---- answers

turn_as : (old new : Viewer) (fed sent : List ℕ) (n : ℕ) (one two : Option Bool) → one ≡ two →
    RunsInTurn old fed sent n one new → RunsInTurn old fed sent n two new
turn_as old new fed sent n one two is runs =
    subst (λ (asks : Option Bool). RunsInTurn old fed sent n asks new) is runs

-- however bytes are written
module _ {D : Type 0} (writing : Writing D) (joins : Joins writing) where
  -- the last update that is looked for has ended
  pub answer_ends : (old : Viewer) (event : Option ViewerTold) (left : ℕ)
      (before after : D) (reply : List ℕ) → reply ≡ viewer_reply event →
      writing.all before after reply → 0 < left → left ≡ ends_told event + 0 →
      IsAnswered writing old event left 0 before after old
  answer_ends old event left before after reply is wrote some counted = record {
    sent = viewer_reply event;
    counted = counted;
    runs = λ first bytes fed. turn_as first old bytes (viewer_reply event) (ends_told event)
        (due_after event) (Some true) (due_at_end event (omega (arith, some, counted)))
        (fed_turn first old bytes event fed);
    wrote = subst (λ (l : List ℕ). writing.all before after l) is wrote;
  }

  -- no request is due
  pub answer_rests : (old : Viewer) (event : Option ViewerTold) (left fewer : ℕ)
      (before after : D) (reply : List ℕ) → reply ≡ viewer_reply event →
      writing.all before after reply → due_after event ≡ None → 0 < fewer →
      left ≡ ends_told event + fewer → IsAnswered writing old event left fewer before after old
  answer_rests old event left fewer before after reply is wrote none some counted = record {
    sent = viewer_reply event;
    counted = counted;
    runs = λ first bytes fed. turn_as first old bytes (viewer_reply event) (ends_told event)
        (due_after event) (due_until fewer) (none ∙ sym (until_some fewer some))
        (fed_turn first old bytes event fed);
    wrote = subst (λ (l : List ℕ). writing.all before after l) is wrote;
  }

  -- one was due and made
  pub answer_asks : (old new : Viewer) (event : Option ViewerTold) (incremental : Bool)
      (left fewer : ℕ) (before mid after : D) (reply : List ℕ) →
      reply ≡ viewer_reply event → writing.all before mid reply → due_after event ≡ Some incremental →
      HasAsked writing incremental old mid after new → 0 < fewer → left ≡ ends_told event + fewer →
      IsAnswered writing old event left fewer before after new
  answer_asks old new event incremental left fewer before mid after reply is wrote due_is asked some counted = record {
    sent = viewer_reply event ++ asked.sent;
    counted = counted;
    runs = λ first bytes fed. turn_as first new bytes (viewer_reply event ++ asked.sent)
        (ends_told event) None (due_until fewer) (sym (until_some fewer some))
        (asked_turn first old new bytes asked.sent event incremental fed due_is asked.asks);
    wrote = joins.then before mid after (viewer_reply event) asked.sent
        (subst (λ (l : List ℕ). writing.all before mid l) is wrote) asked.wrote;
  }

  -- the answer was not written whole
  pub answer_cut : (old : Viewer) (event : Option ViewerTold) (before after : D)
      (reply : List ℕ) → reply ≡ viewer_reply event → writing.some before after reply →
      IsCutInAnswer writing old event before after old
  answer_cut old event before after reply is begun = record {
    sent = viewer_reply event;
    asks = due_after event;
    runs = λ first bytes fed. fed_turn first old bytes event fed;
    wrote = subst (λ (l : List ℕ). writing.some before after l) is begun;
  }

  -- or the request was not
  pub request_cut : (old new : Viewer) (event : Option ViewerTold) (incremental : Bool)
      (before mid after : D) (reply : List ℕ) → reply ≡ viewer_reply event →
      writing.all before mid reply → due_after event ≡ Some incremental →
      IsCutInAsking writing incremental old mid after new → IsCutInAnswer writing old event before after new
  request_cut old new event incremental before mid after reply is wrote due_is asked = record {
    sent = viewer_reply event ++ asked.sent;
    asks = None;
    runs = λ first bytes fed.
        asked_turn first old new bytes asked.sent event incremental fed due_is asked.asks;
    wrote = joins.stops before mid after (viewer_reply event) asked.sent
        (subst (λ (l : List ℕ). writing.all before mid l) is wrote) asked.wrote;
  }

  pub call_looks : (old mid new : Viewer) (bytes : List ℕ) (event : Option ViewerTold) (left fewer : ℕ)
      (before after : D) (blank copied : Option (List ℕ)) → WasFed old bytes event mid →
      Appends blank copied bytes → IsAnswered writing mid event left fewer before after new →
      Looks writing old bytes left fewer before after blank copied new
  call_looks old mid new bytes event left fewer before after blank copied fed kept answered = record {
    sent = answered.sent;
    updates = ends_told event;
    counted = answered.counted;
    runs = answered.runs old bytes fed;
    wrote = answered.wrote;
    kept = kept;
  }

  pub call_unanswered : (old mid new : Viewer) (bytes : List ℕ) (used : ℕ) (event : Option ViewerTold)
      (before after : D) (blank copied : Option (List ℕ)) → WasFed old (take used bytes) event mid →
      Appends blank copied (take used bytes) → IsCutInAnswer writing mid event before after new →
      IsLookCutOff writing old bytes before after blank copied new
  call_unanswered old mid new bytes used event before after blank copied fed kept cut = record {
    fed = take used bytes;
    later = drop used bytes;
    sent = cut.sent;
    updates = ends_told event;
    asks = cut.asks;
    bytes_are = sym (take-append-drop used bytes);
    runs = cut.runs old (take used bytes) fed;
    wrote = cut.wrote;
    kept = whole_beginning blank copied (take used bytes) kept;
    first = inl kept;
  }

  pub call_unkept : (old mid : Viewer) (bytes : List ℕ) (used : ℕ) (event : Option ViewerTold)
      (before : D) (blank copied : Option (List ℕ)) → WasFed old (take used bytes) event mid →
      AppendsBeginning blank copied (take used bytes) →
      IsLookCutOff writing old bytes before before blank copied mid
  call_unkept old mid bytes used event before blank copied fed kept = record {
    fed = take used bytes;
    later = drop used bytes;
    sent = viewer_reply event;
    updates = ends_told event;
    asks = due_after event;
    bytes_are = sym (take-append-drop used bytes);
    runs = fed_turn old mid (take used bytes) event fed;
    wrote = joins.nothing before (viewer_reply event);
    kept = kept;
    first = inr (record {
      earlier = [];
      part = take used bytes;
      sent = [];
      updates = 0;
      last = old;
      mid = blank;
      fed_is = refl;
      runs = turn_none old;
      wrote = joins.none before;
      kept = Appends-nil blank;
      begun = kept;
    });
  }

same_sum : (w a b : ℕ) → b ≡ a → w + b ≡ w + a
same_sum w a b is = omega (arith, is)

one_more_sum : (w a b : ℕ) → b ≡ a + 1 → w + b ≡ w + a + 1
one_more_sum w a b is = omega (arith, is)

-- the bytes that a viewer ended at, beside another writer that has failed so often
pub kept_last : {A E : Type 0} (r : Result A E) (old new : Option (List ℕ)) (bytes : List ℕ)
    (others failing failed : ℕ) → OnOk r (Appends old new bytes) → OnErr r (AppendsBeginning old new bytes) →
    OnOk r (failed ≡ failing) → OnErr r (failed ≡ failing + 1) →
    KeepsLast old new bytes (others + failing) (others + failed)
kept_last (Ok a) old new bytes others failing failed done stopped none one =
    inl (same_sum others failing failed none, done)
kept_last (Err e) old new bytes others failing failed done stopped none one =
    inr (one_more_sum others failing failed one, stopped)

-- the same by other counts
pub kept_as : (mid copied : Option (List ℕ)) (slice : List ℕ) (failing failed all_failing all_failed : ℕ) →
    (failed ≡ failing → all_failed ≡ all_failing) → (failed ≡ failing + 1 → all_failed ≡ all_failing + 1) →
    KeepsLast mid copied slice failing failed → KeepsLast mid copied slice all_failing all_failed
kept_as mid copied slice failing failed fa af none one (inl (same, kept)) = inl (none same, kept)
kept_as mid copied slice failing failed fa af none one (inr (more, begun)) = inr (one more, begun)
