-- Bytes that cross a connection in parts, and what each part does to the end that it reaches.
use Rattle.std.proofs.Common.{◌≡◌, ◌≢◌, ◌∙◌, ◌+◌, ◌-◌, sym, ap, refl, subst, inl, inr, ℕ, [], ◌++◌, List, length, take}
use Rattle.std.proofs.Common.{drop, append_assoc, append-nil, take-append-drop, Option, Some, None, Result, Ok, Err}
use Rattle.std.proofs.Common.{OnOk, arith}
use Rattle.std.proofs.KnownBytes.{Appends-nil, Appends-trans}
use lib.Seq.{take_all}
use Rattle.rfb_wire.specs.stream.End.{StaysFailed}
use Rattle.rfb_server.specs.declared.server.Server.{Server}
use Rattle.rfb_viewer.specs.declared.viewer.Viewer.{Viewer}
use Rattle.rfb_session.specs.declared.engine.fault.EngineFault.TheVariants.{Server as ServerEnded}
use Rattle.rfb_session.specs.Turns.{IsAnswered}
use Rattle.rfb_session.specs.ViewerActs.{viewer_driven}
use Rattle.rfb_session.proofs.EngineRunLaws.{ran_none, ran_then}
use Rattle.rfb_session.proofs.ServeLaws.{Heard, heard_all, heard_more, heard_none, hearing_stops}
use Rattle.rfb_session.proofs.WrittenLaws.{rest_is}
use Rattle.rfb.specs.Delivery.{EndsTaking, IsFed, Receiver, Takes, at_server, at_viewer}

-- ---- an end that has failed

never_some : {F : Type 0} (o : Option F) (f : F) → o ≡ Some f → o ≡ None → ⊥
never_some o f some none = let bad : Some f ≡ None = sym some ∙ none in absurd (cc)

took_some : {V A F : Type 0} (o : Option F) (old new : V) (a : A) → StaysFailed o old (Ok a) new → o ≡ None
took_some None old new a stays = refl
took_some (Some f) old new a stays = let bad = (stays f refl).0 in absurd (cc)

stays_so : {V A F : Type 0} (o : Option F) (old new : V) (r : Result A F) →
    StaysFailed o old r new → o ≢ None → new ≡ old
stays_so None old new r stays failed = absurd (failed refl)
stays_so (Some f) old new r stays failed = (stays f refl).1

has_failed : {F : Type 0} (o : Option F) (f : F) → o ≡ Some f → o ≢ None
has_failed o f is = λ none. never_some o f is none

pub on_ok_all : {A E : Type 0} (r : Result A E) (P Q : Type 0) → OnOk r P → (P → Q) → OnOk r Q
on_ok_all (Ok a) P Q p f = f p
on_ok_all (Err e) P Q p f = tt

-- one that has not failed had not, where failing keeps it
had_not : {E F : Type 0} (fault : E → Option F) (old new : E) → (fault old ≢ None → new ≡ old) →
    fault new ≡ None → (o : Option F) → fault old ≡ o → fault old ≡ None
had_not fault old new kept fine None is = is
had_not fault old new kept fine (Some f) is =
    absurd (never_some (fault old) f is (sym (ap fault (kept (has_failed (fault old) f is))) ∙ fine))

-- ---- an end, part after part

module _ {E F S C : Type 0} where
  -- what holds of an end of a kind: it is fed one part after another
  pub record IsReceiver (r : Receiver E F S C) : Type 0 where
    pub none : (old : E) (before : Option (List ℕ)) → r.fed old [] before before old
    pub then : (old mid new : E) (bytes more : List ℕ) (before between after : Option (List ℕ)) →
        r.fed old bytes before between mid → r.fed mid more between after new →
        r.fed old (bytes ++ more) before after new
    pub ends : (old mid new : E) (bytes more : List ℕ) (before between after : Option (List ℕ)) (fault : F) →
        r.fed old bytes before between mid → r.ended mid more between after fault new →
        r.ended old (bytes ++ more) before after fault new
    pub fails : (old new : E) (bytes : List ℕ) (before after : Option (List ℕ)) (fault : F) →
        r.ended old bytes before after fault new → r.fault new ≡ Some fault
    pub stands : (old new : E) (bytes : List ℕ) (before after : Option (List ℕ)) (c : C) (s : S)
        (prefix : List ℕ) → r.fed old bytes before after new → r.stands c old s prefix →
        (t : S) × (rest : List ℕ) × r.stands c new t rest

  -- the first of the bytes were fed, and the answers to them are in flight; one that had failed is as it was
  pub record SoFar (r : Receiver E F S C) (old : E) (bytes rest before after : List ℕ) (now : E)
      : Type 0 where
    pub first : List ℕ
    pub bytes_are : bytes ≡ first ++ rest
    pub fed : r.fed old first (Some before) (Some after) now
    pub failed : r.fault old ≢ None → (now ≡ old) × (after ≡ before)

  module _ {r : Receiver E F S C} (is : IsReceiver r) where
    pub fed_none : (old : E) (bytes before : List ℕ) → SoFar r old bytes bytes before before old
    fed_none old bytes before = record {
      first = [];
      bytes_are = refl;
      fed = is.none old (Some before);
      failed = λ failed. (refl, refl);
    }

    -- one call more, which took some bytes
    pub fed_more : {A : Type 0} {old last new : E} {bytes rest before mid after : List ℕ} {a : A} (used : ℕ) →
        SoFar r old bytes rest before mid last → r.fed last (take used rest) (Some mid) (Some after) new →
        StaysFailed (r.fault last) last (Ok a) new →
        SoFar r old bytes (take (length rest - used) (drop used rest)) before after new
    fed_more {old = old} {last = last} {new = new} {bytes = bytes} {rest = rest} {before = before} {mid = mid}
        {after = after} {a = a} used was more stays = record {
          first = was.first ++ take used rest;
          bytes_are = was.bytes_are
              ∙ ap (λ (l : List ℕ). was.first ++ l) (sym (take-append-drop used rest))
              ∙ sym (append_assoc was.first (take used rest) (drop used rest))
              ∙ ap (λ (l : List ℕ). (was.first ++ take used rest) ++ l) (sym (rest_is rest used));
          fed = is.then old last new was.first (take used rest) (Some before) (Some mid) (Some after) was.fed more;
          failed = λ failed. absurd
              (failed (sym (ap r.fault (was.failed failed).0) ∙ took_some (r.fault last) last new a stays));
        }

    -- all were fed
    pub takes_all : {old now : E} {bytes rest before after : List ℕ} →
        SoFar r old bytes rest before after now → rest ≡ [] → Takes r old bytes before after now
    takes_all {old = old} {now = now} {bytes = bytes} {before = before} {after = after} was none =
        let all : r.fed old bytes (Some before) (Some after) now =
        subst (λ (l : List ℕ). r.fed old l (Some before) (Some after) now)
        (sym (was.bytes_are ∙ ap (λ (l : List ℕ). was.first ++ l) none ∙ append-nil was.first)) was.fed in
        record { fed = λ fine. all; either = λ c s prefix stands. inl all; failed = was.failed }

    -- or it ended at those that are left
    pub takes_until : {A : Type 0} {old last new : E} {bytes rest before mid : List ℕ} {fault : F}
        {result : Result A F} → SoFar r old bytes rest before mid last →
        r.ended last rest (Some mid) (Some mid) fault new →
        StaysFailed (r.fault last) last result new → fault ≢ r.no_memory → Takes r old bytes before mid new
    takes_until {old = old} {last = last} {new = new} {bytes = bytes} {rest = rest} {before = before} {mid = mid}
        {fault = fault} {result = result} was ends stays memory = record {
          fed = λ fine. absurd (never_some (r.fault new) fault
              (is.fails last new rest (Some mid) (Some mid) fault ends) fine);
          either = λ c s prefix stands. inr (record {
            fault = fault;
            read = bytes;
            later = [];
            bytes_are = sym (append-nil bytes);
            ended = subst (λ (l : List ℕ). r.ended old l (Some before) (Some mid) fault new) (sym was.bytes_are)
                (is.ends old last new was.first rest (Some before) (Some mid) (Some mid) fault was.fed ends);
            has_memory = memory;
          });
          failed = λ failed.
              let same = was.failed failed in (
                stays_so (r.fault last) last new result stays (λ none. failed (sym (ap r.fault same.0) ∙ none))
                    ∙ same.0,
                same.1,
              );
        }

    -- nothing came
    pub takes_none : (old : E) (before : List ℕ) → Takes r old [] before before old
    takes_none old before = takes_all (fed_none old [] before) refl

    -- parts one after another
    ends_then : (old mid new : E) (bytes more before between after : List ℕ) →
        r.fed old bytes (Some before) (Some between) mid → EndsTaking r mid more between after new →
        EndsTaking r old (bytes ++ more) before after new
    ends_then old mid new bytes more before between after one two = record {
      fault = two.fault;
      read = bytes ++ two.read;
      later = two.later;
      bytes_are = ap (λ (l : List ℕ). bytes ++ l) two.bytes_are ∙ sym (append_assoc bytes two.read two.later);
      ended = is.ends old mid new bytes two.read (Some before) (Some between) (Some after) two.fault one two.ended;
      has_memory = two.has_memory;
    }

    ends_later : (old new : E) (bytes more before after : List ℕ) →
        EndsTaking r old bytes before after new → EndsTaking r old (bytes ++ more) before after new
    ends_later old new bytes more before after one = record {
      fault = one.fault;
      read = one.read;
      later = one.later ++ more;
      bytes_are = ap (λ (l : List ℕ). l ++ more) one.bytes_are ∙ append_assoc one.read one.later more;
      ended = one.ended;
      has_memory = one.has_memory;
    }

    pub takes_then : (old mid new : E) (bytes more before between after : List ℕ) →
        Takes r old bytes before between mid → Takes r mid more between after new →
        Takes r old (bytes ++ more) before after new
    takes_then old mid new bytes more before between after one two = record {
      fed = λ fine.
          let first = one.fed (had_not r.fault mid new (λ f. (two.failed f).0) fine (r.fault mid) refl) in
          is.then old mid new bytes more (Some before) (Some between) (Some after) first (two.fed fine);
      either = λ c s prefix stands. elim (one.either c s prefix stands) [
        | inl first ↦
            let run = is.stands old mid bytes (Some before) (Some between) c s prefix first stands in
            elim (two.either c run.0 run.1 run.2) [
              | inl all ↦
                  inl (is.then old mid new bytes more (Some before) (Some between) (Some after) first all)
              | inr ends ↦ inr (ends_then old mid new bytes more before between after first ends)
            ]
        | inr ends ↦
            let same = two.failed (has_failed (r.fault mid) ends.fault
            (is.fails old mid ends.read (Some before) (Some between) ends.fault ends.ended)) in
            inr (subst (λ (v : E). EndsTaking r old (bytes ++ more) before after v) (sym same.0)
            (subst (λ (l : List ℕ). EndsTaking r old (bytes ++ more) before l mid) (sym same.1)
            (ends_later old mid bytes more before between ends)))
      ];
      failed = λ failed.
          let first = one.failed failed in
          let second = two.failed (λ none. failed (sym (ap r.fault first.0) ∙ none)) in
          (second.0 ∙ first.0, second.1 ∙ first.1);
    }

-- ---- the server

heard_first : (old mid : Server) (bytes more : List ℕ) (before between : Option (List ℕ)) →
    IsAnswered old bytes before between mid → Heard old (bytes ++ more) more before between mid
heard_first old mid bytes more before between one = record {
  fed = bytes;
  sent = one.sent;
  bytes_are = refl;
  hears = one.hears;
  wrote = one.wrote;
}

heard_then : (old mid new : Server) (bytes more : List ℕ) (before between after : Option (List ℕ)) →
    IsAnswered old bytes before between mid → IsAnswered mid more between after new →
    IsAnswered old (bytes ++ more) before after new
heard_then old mid new bytes more before between after one two =
    let whole : take (length more) more ≡ more = take_all (length more) more (omega arith) in
    let two_taken : IsAnswered mid (take (length more) more) between after new = rw whole two in
    let none : length more - length more ≡ 0 = omega arith in
    let rest : take (length more - length more) (drop (length more) more) ≡ [] =
    ap (λ (n : ℕ). take n (drop (length more) more)) none in
    heard_all old (bytes ++ more) _ before after new
    (heard_more old (bytes ++ more) more before between after mid (length more) new
    (heard_first old mid bytes more before between one) two_taken)
    rest

-- a server is fed one part after another
pub server_received : IsReceiver at_server
server_received = record {
  none = λ old before. heard_all old [] [] before before old (heard_none old [] before) refl;
  then = heard_then;
  ends = λ old mid new bytes more before between after fault one two.
      hearing_stops old (bytes ++ more) more before between after mid 0 0 0 (ServerEnded fault) new
      (heard_first old mid bytes more before between one) refl two;
  fails = λ old new bytes before after fault ended. ended.ends.fails;
  stands = λ old new bytes before after serving s prefix one stands.
      let run = (one.hears serving s prefix stands).0 in
      (run.state, run.rest, run.stands);
}

-- ---- the viewer

fed_then : (old mid new : Viewer) (bytes more : List ℕ) (before between after : Option (List ℕ)) →
    IsFed old bytes before between mid → IsFed mid more between after new →
    IsFed old (bytes ++ more) before after new
fed_then old mid new bytes more before between after one two = record {
  sent = one.sent ++ two.sent;
  updates = one.updates + two.updates;
  runs = ran_then viewer_driven old mid new bytes one.sent more two.sent one.updates two.updates one.runs two.runs;
  wrote = Appends-trans before between after one.sent two.sent one.wrote two.wrote;
}

-- so is a viewer
pub viewer_received : IsReceiver at_viewer
viewer_received = record {
  none = λ old before.
      record { sent = []; updates = 0; runs = ran_none viewer_driven old; wrote = Appends-nil before };
  then = fed_then;
  ends = λ old mid new bytes more before between after fault one two. record {
    fed = bytes ++ two.fed;
    slice = two.slice;
    sent = one.sent ++ two.sent;
    updates = one.updates + two.updates;
    last = two.last;
    bytes_are = ap (λ (l : List ℕ). bytes ++ l) two.bytes_are ∙ sym (append_assoc bytes two.fed two.slice);
    runs = ran_then viewer_driven old mid two.last bytes one.sent two.fed two.sent one.updates two.updates one.runs
        two.runs;
    wrote = Appends-trans before between after one.sent two.sent one.wrote two.wrote;
    ends = two.ends;
  };
  fails = λ old new bytes before after fault ended. ended.ends.fails;
  stands = λ old new bytes before after viewing s prefix one stands.
      let run = one.runs viewing s prefix stands in
      (run.state, run.rest, run.stands);
}
