-- What a relay does, one call after the other.
use Rattle.std.proofs.Common.{◌≡◌, ◌≢◌, ◌+◌, ◌-◌, ◌∙◌, ◌⊎◌, ℕ}
use Rattle.std.proofs.Common.{List, Bool, true, false, Option, Some, None}
use Rattle.std.proofs.Common.{Result, refl, sym, ap, subst, inl, inr, nat_lt, cond, is_some, not}
use Rattle.std.proofs.Common.{◌||◌}
use Rattle.std.proofs.Common.{length, arith}
use Rattle.rfb_hello.specs.declared.fed.Fed.{Fed}
use Rattle.rfb_wire.specs.stream.FaultPlace.{counted_on}
use Rattle.rfb_picture.specs.declared.rect.Rect.{Rect}
use Rattle.rfb_viewer.specs.declared.call.Call.TheVariants.{Request}
use Rattle.rfb_viewer.specs.declared.event.ViewerEvent.{ViewerEvent}
use Rattle.rfb_viewer.specs.declared.fault.AppendFault.{AppendFault}
use Rattle.rfb_session.specs.declared.console.Console.{Console}
use Rattle.rfb_session.specs.declared.console.Outcome.{Outcome}
use Rattle.rfb_session.specs.declared.console.Outcome.TheVariants.{NoMemory}
use Rattle.rfb_session.specs.declared.console.desk.Desk.{Desk}
use Rattle.rfb_session.specs.declared.relay.Relay.{Relay}
use Rattle.rfb_session.specs.declared.relay.gone.Gone.{Gone}
use Rattle.rfb_session.specs.console.Console.{KeepsSide, OpensRooms}
use Rattle.rfb_session.specs.declared.console.plan.Rules.{Rules}
use Rattle.rfb_session.specs.declared.share.event.SeatEvent.{SeatEvent}
use Rattle.rfb_session.specs.console.Console.{HearsBytes, RunsOut}
use Rattle.rfb_session.specs.relay.Desk.{AsksFrom, CallsDesk, FeedsDesk, LosesDesk, SomeWait, TellsSome}
use Rattle.rfb_session.specs.relay.Desk.{told_of_server, whole_of}
use Rattle.rfb_session.specs.ShareWaiters.{SomeAsked}
use Rattle.rfb_session.specs.relay.Calls.{Asks, ended_by, Passes, passed}
use Rattle.rfb_session.specs.console.Time.{IsBy}
use Rattle.rfb_session.specs.relay.Presence.{is_gone, is_shown, call_time, planned, WakesToCall}
use Rattle.rfb_session.specs.declared.relay.presence.Presence.{Presence}
use Rattle.rfb_session.specs.declared.relay.presence.Presence.TheVariants.{Coming, Shown, Gone as Lost}
use Rattle.rfb_session.specs.relay.Doors.{CountsPassed, KeepsAllButRooms, KeepsBeside, TakesViewer}
use Rattle.rfb_session.specs.relay.Doors.{KeepsServer, OpensDoors, SparesUpTo, passed_at, room_of_server}
use Rattle.rfb_session.specs.relay.Doors.{space_at_door}
use Rattle.rfb_session.specs.relay.Server.{EndsFor, Fed_on, HearsShown, Heeds, IsToldGone}
use Rattle.rfb_session.specs.relay.Server.{NoRoomToTell, PlansCall, WakesFor, planned_for}
use Rattle.rfb_session.specs.relay.Relay.{HearsViewer}

pub none_of : {X : Type 0} (o : Option X) → is_some o ≡ false → o ≡ None
none_of None is = refl
none_of (Some x) is = absurd (true_false is)
  where
    true_false : true ≡ false → ⊥
    true_false e = cc e

pub some_not : {X : Type 0} (o : Option X) → is_some o ≡ true → o ≢ None
some_not None is = absurd (false_true is)
  where
    false_true : false ≡ true → ⊥
    false_true e = cc e
some_not (Some x) is = λ e. cc e

pub some_is_not : {X : Type 0} (x : X) → Some x ≢ None
some_is_not x e = cc e

pub same_value : {X : Type 0} (x y : X) → Some x ≡ Some y → y ≡ x
same_value x y same = cc

-- ---- asking

kept : (o : Option Outcome) (a : Option Desk) (d e : Desk) (asked : Result (Unit {0}) AppendFault)
    (old new : List ℕ) → is_some o ≡ false → a ≡ Some d → AsksFrom d asked old new e →
    ended_by asked None ≡ None →
    Asks true o a (Some e) old new o
kept None a d e asked old new none is asks ends =
    subst (λ (x : Option Desk). Asks true None x (Some e) old new None) (sym is) (e, asked, refl, asks, sym ends)
kept (Some x) a d e asked old new none is asks ends = absurd (some_is_not x (none_of (Some x) none))

pub asks_kept : (shown : Bool) → true ≡ shown → (o : Option Outcome) (a : Option Desk) (d e : Desk)
    (asked : Result (Unit {0}) AppendFault) (old new : List ℕ) → is_some o ≡ false → a ≡ Some d →
    AsksFrom d asked old new e → ended_by asked None ≡ None → Asks shown o a (Some e) old new o
asks_kept shown there o a d e asked old new none is asks ends =
    subst (λ (s : Bool). Asks s o a (Some e) old new o) there (kept o a d e asked old new none is asks ends)

ended : (o : Option Outcome) (a : Option Desk) (d e : Desk) (asked : Result (Unit {0}) AppendFault)
    (old new : List ℕ) → is_some o ≡ false → a ≡ Some d → AsksFrom d asked old new e →
    ended_by asked None ≡ Some NoMemory → Asks true o a (Some e) old new (Some NoMemory)
ended None a d e asked old new none is asks ends =
    subst (λ (x : Option Desk). Asks true None x (Some e) old new (Some NoMemory)) (sym is)
    (e, asked, refl, asks, sym ends)
ended (Some x) a d e asked old new none is asks ends = absurd (some_is_not x (none_of (Some x) none))

pub asks_ended : (shown : Bool) → true ≡ shown → (o : Option Outcome) (a : Option Desk) (d e : Desk)
    (asked : Result (Unit {0}) AppendFault) (old new : List ℕ) → is_some o ≡ false → a ≡ Some d →
    AsksFrom d asked old new e → ended_by asked None ≡ Some NoMemory →
    Asks shown o a (Some e) old new (Some NoMemory)
asks_ended shown there o a d e asked old new none is asks ends =
    subst (λ (s : Bool). Asks s o a (Some e) old new (Some NoMemory)) there
    (ended o a d e asked old new none is asks ends)

-- somebody waits, and a request for the whole of the screen is made
pub asks_some : {a b : Desk} {rect : Rect} {asked : Result (Unit {0}) AppendFault} {before after : List ℕ} →
    SomeAsked a.share × (rect ≡ whole_of a.share) → CallsDesk a (Request true rect) before asked after b →
    AsksFrom a asked before after b
asks_some {a} {b} {rect} {asked} {before} {after} wanted calls =
    SomeWait wanted.0 (subst (λ (r : Rect). CallsDesk a (Request true r) before asked after b) wanted.1 calls)

-- ---- a server that goes

true_not : {X : Type 0} → true ≡ false → X
true_not e = absurd (no e)
  where
    no : true ≡ false → ⊥
    no e = cc e

false_not : {X : Type 0} → false ≡ true → X
false_not e = absurd (no e)
  where
    no : false ≡ true → ⊥
    no e = cc e

-- all had ended before
pub over_ends : (retry : Option ℕ) (o n : Option Outcome) (how : Gone) → n ≡ o → is_some n ≡ true →
    EndsFor retry o how n
over_ends retry (Some ended) n how same is = same
over_ends retry None n how same is =
    false_not (sym (ap (λ (x : Option Outcome). is_some x) same) ∙ is)

pub over_told : (shown : Bool) (o n : Option Outcome) (how : Gone) (a b : Option Desk) (ends : Option Outcome) →
    n ≡ o → is_some n ≡ true → b ≡ a → IsToldGone shown o how a b ends
over_told false o n how a b ends same is desk = desk
over_told true (Some ended) n how a b ends same is desk = desk
over_told true None n how a b ends same is desk =
    false_not (sym (ap (λ (x : Option Outcome). is_some x) same) ∙ is)

-- it ends now, unless it is called again
pub ends_then : (retry : Option ℕ) (o n : Option Outcome) (how : Gone) (mid new : Option Outcome) → n ≡ o →
    is_some n ≡ false → EndsFor retry None how mid → (new ≡ mid) ⊎ (new ≡ Some NoMemory) →
    EndsFor retry o how new
ends_then retry (Some ended) n how mid new same is was then =
    true_not (sym (ap (λ (x : Option Outcome). is_some x) same) ∙ is)
ends_then None None n how mid new same is was (inl stays) =
    elim was [ inl e ↦ inl (stays ∙ e) | inr e ↦ inr (stays ∙ e) ]
ends_then None None n how mid new same is was (inr ran) = inr ran
ends_then (Some pause) None n how mid new same is was (inl stays) =
    elim was [ inl e ↦ inl (stays ∙ e) | inr e ↦ inr (stays ∙ e) ]
ends_then (Some pause) None n how mid new same is was (inr ran) = inr ran

pub told_then : (shown : Bool) (o n : Option Outcome) (how : Gone) (was a b : Option Desk) (ends : Option Outcome) →
    n ≡ o → is_some n ≡ false → a ≡ was → IsToldGone shown None how a b ends →
    IsToldGone shown o how was b ends
told_then shown (Some ended) n how was a b ends same is desk told =
    true_not (sym (ap (λ (x : Option Outcome). is_some x) same) ∙ is)
told_then shown None n how was a b ends same is desk told =
    subst (λ (x : Option Desk). IsToldGone shown None how x b ends) desk told

pub shown_told : (b : Bool) (o : Option Outcome) (how : Gone) (was now : Option Desk) (ends : Option Outcome) →
    b ≡ true → IsToldGone true o how was now ends → IsToldGone b o how was now ends
shown_told true o how was now ends is told = told
shown_told false o how was now ends is told = false_not is

-- a line says so at the desk that there is
pub gone_told : (how : Gone) (a : Option Desk) (d e : Desk) (ends : Option Outcome) → a ≡ Some d →
    e.share ≡ d.share → LosesDesk d how e ⊎ (ends ≡ Some NoMemory) → IsToldGone true None how a (Some e) ends
gone_told how a d e ends there share told =
    subst (λ (x : Option Desk). IsToldGone true None how x (Some e) ends) (sym there) (e, refl, share, told)

pub gone_untold : (how : Gone) (a : Option Desk) (ends : Option Outcome) → a ≡ None →
    IsToldGone true None how a a ends
gone_untold how None ends none = refl
gone_untold how (Some d) ends none = absurd (some_is_not d none)

module _ {S : Type 0} where
  -- what stays beside the desk and the outcome
  pub side_so : (old mid new : Console S) → KeepsSide old mid → new.reader ≡ mid.reader →
      new.has_input_ended ≡ mid.has_input_ended → new.rooms ≡ mid.rooms → new.rules ≡ mid.rules →
      new.name ≡ mid.name → (old.outcome ≢ None → new.outcome ≢ None) → KeepsSide old new
  side_so old mid new side reader input rooms rules name ended = record {
    owner = record { reader = reader ∙ side.owner.reader; input = input ∙ side.owner.input };
    rooms = rooms ∙ side.rooms;
    stays = record { rules = rules ∙ side.stays.rules; name = name ∙ side.stays.name; ended = ended };
  }

  -- the owner, the rooms, the rules and the name are as they were, and an end stays
  pub side_same : (old new : Console S) → new.reader ≡ old.reader →
      new.has_input_ended ≡ old.has_input_ended → new.rooms ≡ old.rooms → new.rules ≡ old.rules →
      new.name ≡ old.name → (old.outcome ≢ None → new.outcome ≢ None) → KeepsSide old new
  side_same old new reader input rooms rules name ended = record {
    owner = record { reader = reader; input = input };
    rooms = rooms;
    stays = record { rules = rules; name = name; ended = ended };
  }

  -- what is known of the server is as it was
  pub server_same : {old new : Relay S} → new.coming ≡ old.coming → new.to_server ≡ old.to_server →
      new.presence ≡ old.presence → new.server_name ≡ old.server_name → new.passed ≡ old.passed →
      KeepsServer old new
  server_same coming waits presence name passed = record {
    beside = record { noted = record { coming = coming; name = name; passed = passed }; waits = waits };
    presence = presence;
  }

  -- the server's viewer was taken, and all else is as it was
  pub viewer_taken : {old new : Relay S} → new.coming ≡ None → new.console ≡ old.console →
      new.to_server ≡ old.to_server → new.presence ≡ old.presence → new.server_name ≡ old.server_name →
      TakesViewer old new
  viewer_taken taken console waits presence name =
      record { taken = taken; console = console; waits = waits; presence = presence; name = name }

  pub side_then : (old mid new : Console S) → KeepsSide old mid → KeepsSide mid new → KeepsSide old new
  side_then old mid new first second = record {
    owner = record {
      reader = second.owner.reader ∙ first.owner.reader;
      input = second.owner.input ∙ first.owner.input;
    };
    rooms = second.rooms ∙ first.rooms;
    stays = record {
      rules = second.stays.rules ∙ first.stays.rules;
      name = second.stays.name ∙ first.stays.name;
      ended = λ was. second.stays.ended (first.stays.ended was);
    };
  }

  -- ---- how much is taken at each door after a turn

  pub rooms_so : (ended opened new : Relay S) → OpensRooms ended.console → KeepsAllButRooms ended opened →
      space_at_door opened 0 ≡ room_of_server ended →
      ((k : ℕ) → space_at_door opened (k + 1) ≡ space_at_door ended (k + 1)) → SparesUpTo 8 opened new →
      OpensDoors new
  rooms_so ended opened new rooms keeps server others spares =
      let gone = spares.keeps.server.presence ∙ keeps.server.presence in
      let outcome = spares.keeps.console.outcome ∙ keeps.console.outcome in
      let desk = spares.keeps.console.desk ∙ keeps.console.desk in
      record {
        server = spares.server ∙ server ∙ sym (rw (gone, outcome) refl);
        viewers = λ k within. spares.rooms k within
            ∙ ap (λ (n : ℕ). cond (nat_lt (passed_at opened k) 4096) n 0) (others k ∙ rooms.seats k within)
            ∙ sym (rw (spares.keeps.server.beside.noted.passed, outcome, desk) refl);
      }

  -- planning a call changes none of them
  pub rooms_planned : (old : Relay S) (now : ℕ) (new : Relay S) → PlansCall old now new → OpensDoors old →
      is_gone new.presence ≡ is_gone old.presence → OpensDoors new
  rooms_planned old now new plans opens gone =
      let rooms = plans.console.side.rooms in
      let desk = plans.console.desk in
      let outcome = plans.console.outcome in
      record {
        server = rw (rooms, gone, outcome) opens.server;
        viewers = λ k within. rw (rooms, plans.beside.noted.passed, desk, outcome) (opens.viewers k within);
      }

some_none : (ends : Outcome) → Some ends ≡ None → ⊥
some_none ends same = cc

-- what goes on after the server was asked went on before
pub asks_on : {old new : Option Outcome} → (new ≡ old) ⊎ (new ≡ Some NoMemory) → new ≡ None → old ≡ None
asks_on (inl same) none = sym same ∙ none
asks_on (inr ended) none = absurd (some_none NoMemory (sym ended ∙ none))

-- and whether it has gone stays so
pub planned_gone : (retry : Option ℕ) (ended : Option Outcome) (now : ℕ) (p : Presence) →
    is_gone (planned_for retry ended now p) ≡ is_gone p
planned_gone None ended now p = refl
planned_gone (Some pause) (Some o) now p = refl
planned_gone (Some pause) None now Coming = refl
planned_gone (Some pause) None now Shown = refl
planned_gone (Some pause) None now (Lost how recall) = refl

-- a call is planned
pub plan_so : (retry : Option ℕ) (o : Option Outcome) (pause now : ℕ) (p q : Presence) → retry ≡ Some pause →
    is_some o ≡ false → q ≡ planned now pause p → q ≡ planned_for retry o now p
plan_so retry None pause now p q is none plan =
    subst (λ (r : Option ℕ). q ≡ planned_for r None now p) (sym is) plan
plan_so retry (Some ended) pause now p q is none plan = true_not none

wakes : (t next : Option ℕ) → ((limit : ℕ) → IsBy limit t → IsBy limit next) → WakesToCall t next
wakes None next by = tt
wakes (Some time) next by = by time (omega arith)

pub wakes_so : (retry : Option ℕ) (o : Option Outcome) (q : Presence) (t next : Option ℕ) → t ≡ call_time q →
    ((limit : ℕ) → IsBy limit t → IsBy limit next) → WakesFor retry o q next
wakes_so None o q t next is by = tt
wakes_so (Some pause) (Some ended) q t next is by = tt
wakes_so (Some pause) None q t next is by = subst (λ (x : Option ℕ). WakesToCall x next) is (wakes t next by)

module _ {S : Type 0} where
  pub beside_then : (old mid new : Relay S) → KeepsBeside old mid → KeepsBeside mid new → KeepsBeside old new
  beside_then old mid new first second = record {
    noted = record {
      coming = second.noted.coming ∙ first.noted.coming;
      name = second.noted.name ∙ first.noted.name;
      passed = second.noted.passed ∙ first.noted.passed;
    };
    waits = second.waits ∙ first.waits;
  }

  -- ---- bytes of a server whose picture is shown

  pub shown_so : (old mid : Relay S) (a m : Desk) (bytes : List ℕ) (fed : Fed ViewerEvent) (new : Relay S) →
      old.console.desk ≡ Some a → FeedsDesk a bytes fed m → mid.console.desk ≡ Some m →
      mid.console.outcome ≡ old.console.outcome → KeepsServer old mid → Heeds mid fed.event new →
      HearsShown old bytes fed.used new
  shown_so old mid a m bytes fed new is feeds there outcome keeps heeds = by (heeds.told m there)
    where
      by : ((b : Desk) × (new.console.desk ≡ Some b) × TellsSome m (told_of_server fed.event) b
          × (new.console.outcome ≡ mid.console.outcome)) ⊎ (new.console.outcome ≡ Some NoMemory) →
          HearsShown old bytes fed.used new
      by (inl one) = Fed_on a m one.0 fed is refl feeds one.2 one.1 (one.3 ∙ outcome) (record {
        presence = heeds.server.presence ∙ keeps.presence;
        beside = beside_then old mid new keeps.beside heeds.server.beside;
      })
      by (inr ran) = NoRoomToTell ran

  -- ---- bytes of a viewer

  pub viewed_so : (old mid new : Relay S) (k : ℕ) (bytes : List ℕ) (used before : ℕ) (heard : Console S)
      (event : Option SeatEvent) → HearsBytes old.console k bytes used event heard →
      RunsOut old.console.outcome heard.outcome → (old.console.outcome ≢ None → event ≡ None) →
      (old.console.desk ≡ None → event ≡ None) →
      KeepsSide old.console heard →
      Passes (passed (heard.rules.view_only || not (is_shown old.presence)) event) heard.desk mid.console.desk
      old.to_server mid.to_server heard.outcome mid.console.outcome → mid.passed ≡ old.passed →
      mid.coming ≡ old.coming → mid.presence ≡ old.presence →
      before ≡ length old.to_server → CountsPassed mid k before new → HearsViewer old k bytes used new
  viewed_so old mid new k bytes used before heard event hears ends ended nobody side passes same coming gone
      was counts =
      record {
        event = event;
        mid = heard;
        hears = hears;
        ends = ends;
        ended = λ one. elim one [ inl over ↦ ended over | inr none ↦ nobody none ];
        side = side;
        passes = rw (counts.console, counts.waits) (subst (λ (r : Rules). Passes
            (passed (r.view_only || not (is_shown old.presence)) event) heard.desk mid.console.desk old.to_server
            mid.to_server heard.outcome mid.console.outcome) side.stays.rules passes);
        counted = counts.count
            ∙ ap (λ (n : ℕ). counted_on n (length mid.to_server - before)) (rw same refl)
            ∙ ap (λ (n : ℕ). counted_on (passed_at old k) (length mid.to_server - n)) was
            ∙ ap (λ (l : List ℕ). counted_on (passed_at old k) (length l - length old.to_server))
            (sym counts.waits);
        others = λ j other. counts.others j other ∙ rw same refl;
        coming = counts.coming ∙ coming;
        presence = counts.presence ∙ gone;
      }
