-- What an engine does with a server, call by call.
use Rattle.std.proofs.Common.{◌≡◌, ◌≢◌, ℕ, zero, suc, ◌+◌, ◌-◌, ◌*◌, ◌&&◌, Bool, true, false, List, [], ◌∷◌, ◌++◌}
use Rattle.std.proofs.Common.{Option, Some, length, take, drop, refl, sym, ap, ◌∙◌, subst, append_assoc, append-nil}
use Rattle.std.proofs.Common.{take-append-drop, slice_index_or, replicate}
use Rattle.std.specs.Io.KnownBytes.{Appends}
use Rattle.rfb_pixel.specs.declared.colour.Colour.{Colour}
use Rattle.rfb_picture.specs.Grid.{Grid, uniform, at_or}
use Rattle.rfb_picture.specs.Area.{Places, nothing, asked_at}
use Rattle.rfb_wire.specs.stream.End.{FedBy, RefusedBy, RunsOutBy}
use Rattle.rfb_server.specs.declared.fault.ServerFault.{ServerFault}
use Rattle.rfb_server.specs.declared.fault.ServerFault.TheVariants.{NoMemory}
use Rattle.rfb_server.specs.declared.event.ServerEvent.{ServerEvent}
use Rattle.rfb_server.specs.declared.server.Server.{Server}
use Rattle.rfb_server.specs.Told.{seen}
use Rattle.rfb_server.specs.Server.{Serving, ServerState, server, AsksMemory}
use Rattle.rfb_server.specs.Model.{StandsFor, Draws, Keeps as KeepsServer, with_screen, screen_of, fault_of}
use Rattle.rfb_server.specs.Failed.{KeepsNotes}
use Rattle.rfb_server.specs.Composition.{Composes}
use Rattle.rfb_server.specs.UpdateCall.{Updates, StaysUnsent}
use Rattle.rfb_session.specs.declared.engine.fault.EngineFault.{EngineFault}
use Rattle.rfb_session.specs.declared.engine.fault.EngineFault.TheVariants.{Server as ServerEnded}
use Rattle.rfb_session.specs.declared.engine.fault.EngineFault.TheVariants.{Viewer as ViewerEnded, Truncated, Device}
use Rattle.rfb_session.specs.declared.engine.fault.EngineFault.TheVariants.{NoMemory as EngineNoMemory}
use Rattle.rfb_session.specs.InFlight.{server_reply}
use Rattle.rfb_session.specs.EngineRun.{Did}
use Rattle.rfb_session.specs.ServeEngine.{Composed, Drawn, server_driven, ServerRuns, Hears, IsIdle}
use Rattle.rfb_session.specs.ServeEngine.{RunsToIdle, IsHeard, IsUpdated, IsCutOff, IsEnded}
use Rattle.rfb_session.specs.ServeEngine.{IsEndedBy, StopsHearing}
use Rattle.rfb_session.specs.Turns.{IsAnswered, IsAnsweredBy, Showing, EndsTurn}
use Rattle.rfb_session.specs.Wire.{Writing, by_bytes}
use Rattle.rfb_session.proofs.WrittenLemmas.{rest_is}
use Rattle.rfb_session.proofs.WireLemmas.{Joins, bytes_join}
use Rattle.rfb_session.proofs.EngineRunLemmas.{ran_did, feeds_none, feeds_then, feeds_once, feeds_runs}

-- ---- when no update is due

none_at : (n i : ℕ) → slice_index_or (replicate n false) i false ≡ false
none_at zero i = refl
none_at (suc n) zero = refl
none_at (suc n) (suc i) = none_at n i

none_asked : (w h x y : ℕ) → at_or (uniform w h false) x y false ≡ false
unfolding uniform
none_asked w h x y = none_at (h * w) (y * w + x)

first_holds : (a b : Bool) → (a && b) ≡ true → a ≡ true
first_holds true b e = refl
first_holds false b e = e

never : false ≡ true → ⊥
never e = absurd cc

-- where nothing is asked
idle_empty : (s : ServerState) (area : Places) → s.area ≡ nothing area → IsIdle s
idle_empty s area is due =
    let none : asked_at s.area due.x due.y ≡ false =
    ap (λ (a : Places). asked_at a due.x due.y) is
    ∙ none_asked area.asked.width area.asked.height due.x due.y in
    let some : asked_at s.area due.x due.y ≡ true = first_holds (asked_at s.area due.x due.y) _ due.needs in
    never (sym none ∙ some)

-- ---- one update

-- nothing has changed where none was due
same_state : (s : ServerState) (screen : Grid Colour) → s.screen ≡ screen → with_screen screen s ≡ s
same_state s screen is = subst (λ (g : Grid Colour). with_screen g s ≡ s) is refl

pub kept_stands : (old new : Server) → KeepsServer old new → (serving : Serving) (s : ServerState) (prefix : List ℕ) →
    StandsFor serving old s prefix → StandsFor serving new s prefix
kept_stands old new kept serving s prefix stands =
    subst (λ (t : ServerState). StandsFor serving new t prefix)
    (same_state s (screen_of old) stands.screen_is) (kept.stands serving s prefix stands)

pub kept_runs : (old new : Server) → KeepsServer old new → ServerRuns old [] [] 0 new
kept_runs old new kept = λ serving s prefix stands. record {
  steps = [];
  state = s;
  rest = prefix;
  runs = (refl, refl);
  stands = kept_stands old new kept serving s prefix stands;
  fed_is = refl;
  sent_is = refl;
  updates_are = refl;
}

pub unsent_idle : (old new : Server) (out after : List ℕ) → StaysUnsent old new out after →
    RunsToIdle old [] [] 0 new
unfolding kept_runs
unsent_idle old new out after unsent = λ serving s prefix stands.
    (kept_runs old new unsent.kept serving s prefix stands, unsent.not_due serving s prefix stands)

-- an update that was composed
pub composed_runs : (old new : Server) (out after : List ℕ) → Updates old new out after → out ≡ [] →
    ServerRuns old [] after 1 new
composed_runs old new out after updates none =
    ran_did server_driven old new (Composed after) (λ serving s prefix stands.
    let one = updates.sent serving s prefix stands in
    let sent = one.update in
    let bytes_are : sent.bytes ≡ after = sym (sent.appended ∙ ap (λ (l : List ℕ). l ++ sent.bytes) none) in (
      one.resulting,
      (
        sent.due,
        sent.copies,
        sent.blocks,
        subst (λ (b : List ℕ). Composes s one.resulting b sent.copies sent.blocks) bytes_are sent.composes,
      ),
      one.stands,
    ))

-- and a screen that was drawn on after it
pub drawn_idle : (old mid new : Server) (out after : List ℕ) → Updates old mid out after → out ≡ [] →
    Draws (screen_of new) mid new → RunsToIdle old [] after 1 new
drawn_idle old mid new out after updates none draws = λ serving s prefix stands.
    let one = updates.sent serving s prefix stands in
    let sent = one.update in
    let bytes_are : sent.bytes ≡ after = sym (sent.appended ∙ ap (λ (l : List ℕ). l ++ sent.bytes) none) in
    let composes = subst (λ (b : List ℕ). Composes s one.resulting b sent.copies sent.blocks) bytes_are
    sent.composes in (
      record {
        steps = Did (Drawn (screen_of new)) ∷ Did (Composed after) ∷ [];
        state = with_screen (screen_of new) one.resulting;
        rest = prefix;
        runs = (
          one.resulting,
          prefix,
          (s, prefix, (refl, refl), ((sent.due, sent.copies, sent.blocks, composes), refl)),
          (refl, refl),
        );
        stands = draws.stands serving one.resulting prefix one.stands;
        fed_is = refl;
        sent_is = sym (append-nil after);
        updates_are = refl;
      },
      idle_empty (with_screen (screen_of new) one.resulting) s.area sent.composes.emptied,
    )

-- a turn's end is an update or none
pub updated_of : {X : Type 0} (shows : Showing X) (old : Server) (scene : X) (before after : Option (List ℕ))
    (updates : ℕ) (new : Server) (last : X) → EndsTurn by_bytes shows old scene before after updates new last →
    IsUpdated old before after updates new
updated_of shows old scene before after zero new last ends = record {
  sent = [];
  runs = unsent_idle old new [] [] ends.unsent;
  wrote = ends.wrote;
}
updated_of shows old scene before after (suc zero) new last ends = record {
  sent = ends.bytes;
  runs = drawn_idle old ends.composed new [] ends.bytes ends.updates refl ends.draws;
  wrote = ends.wrote;
}
updated_of shows old scene before after (suc (suc more)) new last ends = absurd ends

-- ---- bytes that are heard

pub hears_runs : (old new : Server) (fed sent : List ℕ) → Hears old fed sent new → ServerRuns old fed sent 0 new
hears_runs old new fed sent hears = feeds_runs server_driven old new fed sent 0 hears

pub heard_of : (old : Server) (bytes : List ℕ) (before after : Option (List ℕ)) (new : Server) →
    IsAnswered old bytes before after new → IsHeard old bytes before after new
heard_of old bytes before after new answered = record {
  sent = answered.sent;
  runs = hears_runs old new bytes answered.sent answered.hears;
  wrote = answered.wrote;
}

module _ {D : Type 0} where
  pub record HeardBy (writing : Writing D) (old : Server) (bytes rest : List ℕ) (before after : D) (now : Server) :
      Type 0 where
    pub fed : List ℕ
    pub sent : List ℕ
    pub bytes_are : bytes ≡ fed ++ rest
    pub hears : Hears old fed sent now
    pub wrote : writing.all before after sent

all_parts : (bytes fed rest more slice : List ℕ) → bytes ≡ fed ++ rest → rest ≡ more ++ slice →
    bytes ≡ (fed ++ more) ++ slice
all_parts bytes fed rest more slice is parts =
    is ∙ ap (λ (l : List ℕ). fed ++ l) parts ∙ sym (append_assoc fed more slice)

-- however bytes are written
module _ {D : Type 0} (writing : Writing D) (joins : Joins writing) where
  pub hears_no_byte : (old : Server) (bytes : List ℕ) (before : D) → HeardBy writing old bytes bytes before before old
  hears_no_byte old bytes before = record {
    fed = [];
    sent = [];
    bytes_are = refl;
    hears = feeds_none server_driven old;
    wrote = joins.none before;
  }

  pub hears_call : (old new : Server) (bytes : List ℕ) (used : ℕ) (event : Option ServerEvent)
      (before after : D) (answer : List ℕ) →
      ((serving : Serving) → FedBy (server serving) (StandsFor serving) old (take used bytes) (seen event) new) →
      answer ≡ server_reply (seen event) → writing.all before after answer →
      IsAnsweredBy writing old (take used bytes) before after new
  hears_call old new bytes used event before after answer fed is wrote = record {
    sent = server_reply (seen event);
    hears = feeds_once server_driven old new (take used bytes) (seen event) fed;
    wrote = subst (λ (l : List ℕ). writing.all before after l) is wrote;
  }

  pub call_cut : (old new : Server) (bytes : List ℕ) (used : ℕ) (event : Option ServerEvent)
      (before after : D) (answer : List ℕ) →
      ((serving : Serving) → FedBy (server serving) (StandsFor serving) old (take used bytes) (seen event) new) →
      answer ≡ server_reply (seen event) → writing.some before after answer →
      IsCutOff writing old bytes before after new
  call_cut old new bytes used event before after answer fed is begun = record {
    fed = take used bytes;
    later = drop used bytes;
    sent = server_reply (seen event);
    bytes_are = sym (take-append-drop used bytes);
    hears = feeds_once server_driven old new (take used bytes) (seen event) fed;
    wrote = subst (λ (l : List ℕ). writing.some before after l) is begun;
  }

  pub call_ends : (old new : Server) (bytes : List ℕ) (before : D) (fault : ServerFault) →
      fault_of new ≡ Some fault →
      (fault ≢ NoMemory → (serving : Serving) → RefusedBy (server serving) (StandsFor serving) old bytes fault) →
      (fault ≡ NoMemory → (serving : Serving) → RunsOutBy (server serving) AsksMemory (StandsFor serving) old bytes) →
      KeepsNotes fault old bytes new → IsEndedBy writing old bytes before before fault new
  call_ends old new bytes before fault fails refused starved kept = record {
    fed = [];
    slice = bytes;
    sent = [];
    last = old;
    bytes_are = refl;
    hears = feeds_none server_driven old;
    wrote = joins.none before;
    ends = record { fails = fails; refused = refused; starved = starved; kept = kept };
  }

  -- calls one after another
  pub hears_more : (old : Server) (bytes rest : List ℕ) (before mid after : D) (last : Server)
      (used : ℕ) (new : Server) → HeardBy writing old bytes rest before mid last →
      IsAnsweredBy writing last (take used rest) mid after new →
      HeardBy writing old bytes (take (length rest - used) (drop used rest)) before after new
  hears_more old bytes rest before mid after last used new was more = record {
    fed = was.fed ++ take used rest;
    sent = was.sent ++ more.sent;
    bytes_are = was.bytes_are
        ∙ ap (λ (l : List ℕ). was.fed ++ l) (sym (take-append-drop used rest))
        ∙ sym (append_assoc was.fed (take used rest) (drop used rest))
        ∙ ap (λ (l : List ℕ). (was.fed ++ take used rest) ++ l) (sym (rest_is rest used));
    hears = feeds_then server_driven old last new was.fed was.sent (take used rest) more.sent 0 0 was.hears more.hears;
    wrote = joins.then before mid after was.sent more.sent was.wrote more.wrote;
  }

  pub hears_whole : (old : Server) (bytes rest : List ℕ) (before after : D) (now : Server) →
      HeardBy writing old bytes rest before after now → rest ≡ [] →
      IsAnsweredBy writing old bytes before after now
  hears_whole old bytes rest before after now was none = record {
    sent = was.sent;
    hears = subst (λ (l : List ℕ). Hears old l was.sent now)
        (sym (was.bytes_are ∙ ap (λ (l : List ℕ). was.fed ++ l) none ∙ append-nil was.fed)) was.hears;
    wrote = was.wrote;
  }

  -- why it stops after calls
  pub hears_until : (old : Server) (bytes rest : List ℕ) (before mid after : D) (last : Server)
      (failed_before failed_mid failed : ℕ) (fault : EngineFault) (new : Server) →
      HeardBy writing old bytes rest before mid last → failed_mid ≡ failed_before →
      StopsHearing writing last rest mid after failed_mid failed fault new →
      StopsHearing writing old bytes before after failed_before failed fault new
  hears_until old bytes rest before mid after last fb fm failed (ServerEnded fault) new was same stops = record {
    fed = was.fed ++ stops.fed;
    slice = stops.slice;
    sent = was.sent ++ stops.sent;
    last = stops.last;
    bytes_are = all_parts bytes was.fed rest stops.fed stops.slice was.bytes_are stops.bytes_are;
    hears = feeds_then server_driven old last stops.last was.fed was.sent stops.fed stops.sent 0 0 was.hears
        stops.hears;
    wrote = joins.then before mid after was.sent stops.sent was.wrote stops.wrote;
    ends = stops.ends;
  }
  hears_until old bytes rest before mid after last fb fm failed Device new was same stops =
      let cut = stops.1 in (
        subst (λ (k : ℕ). failed ≡ k + 1) same stops.0,
        record {
          fed = was.fed ++ cut.fed;
          later = cut.later;
          sent = was.sent ++ cut.sent;
          bytes_are = all_parts bytes was.fed rest cut.fed cut.later was.bytes_are cut.bytes_are;
          hears = feeds_then server_driven old last new was.fed was.sent cut.fed cut.sent 0 0 was.hears cut.hears;
          wrote = joins.stops before mid after was.sent cut.sent was.wrote cut.wrote;
        },
      )
  hears_until old bytes rest before mid after last fb fm failed (ViewerEnded fault) new was same stops = stops
  hears_until old bytes rest before mid after last fb fm failed Truncated new was same stops = stops
  hears_until old bytes rest before mid after last fb fm failed EngineNoMemory new was same stops = stops

-- ---- the same by what is known of the bytes

abbrev pub Heard : Server → List ℕ → List ℕ → Option (List ℕ) → Option (List ℕ) → Server → Type 0
Heard old bytes rest before after now = HeardBy by_bytes old bytes rest before after now

pub heard_none : (old : Server) (bytes : List ℕ) (before : Option (List ℕ)) → Heard old bytes bytes before before old
heard_none = hears_no_byte by_bytes bytes_join

pub call_heard : (old new : Server) (bytes : List ℕ) (used : ℕ) (event : Option ServerEvent)
    (before after : Option (List ℕ)) (answer : List ℕ) →
    ((serving : Serving) → FedBy (server serving) (StandsFor serving) old (take used bytes) (seen event) new) →
    answer ≡ server_reply (seen event) → Appends before after answer →
    IsAnswered old (take used bytes) before after new
call_heard = hears_call by_bytes bytes_join

pub call_ended : (old new : Server) (bytes : List ℕ) (before : Option (List ℕ)) (fault : ServerFault) →
    fault_of new ≡ Some fault →
    (fault ≢ NoMemory → (serving : Serving) → RefusedBy (server serving) (StandsFor serving) old bytes fault) →
    (fault ≡ NoMemory → (serving : Serving) → RunsOutBy (server serving) AsksMemory (StandsFor serving) old bytes) →
    KeepsNotes fault old bytes new → IsEnded old bytes before before fault new
call_ended = call_ends by_bytes bytes_join

pub heard_more : (old : Server) (bytes rest : List ℕ) (before mid after : Option (List ℕ)) (last : Server)
    (used : ℕ) (new : Server) → Heard old bytes rest before mid last →
    IsAnswered last (take used rest) mid after new →
    Heard old bytes (take (length rest - used) (drop used rest)) before after new
heard_more = hears_more by_bytes bytes_join

pub heard_all : (old : Server) (bytes rest : List ℕ) (before after : Option (List ℕ)) (now : Server) →
    Heard old bytes rest before after now → rest ≡ [] → IsAnswered old bytes before after now
heard_all = hears_whole by_bytes bytes_join

pub hearing_stops : (old : Server) (bytes rest : List ℕ) (before mid after : Option (List ℕ)) (last : Server)
    (failed_before failed_mid failed : ℕ) (fault : EngineFault) (new : Server) →
    Heard old bytes rest before mid last → failed_mid ≡ failed_before →
    StopsHearing by_bytes last rest mid after failed_mid failed fault new →
    StopsHearing by_bytes old bytes before after failed_before failed fault new
hearing_stops = hears_until by_bytes bytes_join
