-- What an engine does with a viewer that it asks for updates, read by read.
use Rattle.std.proofs.Common.{◌≡◌, ℕ, ◌+◌, ◌-◌, ◌<◌, Bool, List, [], ◌++◌, Option, None, Err, length, take, drop, refl}
use Rattle.std.proofs.Common.{sym, ap, ◌∙◌, subst, append_assoc, take-append-drop, arith, inl, inr}
use Rattle.std.proofs.KnownBytes.{Appends-nil, Appends-trans}
use Rattle.rfb_viewer.specs.declared.viewer.Viewer.{Viewer}
use Rattle.rfb_session.specs.declared.engine.fault.EngineFault.{EngineFault}
use Rattle.rfb_session.specs.declared.engine.fault.EngineFault.TheVariants.{Server as ServerEnded}
use Rattle.rfb_session.specs.declared.engine.fault.EngineFault.TheVariants.{Viewer as ViewerEnded, Truncated, Device}
use Rattle.rfb_session.specs.declared.engine.fault.EngineFault.TheVariants.{NoMemory as EngineNoMemory}
use Rattle.rfb_session.specs.ViewEngine.{RunsInTurn, KeepsLast, KeepsFirst, KeepsUntil}
use Rattle.rfb_session.specs.EngineRead.{due_until, Looks, HasLooked, StopsLooking}
use Rattle.rfb_session.specs.Watcher.{EndsLooking}
use Rattle.rfb_session.proofs.WrittenLemmas.{rest_is}
use Rattle.rfb_session.specs.Wire.{Writing}
use Rattle.rfb_session.proofs.WireLemmas.{Joins, begun_after}
use Rattle.rfb_session.proofs.EngineRunLemmas.{only_one}
use Rattle.rfb_session.proofs.ViewLemmas.{turn_none, turn_then, until_some}

-- where updates are looked for, none of a run's requests is due
pub open_turn : (old now : Viewer) (fed sent : List ℕ) (n fewer : ℕ) → 0 < fewer →
    RunsInTurn old fed sent n (due_until fewer) now → RunsInTurn old fed sent n None now
open_turn old now fed sent n fewer some runs =
    subst (λ (asks : Option Bool). RunsInTurn old fed sent n asks now) (until_some fewer some) runs

pub more_counted : (left n mid m fewer : ℕ) → left ≡ n + mid → mid ≡ m + fewer → left ≡ (n + m) + fewer
more_counted left n mid m fewer was is = omega (arith, was, is)

all_parts : (bytes fed rest more slice : List ℕ) → bytes ≡ fed ++ rest → rest ≡ more ++ slice →
    bytes ≡ (fed ++ more) ++ slice
all_parts bytes fed rest more slice is parts =
    is ∙ ap (λ (l : List ℕ). fed ++ l) parts ∙ sym (append_assoc fed more slice)

module _ {D : Type 0} where
  -- of some bytes the first were fed
  pub record LooksSoFar (writing : Writing D) (old : Viewer) (bytes rest : List ℕ) (left fewer : ℕ)
      (before after : D) (blank copied : Option (List ℕ)) (now : Viewer) : Type 0 where
    pub fed : List ℕ
    pub bytes_are : bytes ≡ fed ++ rest
    pub looks : Looks writing old fed left fewer before after blank copied now

-- ---- one read, however bytes are written
module _ {D : Type 0} (writing : Writing D) (joins : Joins writing) where
  pub looks_at_none : (old : Viewer) (left : ℕ) (before : D) (blank : Option (List ℕ)) → 0 < left →
      Looks writing old [] left left before before blank blank old
  looks_at_none old left before blank some = record {
    sent = [];
    updates = 0;
    counted = only_one left;
    runs = subst (λ (asks : Option Bool). RunsInTurn old [] [] 0 asks old)
        (sym (until_some left some)) (turn_none old);
    wrote = joins.none before;
    kept = Appends-nil blank;
  }

  pub looks_then : (old last new : Viewer) (fed bytes : List ℕ) (left mid fewer : ℕ)
      (before w after : D) (blank k copied : Option (List ℕ)) → Looks writing old fed left mid before w blank k last →
      0 < mid → Looks writing last bytes mid fewer w after k copied new →
      Looks writing old (fed ++ bytes) left fewer before after blank copied new
  looks_then old last new fed bytes left mid fewer before w after blank k copied was some more = record {
    sent = was.sent ++ more.sent;
    updates = was.updates + more.updates;
    counted = more_counted left was.updates mid more.updates fewer was.counted more.counted;
    runs = turn_then old last new fed was.sent bytes more.sent was.updates more.updates
        (due_until fewer) (open_turn old last fed was.sent was.updates mid some was.runs) more.runs;
    wrote = joins.then before w after was.sent more.sent was.wrote more.wrote;
    kept = Appends-trans blank k copied fed bytes was.kept more.kept;
  }

  -- what is kept first of more bytes
  pub first_then : (old last : Viewer) (fed more : List ℕ) (left mid : ℕ) (before w after : D)
      (blank k copied : Option (List ℕ)) → Looks writing old fed left mid before w blank k last → 0 < mid →
      KeepsFirst writing last more w after k copied →
      KeepsFirst writing old (fed ++ more) before after blank copied
  first_then old last fed more left mid before w after blank k copied was some (inl all) =
      inl (Appends-trans blank k copied fed more was.kept all)
  first_then old last fed more left mid before w after blank k copied was some (inr part) = inr (record {
    earlier = fed ++ part.earlier;
    part = part.part;
    sent = was.sent ++ part.sent;
    updates = was.updates + part.updates;
    last = part.last;
    mid = part.mid;
    fed_is = ap (λ (l : List ℕ). fed ++ l) part.fed_is ∙ sym (append_assoc fed part.earlier part.part);
    runs = turn_then old last part.last fed was.sent part.earlier part.sent was.updates part.updates None
        (open_turn old last fed was.sent was.updates mid some was.runs) part.runs;
    wrote = joins.then before w after was.sent part.sent was.wrote part.wrote;
    kept = Appends-trans blank k part.mid fed part.earlier was.kept part.kept;
    begun = part.begun;
  })

  pub looking_none : (old : Viewer) (bytes : List ℕ) (left : ℕ) (before : D) (blank : Option (List ℕ)) →
      0 < left → LooksSoFar writing old bytes bytes left left before before blank blank old
  looking_none old bytes left before blank some = record {
    fed = [];
    bytes_are = refl;
    looks = looks_at_none old left before blank some;
  }

  pub looking_more : (old : Viewer) (bytes rest : List ℕ) (left mid fewer : ℕ)
      (before w after : D) (blank k copied : Option (List ℕ)) (last : Viewer) (used : ℕ) (new : Viewer) →
      LooksSoFar writing old bytes rest left mid before w blank k last → 0 < mid →
      Looks writing last (take used rest) mid fewer w after k copied new →
      LooksSoFar writing old bytes (take (length rest - used) (drop used rest)) left fewer before after
      blank copied new
  looking_more old bytes rest left mid fewer before w after blank k copied last used new was some more = record {
    fed = was.fed ++ take used rest;
    bytes_are = was.bytes_are
        ∙ ap (λ (l : List ℕ). was.fed ++ l) (sym (take-append-drop used rest))
        ∙ sym (append_assoc was.fed (take used rest) (drop used rest))
        ∙ ap (λ (l : List ℕ). (was.fed ++ take used rest) ++ l) (sym (rest_is rest used));
    looks = looks_then old last new was.fed (take used rest) left mid fewer before w after blank k
        copied was.looks some more;
  }

  pub looking_done : (old : Viewer) (bytes rest : List ℕ) (left fewer : ℕ)
      (before after : D) (blank copied : Option (List ℕ)) (now : Viewer) →
      LooksSoFar writing old bytes rest left fewer before after blank copied now →
      (0 < fewer → rest ≡ []) → HasLooked writing old bytes left fewer before after blank copied now
  looking_done old bytes rest left fewer before after blank copied now was none = record {
    fed = was.fed;
    later = rest;
    bytes_are = was.bytes_are;
    all = none;
    looks = was.looks;
  }

  -- why it stops after calls
  pub looking_stops : (old : Viewer) (bytes rest : List ℕ) (left mid : ℕ)
      (before w after : D) (blank k copied : Option (List ℕ)) (last : Viewer)
      (failing failed_mid failed : ℕ) (fault : EngineFault) (new : Viewer) →
      LooksSoFar writing old bytes rest left mid before w blank k last → 0 < mid → failed_mid ≡ failing →
      StopsLooking writing last rest w after k copied failed_mid failed fault new →
      StopsLooking writing old bytes before after blank copied failing failed fault new
  looking_stops old bytes rest left mid before w after blank k copied last fb fm failed (ViewerEnded fault) new was
      some same stops =
      let kept : KeepsUntil blank copied (was.fed ++ stops.fed) stops.slice fb failed = (
        stops.kept.0,
        Appends-trans blank k stops.kept.0 was.fed stops.fed was.looks.kept stops.kept.1,
        subst (λ (n : ℕ). KeepsLast stops.kept.0 copied stops.slice n failed) same stops.kept.2,
      ) in
      search (
        all_parts bytes was.fed rest stops.fed stops.slice was.bytes_are stops.read,
        turn_then old last stops.last was.fed was.looks.sent stops.fed stops.sent was.looks.updates stops.updates None
            (open_turn old last was.fed was.looks.sent was.looks.updates mid some was.looks.runs) stops.runs,
        joins.then before w after was.looks.sent stops.sent was.looks.wrote stops.wrote,
        kept,
        stops.ends,
      )
  looking_stops old bytes rest left mid before w after blank k copied last fb fm failed Device new was some same stops =
      let cut = stops.1 in (
        subst (λ (n : ℕ). failed ≡ n + 1) same stops.0,
        search (
          all_parts bytes was.fed rest cut.fed cut.later was.bytes_are cut.bytes_are,
          turn_then old last new was.fed was.looks.sent cut.fed cut.sent was.looks.updates cut.updates cut.asks
              (open_turn old last was.fed was.looks.sent was.looks.updates mid some was.looks.runs) cut.runs,
          joins.stops before w after was.looks.sent cut.sent was.looks.wrote cut.wrote,
          begun_after blank k copied was.fed cut.fed was.looks.kept cut.kept,
          first_then old last was.fed cut.fed left mid before w after blank k copied was.looks some cut.first,
        ),
      )
  looking_stops old bytes rest left mid before w after blank k copied last fb fm failed (ServerEnded fault) new was
      some same stops = absurd stops
  looking_stops old bytes rest left mid before w after blank k copied last fb fm failed Truncated new was some same
      stops = absurd stops
  looking_stops old bytes rest left mid before w after blank k copied last fb fm failed EngineNoMemory new was some
      same stops = absurd stops

-- a fault of a read is reported of all alike
pub still_looked : (left before n m : ℕ) (later : List ℕ) (last : Viewer) (fault : EngineFault) (new : Viewer) →
    EndsLooking left (Err fault) new n later last → EndsLooking before (Err fault) new m later last
still_looked left before n m later last (ViewerEnded fault) new ends = ends
still_looked left before n m later last Device new ends = ends
still_looked left before n m later last fault new ends = absurd ends
