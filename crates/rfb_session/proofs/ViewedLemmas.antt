-- What an engine has done with a viewer that it asks for updates, after all of its reads.
use Rattle.std.proofs.Common.{◌≡◌, ℕ, ◌+◌, ◌-◌, ◌^◌, ◌<◌, ◌≤◌, true, List, [], ◌++◌, Option, Some, None, Result, Ok}
use Rattle.std.proofs.Common.{Err, IfErr, length, take, sym, ap, ◌∙◌, subst, append_assoc, append-nil, length-append}
use Rattle.std.proofs.Common.{length-take-le, arith, inl}
use Rattle.std.specs.Io.KnownBytes.{Consumes, Keeps, IsAtEnd}
use Rattle.std.proofs.KnownBytes.{Appends-trans, Consumes-nil, Consumes-trans, Consumes-kept}
use Rattle.rfb_viewer.specs.declared.viewer.Viewer.{Viewer}
use Rattle.rfb_session.specs.declared.engine.fault.EngineFault.{EngineFault}
use Rattle.rfb_session.specs.declared.engine.fault.EngineFault.TheVariants.{Server as ServerEnded}
use Rattle.rfb_session.specs.declared.engine.fault.EngineFault.TheVariants.{Viewer as ViewerEnded, Truncated, Device}
use Rattle.rfb_session.specs.declared.engine.fault.EngineFault.TheVariants.{NoMemory as EngineNoMemory}
use Rattle.rfb_session.specs.ViewEngine.{KeepsUntil, RunsInTurn, HasViewed, HasMissed, ViewedSome, StopsViewing}
use Rattle.rfb_session.specs.EngineRead.{due_until, Looks, HasLooked, StopsLooking}
use Rattle.rfb_session.specs.Watcher.{EndsLooking, EndsViewing}
use Rattle.rfb_session.proofs.WrittenLemmas.{whole_beginning}
use Rattle.rfb_session.proofs.PlayLemmas.{none_left}
use Rattle.rfb_session.specs.Wire.{by_bytes}
use Rattle.rfb_session.proofs.WireLemmas.{begun_after, bytes_join}
use Rattle.rfb_session.proofs.ViewLemmas.{turn_then, kept_as}
use Rattle.rfb_session.proofs.LookLemmas.{open_turn, looks_at_none, looks_then, first_then}

-- ---- all reads

-- what was read was fed, each read gave some, and updates are looked for
pub record ViewedSoFar (unread left before after blank copied : Option (List ℕ)) (old : Viewer)
    (reads asked fewer : ℕ) (now : Viewer) : Type 0 where
  pub fed : List ℕ
  pub looks : Looks by_bytes old fed asked fewer before after blank copied now
  pub read : Consumes unread left fed
  pub going : 0 < fewer
  pub some : reads ≤ length fed

pub viewing_none : (unread before blank : Option (List ℕ)) (old : Viewer) (asked : ℕ) → 0 < asked →
    ViewedSoFar unread unread before before blank blank old 0 asked asked old
viewing_none unread before blank old asked some = record {
  fed = [];
  looks = looks_at_none by_bytes bytes_join old asked before blank some;
  read = Consumes-nil unread;
  going = some;
  some = omega arith;
}

pub few_taken : (n : ℕ) (buf : List ℕ) → n ≤ length buf → length buf ≡ 32768 → length (take n buf) ≤ 32768
few_taken n buf within size = omega (arith, within, size, length-take-le n buf within)

one_more : (reads old new : ℕ) → reads ≤ old → 0 < new → reads + 1 ≤ old + new
one_more reads old new few some = omega (arith, few, some)

whole_read : (unread mid left : Option (List ℕ)) (fed bytes more later : List ℕ) →
    Consumes unread mid fed → Consumes mid left bytes → bytes ≡ more ++ later →
    Consumes unread left ((fed ++ more) ++ later)
whole_read unread mid left fed bytes more later was now is =
    subst (λ (l : List ℕ). Consumes unread left l)
    (ap (λ (l : List ℕ). fed ++ l) is ∙ sym (append_assoc fed more later))
    (Consumes-trans unread mid left fed bytes was now)

-- of one read that gave some bytes
pub viewing_more : (unread mid left before w after blank k copied : Option (List ℕ)) (old : Viewer)
    (reads asked still fewer : ℕ) (last : Viewer) (bytes : List ℕ) (new : Viewer) →
    ViewedSoFar unread mid before w blank k old reads asked still last → Consumes mid left bytes →
    0 < length bytes → HasLooked by_bytes last bytes still fewer w after k copied new → 0 < fewer →
    ViewedSoFar unread left before after blank copied old (reads + 1) asked fewer new
viewing_more unread mid left before w after blank k copied old reads asked still fewer last bytes
    new was more some looked going =
    let all : bytes ≡ looked.fed =
    looked.bytes_are ∙ ap (λ (l : List ℕ). looked.fed ++ l) (looked.all going) ∙ append-nil looked.fed in
    record {
      fed = was.fed ++ bytes;
      looks = looks_then by_bytes bytes_join old last new was.fed bytes asked still fewer before w after blank k copied
          was.looks was.going
          (subst (λ (l : List ℕ). Looks by_bytes last l still fewer w after k copied new) (sym all) looked.looks);
      read = Consumes-trans unread mid left was.fed bytes was.read more;
      going = going;
      some = subst (λ (n : ℕ). reads + 1 ≤ n) (sym (length-append was.fed bytes))
          (one_more reads (length was.fed) (length bytes) was.some some);
    }

pub and_nothing : (n : ℕ) → n + 0 ≡ n
and_nothing n = omega arith

-- the last update ended
pub viewing_ends : (unread mid left before w after blank k copied : Option (List ℕ)) (old : Viewer)
    (reads asked still : ℕ) (last : Viewer) (bytes : List ℕ) (new : Viewer) →
    ViewedSoFar unread mid before w blank k old reads asked still last → Consumes mid left bytes →
    HasLooked by_bytes last bytes still 0 w after k copied new →
    HasViewed unread left before after blank copied old asked new
viewing_ends unread mid left before w after blank k copied old reads asked still last bytes new was more looked =
    let all = looks_then by_bytes bytes_join old last new was.fed looked.fed asked still 0 before w after blank k copied
    was.looks was.going looked.looks in
    record {
      fed = was.fed ++ looked.fed;
      later = looked.later;
      sent = all.sent;
      read = whole_read unread mid left was.fed bytes looked.fed looked.later was.read more
          looked.bytes_are;
      runs = subst (λ (n : ℕ). RunsInTurn old (was.fed ++ looked.fed) all.sent n (Some true) new)
          (sym (all.counted ∙ and_nothing all.updates)) all.runs;
      wrote = all.wrote;
      kept = all.kept;
    }

pub fewer_than : (asked n fewer : ℕ) → asked ≡ n + fewer → 0 < fewer → n < asked
fewer_than asked n fewer is some = omega (arith, is, some)

-- the bytes ended before it did
pub viewing_misses : (unread mid left before after blank copied : Option (List ℕ)) (old : Viewer)
    (reads asked fewer : ℕ) (now : Viewer) →
    ViewedSoFar unread mid before after blank copied old reads asked fewer now →
    Consumes mid left [] → IsAtEnd left → HasMissed unread left before after blank copied old asked now
viewing_misses unread mid left before after blank copied old reads asked fewer now was none end = record {
  fed = was.fed;
  sent = was.looks.sent;
  ended = was.looks.updates;
  fewer = fewer_than asked was.looks.updates fewer was.looks.counted was.going;
  read = subst (λ (l : List ℕ). Consumes unread left l) (append-nil was.fed)
      (Consumes-trans unread mid left was.fed [] was.read none);
  all = λ bytes known few. end;
  runs = open_turn old now was.fed was.looks.sent was.looks.updates fewer was.going was.looks.runs;
  wrote = was.looks.wrote;
  kept = was.looks.kept;
}

pub viewing_out : (unread left before after blank copied : Option (List ℕ)) (old : Viewer)
    (reads asked fewer : ℕ) (now : Viewer) →
    ViewedSoFar unread left before after blank copied old reads asked fewer now →
    2 ^ 64 - 1 ≤ reads → HasMissed unread left before after blank copied old asked now
viewing_out unread left before after blank copied old reads asked fewer now was out = record {
  fed = was.fed;
  sent = was.looks.sent;
  ended = was.looks.updates;
  fewer = fewer_than asked was.looks.updates fewer was.looks.counted was.going;
  read = was.read;
  all = λ bytes known few.
      none_left unread left was.fed bytes (2 ^ 64 - 1) was.read (omega (arith, out, was.some)) known few;
  runs = open_turn old now was.fed was.looks.sent was.looks.updates fewer was.going was.looks.runs;
  wrote = was.looks.wrote;
  kept = was.looks.kept;
}

-- a read failed
pub viewing_unread : (unread mid left before after blank copied : Option (List ℕ)) (old : Viewer)
    (reads asked fewer : ℕ) (now : Viewer) →
    ViewedSoFar unread mid before after blank copied old reads asked fewer now → Keeps mid left →
    ViewedSome unread left before after blank copied old now
viewing_unread unread mid left before after blank copied old reads asked fewer now was kept = record {
  fed = was.fed;
  later = [];
  sent = was.looks.sent;
  updates = was.looks.updates;
  asks = due_until fewer;
  read = subst (λ (l : List ℕ). Consumes unread left l) (sym (append-nil was.fed))
      (Consumes-kept unread mid left was.fed was.read kept);
  runs = was.looks.runs;
  wrote = whole_beginning before after was.looks.sent was.looks.wrote;
  kept = whole_beginning blank copied was.fed was.looks.kept;
  first = inl was.looks.kept;
}

-- it stopped within a read
pub looking_fails : (unread mid left before w after blank k copied : Option (List ℕ)) (old : Viewer)
    (reads asked still : ℕ) (last : Viewer) (bytes : List ℕ)
    (failing failed all_failing all_failed : ℕ) (fault : EngineFault) (new : Viewer) →
    ViewedSoFar unread mid before w blank k old reads asked still last → Consumes mid left bytes →
    (failed ≡ failing → all_failed ≡ all_failing) →
    (failed ≡ failing + 1 → all_failed ≡ all_failing + 1) →
    StopsLooking by_bytes last bytes w after k copied failing failed fault new →
    StopsViewing unread left before after blank copied all_failing all_failed old asked fault new
looking_fails unread mid left before w after blank k copied old reads asked still last bytes fb failed fa af
    (ViewerEnded fault) new was more same counted stops =
    let kept : KeepsUntil blank copied (was.fed ++ stops.fed) stops.slice fa af = (
      stops.kept.0,
      Appends-trans blank k stops.kept.0 was.fed stops.fed was.looks.kept stops.kept.1,
      kept_as stops.kept.0 copied stops.slice fb failed fa af same counted stops.kept.2,
    ) in
    search (
      whole_read unread mid left was.fed bytes stops.fed stops.slice was.read more stops.read,
      turn_then old last stops.last was.fed was.looks.sent stops.fed stops.sent was.looks.updates stops.updates None
          (open_turn old last was.fed was.looks.sent was.looks.updates still was.going was.looks.runs) stops.runs,
      Appends-trans before w after was.looks.sent stops.sent was.looks.wrote stops.wrote,
      kept,
      stops.ends,
    )
looking_fails unread mid left before w after blank k copied old reads asked still last bytes fb failed fa af Device
    new was more same counted stops =
    let cut = stops.1 in (
      counted stops.0,
      search (
        whole_read unread mid left was.fed bytes cut.fed cut.later was.read more cut.bytes_are,
        turn_then old last new was.fed was.looks.sent cut.fed cut.sent was.looks.updates cut.updates cut.asks
            (open_turn old last was.fed was.looks.sent was.looks.updates still was.going was.looks.runs) cut.runs,
        begun_after before w after was.looks.sent cut.sent was.looks.wrote cut.wrote,
        begun_after blank k copied was.fed cut.fed was.looks.kept cut.kept,
        first_then by_bytes bytes_join old last was.fed cut.fed asked still before w after blank k copied
            was.looks was.going cut.first,
      ),
    )
looking_fails unread mid left before w after blank k copied old reads asked still last bytes fb failed fa af
    (ServerEnded fault) new was more same counted stops = absurd stops
looking_fails unread mid left before w after blank k copied old reads asked still last bytes fb failed fa af Truncated
    new was more same counted stops = absurd stops
looking_fails unread mid left before w after blank k copied old reads asked still last bytes fb failed fa af
    EngineNoMemory new was more same counted stops = absurd stops

-- counts that are others
pub stops_as : (unread left before after blank copied : Option (List ℕ)) (old : Viewer)
    (asked failing failed all_failing all_failed : ℕ) (fault : EngineFault) (new : Viewer) →
    failing ≡ all_failing → failed ≡ all_failed →
    StopsViewing unread left before after blank copied failing failed old asked fault new →
    StopsViewing unread left before after blank copied all_failing all_failed old asked fault new
stops_as unread left before after blank copied old asked failing failed fa af fault new was is stops =
    subst (λ (n : ℕ). StopsViewing unread left before after blank copied n af old asked fault new) was
    (subst (λ (n : ℕ). StopsViewing unread left before after blank copied failing n old asked fault new)
    is stops)

pub then_viewed : (left asked n m : ℕ) (later : List ℕ) (last : Viewer) (fault : EngineFault) (new : Viewer) →
    EndsLooking left (Err fault) new n later last → EndsViewing asked (Err fault) new m later last
then_viewed left asked n m later last (ViewerEnded fault) new ends = ends
then_viewed left asked n m later last Device new ends = ends
then_viewed left asked n m later last fault new ends = absurd ends

-- where the answer is an error, what follows of what it says of each
pub err_each : {A E : Type 0} (r : Result A E) (P Q : E → Type 0) → ((e : E) → P e → Q e) →
    IfErr r P → IfErr r Q
err_each (Ok a) P Q so p = tt
err_each (Err e) P Q so p = so e p
