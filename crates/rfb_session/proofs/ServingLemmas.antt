-- What an engine does with a server, read by read.
use Rattle.std.proofs.Common.{◌≡◌, ℕ, ◌+◌, ◌-◌, ◌^◌, ◌<◌, ◌≤◌, min, List, [], ◌++◌, Option, length, length-append, refl}
use Rattle.std.proofs.Common.{sym, ap, ◌∙◌, subst, append_assoc, append-nil, arith}
use Rattle.std.specs.Io.KnownBytes.{Appends, Consumes, Keeps, IsAtEnd}
use Rattle.std.proofs.KnownBytes.{Appends-nil, Appends-trans, Consumes-nil, Consumes-trans, Consumes-kept}
use Rattle.rfb_server.specs.declared.server.Server.{Server}
use Rattle.rfb_session.specs.declared.engine.fault.EngineFault.{EngineFault}
use Rattle.rfb_session.specs.declared.engine.fault.EngineFault.TheVariants.{Server as ServerEnded}
use Rattle.rfb_session.specs.declared.engine.fault.EngineFault.TheVariants.{Viewer as ViewerEnded, Truncated, Device}
use Rattle.rfb_session.specs.declared.engine.fault.EngineFault.TheVariants.{NoMemory as EngineNoMemory}
use Rattle.rfb_session.specs.Devices.{AppendsBeginning}
use Rattle.rfb_session.specs.Playback.{most}
use Rattle.rfb_session.specs.Wire.{by_bytes}
use Rattle.rfb_session.specs.ServeEngine.{GoesOn, IsGreeting}
use Rattle.rfb_session.specs.ServeEngine.{server_driven, ServerRuns, RunsToIdle, KeepsIdle, RunsFromIdle, IsHeard}
use Rattle.rfb_session.specs.ServeEngine.{IsUpdated, StopsHearing, StopsUpdating, AllServed, ServedSome, StopsServing}
use Rattle.rfb_session.proofs.WrittenLemmas.{whole_beginning}
use Rattle.rfb_session.proofs.PlayLemmas.{none_left}
use Rattle.rfb_session.proofs.EngineRunLemmas.{none_more, joined, ran_none}
use Rattle.rfb_session.proofs.WireLemmas.{begun_after}
use Rattle.rfb_session.proofs.ServeLemmas.{hears_runs, composed_runs, kept_runs}

-- ---- all reads

-- what was read was fed and answered, and no update is due
pub record ServedSoFar (unread left before after : Option (List ℕ)) (old : Server) (reads told : ℕ)
    (now : Server) : Type 0 where
  pub fed : List ℕ
  pub sent : List ℕ
  pub updates : ℕ
  pub read : Consumes unread left fed
  pub runs : KeepsIdle old fed sent updates now
  pub wrote : Appends before after sent
  pub told_is : told ≡ most updates
  pub some : reads ≤ length fed

pub serving_none : (unread before : Option (List ℕ)) (old : Server) →
    ServedSoFar unread unread before before old 0 0 old
unfolding ran_none
serving_none unread before old = record {
  fed = [];
  sent = [];
  updates = 0;
  read = Consumes-nil unread;
  runs = λ serving s prefix stands idle. (ran_none server_driven old serving s prefix stands, idle);
  wrote = Appends-nil before;
  told_is = refl;
  some = omega arith;
}

-- runs of a server one after another; after the first no update was due
idle_then : (old last new : Server) (fed sent more_fed more_sent : List ℕ) (n m : ℕ) → KeepsIdle old fed sent n last →
    ServerRuns last more_fed more_sent m new → RunsFromIdle old (fed ++ more_fed) (sent ++ more_sent) (n + m) new
idle_then old last new fed sent more_fed more_sent n m one two = λ serving s prefix stands idle.
    let a = one serving s prefix stands idle in
    joined server_driven serving s prefix last new fed sent more_fed more_sent (fed ++ more_fed)
    (sent ++ more_sent) n m (n + m) refl refl refl a.0
    (two serving a.0.state a.0.rest a.0.stands)

from_idle_then : (old last new : Server) (fed sent more_sent : List ℕ) (n m : ℕ) → RunsFromIdle old fed sent n last →
    ServerRuns last [] more_sent m new → RunsFromIdle old fed (sent ++ more_sent) (n + m) new
from_idle_then old last new fed sent more_sent n m one two = λ serving s prefix stands idle.
    let a = one serving s prefix stands idle in
    joined server_driven serving s prefix last new fed sent [] more_sent fed
    (sent ++ more_sent) n m (n + m) (sym (append-nil fed)) refl refl a
    (two serving a.state a.rest a.stands)

from_idle_to : (old last new : Server) (fed sent more_sent : List ℕ) (n m : ℕ) → RunsFromIdle old fed sent n last →
    RunsToIdle last [] more_sent m new → KeepsIdle old fed (sent ++ more_sent) (n + m) new
from_idle_to old last new fed sent more_sent n m one two = λ serving s prefix stands idle.
    let a = one serving s prefix stands idle in
    let b = two serving a.state a.rest a.stands in (
      joined server_driven serving s prefix last new fed sent [] more_sent fed
          (sent ++ more_sent) n m (n + m) (sym (append-nil fed)) refl refl a b.0,
      b.1,
    )

forget_idle : (old new : Server) (fed sent : List ℕ) (n : ℕ) → KeepsIdle old fed sent n new →
    RunsFromIdle old fed sent n new
forget_idle old new fed sent n one = λ serving s prefix stands idle. (one serving s prefix stands idle).0

-- a read whose bytes were heard
heard_after : (old last new : Server) (fed sent bytes : List ℕ) (n : ℕ) (before after : Option (List ℕ)) →
    KeepsIdle old fed sent n last → (h : IsHeard last bytes before after new) →
    RunsFromIdle old (fed ++ bytes) (sent ++ h.sent) n new
heard_after old last new fed sent bytes n before after one h =
    subst (λ (k : ℕ). RunsFromIdle old (fed ++ bytes) (sent ++ h.sent) k new) (sym (none_more n))
    (idle_then old last new fed sent bytes h.sent n 0 one h.runs)

pub goes_on : (n m told now : ℕ) → told ≡ min n (2 ^ 64 - 1) → now ≡ min (told + m) (2 ^ 64 - 1) →
    now ≡ min (n + m) (2 ^ 64 - 1)
goes_on n m told now was is = omega (arith, was, is)

one_more : (reads old new : ℕ) → reads ≤ old → 0 < new → reads + 1 ≤ old + new
one_more reads old new few some = omega (arith, few, some)

-- a read, and an update or none after it
pub serving_more : (unread mid left before w x after : Option (List ℕ)) (old : Server) (reads told : ℕ)
    (last heard : Server) (bytes : List ℕ) (n now : ℕ) (new : Server) →
    ServedSoFar unread mid before w old reads told last →
    Consumes mid left bytes → 0 < length bytes → IsHeard last bytes w x heard → IsUpdated heard x after n new →
    now ≡ min (told + n) (2 ^ 64 - 1) → ServedSoFar unread left before after old (reads + 1) now new
serving_more unread mid left before w x after old reads told last heard bytes n now new was more some h u is = record {
  fed = was.fed ++ bytes;
  sent = (was.sent ++ h.sent) ++ u.sent;
  updates = was.updates + n;
  read = Consumes-trans unread mid left was.fed bytes was.read more;
  runs = from_idle_to old heard new (was.fed ++ bytes) (was.sent ++ h.sent) u.sent was.updates n
      (heard_after old last heard was.fed was.sent bytes was.updates w x was.runs h) u.runs;
  wrote = Appends-trans before x after (was.sent ++ h.sent) u.sent
      (Appends-trans before w x was.sent h.sent was.wrote h.wrote) u.wrote;
  told_is = goes_on was.updates n told now was.told_is is;
  some = subst (λ (k : ℕ). reads + 1 ≤ k) (sym (length-append was.fed bytes))
      (one_more reads (length was.fed) (length bytes) was.some some);
}

-- at the end of what there is
pub serving_ends : (unread mid left before after : Option (List ℕ)) (old : Server) (reads told : ℕ) (now : Server) →
    ServedSoFar unread mid before after old reads told now → Consumes mid left [] → IsAtEnd left →
    AllServed unread left before after [] old told now
serving_ends unread mid left before after old reads told now was none end = record {
  fed = was.fed;
  sent = was.sent;
  updates = was.updates;
  told_is = was.told_is;
  read = subst (λ (l : List ℕ). Consumes unread left l) (append-nil was.fed)
      (Consumes-trans unread mid left was.fed [] was.read none);
  runs = was.runs;
  wrote = was.wrote;
  ended = λ bytes known few. end;
}

pub serving_out : (unread left before after : Option (List ℕ)) (old : Server) (reads told : ℕ) (now : Server) →
    ServedSoFar unread left before after old reads told now → 2 ^ 64 - 1 ≤ reads →
    AllServed unread left before after [] old told now
serving_out unread left before after old reads told now was out = record {
  fed = was.fed;
  sent = was.sent;
  updates = was.updates;
  told_is = was.told_is;
  read = was.read;
  runs = was.runs;
  wrote = was.wrote;
  ended = λ bytes known few.
      none_left unread left was.fed bytes (2 ^ 64 - 1) was.read (omega (arith, out, was.some)) known few;
}

-- a read failed
pub serving_unread : (unread mid left before after : Option (List ℕ)) (old : Server) (reads told : ℕ) (now : Server) →
    ServedSoFar unread mid before after old reads told now → Keeps mid left →
    ServedSome unread left before after [] old now
serving_unread unread mid left before after old reads told now was kept = record {
  fed = was.fed;
  later = [];
  sent = was.sent;
  updates = was.updates;
  read = subst (λ (l : List ℕ). Consumes unread left l) (sym (append-nil was.fed))
      (Consumes-kept unread mid left was.fed was.read kept);
  runs = forget_idle old now was.fed was.sent was.updates was.runs;
  wrote = whole_beginning before after was.sent was.wrote;
}

joined_after : (fed bytes more later : List ℕ) → bytes ≡ more ++ later → fed ++ bytes ≡ (fed ++ more) ++ later
joined_after fed bytes more later is = ap (λ (l : List ℕ). fed ++ l) is ∙ sym (append_assoc fed more later)

pub one_of_two : (r s w x v : ℕ) → s ≡ r → w ≡ v → x ≡ w + 1 → s + x ≡ r + v + 1
one_of_two r s w x v a b c = omega (arith, a, b, c)

-- it stopped within a read
pub hearing_fails : (unread mid left before w after : Option (List ℕ)) (old : Server) (reads told : ℕ) (last : Server)
    (bytes : List ℕ) (failing failed_read stuck failed_mid failed : ℕ) (fault : EngineFault) (new : Server) →
    ServedSoFar unread mid before w old reads told last → Consumes mid left bytes → failed_read ≡ failing →
    failed_mid ≡ stuck → StopsHearing by_bytes last bytes w after failed_mid failed fault new →
    StopsServing unread left failing failed_read before after stuck failed [] old fault new
hearing_fails unread mid left before w after old reads told last bytes fr fs st fm failed (ServerEnded fault) new was
    more same none stops = record {
      fed = was.fed ++ stops.fed;
      slice = stops.slice;
      last = stops.last;
      bytes_are =
          subst (λ (l : List ℕ). Consumes unread left l)
          (joined_after was.fed bytes stops.fed stops.slice stops.bytes_are)
          (Consumes-trans unread mid left was.fed bytes was.read more);
      runs = (
        was.sent ++ stops.sent,
        was.updates + 0,
        idle_then old last stops.last was.fed was.sent stops.fed stops.sent was.updates 0 was.runs
            (hears_runs last stops.last stops.fed stops.sent stops.hears),
        Appends-trans before w after was.sent stops.sent was.wrote stops.wrote,
      );
      ends = stops.ends;
    }
hearing_fails unread mid left before w after old reads told last bytes fr fs st fm failed Device
    new was more same none stops =
    let cut = stops.1 in (
      one_of_two fr fs fm failed st same none stops.0,
      record {
        fed = was.fed ++ cut.fed;
        later = cut.later;
        sent = was.sent ++ cut.sent;
        updates = was.updates + 0;
        read =
            subst (λ (l : List ℕ). Consumes unread left l) (joined_after was.fed bytes cut.fed cut.later cut.bytes_are)
            (Consumes-trans unread mid left was.fed bytes was.read more);
        runs = idle_then old last new was.fed was.sent cut.fed cut.sent was.updates 0 was.runs
            (hears_runs last new cut.fed cut.sent cut.hears);
        wrote = begun_after before w after was.sent cut.sent was.wrote cut.wrote;
      },
    )
hearing_fails unread mid left before w after old reads told last bytes fr fs st fm failed (ViewerEnded fault) new
    was more same none stops = stops
hearing_fails unread mid left before w after old reads told last bytes fr fs st fm failed Truncated new was more
    same none stops = absurd stops
hearing_fails unread mid left before w after old reads told last bytes fr fs st fm failed EngineNoMemory new was more
    same none stops = absurd stops

-- or after it
pub updating_fails : (unread mid left before w x after : Option (List ℕ)) (old : Server) (reads told : ℕ)
    (last heard : Server) (bytes : List ℕ) (failing failed_read stuck failed_mid failed : ℕ)
    (fault : EngineFault) (new : Server) →
    ServedSoFar unread mid before w old reads told last → Consumes mid left bytes → IsHeard last bytes w x heard →
    failed_read ≡ failing → failed_mid ≡ stuck → StopsUpdating by_bytes heard x after failed_mid failed fault new →
    StopsServing unread left failing failed_read before after stuck failed [] old fault new
updating_fails unread mid left before w x after old reads told last heard bytes fr fs st fm failed Device new
    was more h same none stops = (
      one_of_two fr fs fm failed st same none stops.0,
      record {
        fed = was.fed ++ bytes;
        later = [];
        sent = (was.sent ++ h.sent) ++ stops.1;
        updates = was.updates + 1;
        read = subst (λ (l : List ℕ). Consumes unread left l) (sym (append-nil (was.fed ++ bytes)))
            (Consumes-trans unread mid left was.fed bytes was.read more);
        runs = from_idle_then old heard new (was.fed ++ bytes) (was.sent ++ h.sent) stops.1 was.updates 1
            (heard_after old last heard was.fed was.sent bytes was.updates w x was.runs h)
            (composed_runs heard new [] stops.1 stops.2 refl);
        wrote = begun_after before x after (was.sent ++ h.sent) stops.1
            (Appends-trans before w x was.sent h.sent was.wrote h.wrote) stops.3;
      },
    )
updating_fails unread mid left before w x after old reads told last heard bytes fr fs st fm failed EngineNoMemory new
    was more h same none stops = record {
      fed = was.fed ++ bytes;
      later = [];
      sent = (was.sent ++ h.sent) ++ [];
      updates = was.updates + 0;
      read = subst (λ (l : List ℕ). Consumes unread left l) (sym (append-nil (was.fed ++ bytes)))
          (Consumes-trans unread mid left was.fed bytes was.read more);
      runs = from_idle_then old heard new (was.fed ++ bytes) (was.sent ++ h.sent) [] was.updates 0
          (heard_after old last heard was.fed was.sent bytes was.updates w x was.runs h)
          (kept_runs heard new stops.1);
      wrote = whole_beginning before after ((was.sent ++ h.sent) ++ [])
          (Appends-trans before x after (was.sent ++ h.sent) []
          (Appends-trans before w x was.sent h.sent was.wrote h.wrote) stops.2);
    }
updating_fails unread mid left before w x after old reads told last heard bytes fr fs st fm failed (ServerEnded fault)
    new was more h same none stops = absurd stops
updating_fails unread mid left before w x after old reads told last heard bytes fr fs st fm failed (ViewerEnded fault)
    new was more h same none stops = absurd stops
updating_fails unread mid left before w x after old reads told last heard bytes fr fs st fm failed Truncated new was
    more h same none stops = absurd stops

-- ---- after a greeting

-- what holds of its bytes holds after it
pub goes_after : (After : List ℕ → Type 0) (old : Server) (greeting : List ℕ) → IsGreeting old greeting →
    After greeting → GoesOn After old
goes_after After old greeting is goes_on = record { greeting = greeting; greeting_is = is; goes_on = goes_on }

pub front_all : (unread left start before after : Option (List ℕ)) (front : List ℕ)
    (old : Server) (told : ℕ) (now : Server) →
    Appends start before front → AllServed unread left before after [] old told now →
    AllServed unread left start after front old told now
front_all unread left start before after front old told now wrote all =
    search (all, Appends-trans start before after front all.sent wrote all.wrote)

front_some : (unread left start before after : Option (List ℕ)) (front : List ℕ) (old now : Server) →
    Appends start before front → ServedSome unread left before after [] old now →
    ServedSome unread left start after front old now
front_some unread left start before after front old now wrote some =
    search (some, begun_after start before after front some.sent wrote some.wrote)

pub front_stops : (unread left : Option (List ℕ)) (failing failed : ℕ) (start before after : Option (List ℕ))
    (stuck stuck_mid stopped : ℕ) (front : List ℕ) (old : Server) (fault : EngineFault) (new : Server) →
    Appends start before front → stuck_mid ≡ stuck →
    StopsServing unread left failing failed before after stuck_mid stopped [] old fault new →
    StopsServing unread left failing failed start after stuck stopped front old fault new
front_stops unread left r s start before after v w x front old Truncated new wrote same stops =
    (stops.0, front_all unread left start before after front old stops.0 new wrote stops.1, stops.2)
front_stops unread left r s start before after v w x front old Device new wrote same stops = (
  subst (λ (k : ℕ). s + x ≡ r + k + 1) same stops.0,
  front_some unread left start before after front old new wrote stops.1,
)
front_stops unread left r s start before after v w x front old EngineNoMemory new wrote same stops =
    front_some unread left start before after front old new wrote stops
front_stops unread left r s start before after v w x front old (ServerEnded fault) new wrote same stops =
    search (stops, Appends-trans start before after front stops.runs.0 wrote stops.runs.3)
front_stops unread left r s start before after v w x front old (ViewerEnded fault) new wrote same stops = stops

-- the greeting was not written whole
pub unheard : (unread start after : Option (List ℕ)) (front : List ℕ) (old : Server) →
    AppendsBeginning start after front →
    ServedSome unread unread start after front old old
unheard unread start after front old begun = record {
  fed = [];
  later = [];
  sent = [];
  updates = 0;
  read = Consumes-nil unread;
  runs = λ serving s prefix stands idle. ran_none server_driven old serving s prefix stands;
  wrote = subst (λ (l : List ℕ). AppendsBeginning start after l) (sym (append-nil front)) begun;
}
