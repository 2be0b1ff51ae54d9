-- Bytes that an engine feeds a viewer until enough updates ended, call by call and read by read.
use Rattle.std.proofs.Common.{◌≡◌, ℕ, ◌+◌, ◌-◌, ◌^◌, ◌<◌, ◌≤◌, min, List, ◌++◌, Option, Some, None, length}
use Rattle.std.proofs.Common.{take, drop, refl, sym, ap, ◌∙◌, subst, append_assoc, take-append-drop, arith}
use Rattle.std.proofs.Common.{false, IfSome}
use Rattle.std.specs.Io.KnownBytes.{Consumes}
use Rattle.std.proofs.KnownBytes.{Consumes-trans}
use Rattle.rfb_viewer.specs.declared.fault.ViewerFault.{ViewerFault}
use Rattle.rfb_viewer.specs.declared.viewer.Viewer.{Viewer}
use Rattle.rfb_viewer.specs.Told.{ViewerTold, Reply, Ready, UpdateDone, Bell, CutText, ColourMapSkipped}
use Rattle.rfb_session.specs.InFlight.{viewer_reply}
use Rattle.rfb_session.specs.ViewerActs.{viewer_driven, WasFed, EndsBy, EndsWithin, StandsBetween, ends_told}
use Rattle.rfb_session.specs.declared.engine.fault.EngineFault.{EngineFault}
use Rattle.rfb_session.specs.declared.engine.fault.EngineFault.TheVariants.{Truncated, Device, Viewer as ViewerEnded}
use Rattle.rfb_session.specs.Playback.{AllPlayed, Played, PlayedUntil, StopsPlaying}
use Rattle.rfb_session.specs.FirstUpdates.{WasCounted, IsWatchedFirst, PlayedFirst}
use Rattle.rfb_session.specs.FirstUpdates.{AreEnough, AreFewer, AreNoFewer, AreNoMore, StopsPlayingUpTo}
use Rattle.rfb_session.proofs.WrittenLemmas.{rest_is}
use Rattle.rfb_session.proofs.EngineRunLemmas.{ran_then, ran_fed}
use Rattle.rfb_session.proofs.PlayLemmas.{Watched, Reading}

pub counts_none : (n : ℕ) → n < 2 ^ 64 → n ≡ min (n + 0) (2 ^ 64 - 1)
counts_none n few = omega (arith, few)

pub counts_on : (before n m told now : ℕ) → told ≡ min (before + n) (2 ^ 64 - 1) →
    now ≡ min (told + m) (2 ^ 64 - 1) → now ≡ min (before + (n + m)) (2 ^ 64 - 1)
counts_on before n m told now was is = omega (arith, was, is)

-- a call whose bytes are all after
pub some_more : (old : Viewer) (bytes : List ℕ) (before : ℕ) (rest : List ℕ) (told : ℕ)
    (mid : Viewer) (used : ℕ) (new : Viewer) (now : ℕ) → Watched old bytes before rest told mid →
    WasCounted mid (take used rest) told now new →
    Watched old bytes before (take (length rest - used) (drop used rest)) now new
some_more old bytes before rest told mid used new now was call = record {
  fed = was.fed ++ take used rest;
  sent = was.sent ++ viewer_reply call.event;
  updates = was.updates + ends_told call.event;
  bytes_are = was.bytes_are ∙ ap (λ (l : List ℕ). was.fed ++ l) (sym (take-append-drop used rest))
      ∙ sym (append_assoc was.fed (take used rest) (drop used rest))
      ∙ ap (λ (l : List ℕ). (was.fed ++ take used rest) ++ l) (sym (rest_is rest used));
  told_is = counts_on before was.updates (ends_told call.event) told now was.told_is call.told_is;
  runs = ran_then viewer_driven old mid new was.fed was.sent (take used rest)
      (viewer_reply call.event) was.updates (ends_told call.event) was.runs
      (ran_fed viewer_driven mid new (take used rest) call.event call.fed);
}

-- what ends an update
pub is_end : (event : Option ViewerTold) → 0 < ends_told event → event ≡ Some UpdateDone
is_end None some = absurd (omega (arith, some))
is_end (Some (Reply bytes)) some = absurd (omega (arith, some))
is_end (Some (Ready bytes width height name name_length)) some = absurd (omega (arith, some))
is_end (Some UpdateDone) some = refl
is_end (Some Bell) some = absurd (omega (arith, some))
is_end (Some (CutText kept text_length)) some = absurd (omega (arith, some))
is_end (Some ColourMapSkipped) some = absurd (omega (arith, some))

at_most_one : (event : Option ViewerTold) → ends_told event ≤ 1
at_most_one None = omega arith
at_most_one (Some (Reply bytes)) = omega arith
at_most_one (Some (Ready bytes width height name name_length)) = omega arith
at_most_one (Some UpdateDone) = omega arith
at_most_one (Some Bell) = omega arith
at_most_one (Some (CutText kept text_length)) = omega arith
at_most_one (Some ColourMapSkipped) = omega arith

-- a count that was not enough and is now went one up
one_up : (before n m told now enough : ℕ) → told ≡ min (before + n) (2 ^ 64 - 1) →
    now ≡ min (told + m) (2 ^ 64 - 1) → told < enough → enough ≤ now → m ≤ 1 →
    (0 < m) × (now ≡ before + n + 1)
one_up before n m told now enough was is few many one =
    (omega (arith, was, is, few, many, one), omega (arith, was, is, few, many, one))

-- a call that ends the last update
some_first : (old : Viewer) (bytes : List ℕ) (before : ℕ) (rest : List ℕ) (told : ℕ)
    (mid : Viewer) (used : ℕ) (new : Viewer) (now enough : ℕ) →
    Watched old bytes before rest told mid → WasCounted mid (take used rest) told now new →
    told < enough → enough ≤ now → IsWatchedFirst old bytes before now new
some_first old bytes before rest told mid used new now enough was call few many =
    let one = one_up before was.updates (ends_told call.event) told now enough was.told_is
    call.told_is few many (at_most_one call.event) in
    record {
      fed = was.fed;
      ending = take used rest;
      later = drop used rest;
      sent = was.sent;
      updates = was.updates;
      mid = mid;
      read = was.bytes_are
          ∙ ap (λ (l : List ℕ). was.fed ++ l) (sym (take-append-drop used rest))
          ∙ sym (append_assoc was.fed (take used rest) (drop used rest));
      runs = was.runs;
      ends = subst (λ (event : Option ViewerTold). WasFed mid (take used rest) event new)
          (is_end call.event one.0) call.fed;
      enough_is = one.1;
    }

-- ---- whether a number of updates is enough

pub few_at_first : (enough : Option ℕ) → IfSome enough (λ n. 1 ≤ n) → AreFewer enough 0
few_at_first None some = tt
few_at_first (Some n) some = omega (arith, some)

pub few_at_most : (enough : Option ℕ) (told : ℕ) → AreFewer enough told → AreNoMore enough told
few_at_most None told few = tt
few_at_most (Some n) told few = omega (arith, few)

pub few_not_enough : (enough : Option ℕ) (told : ℕ) → AreFewer enough told → AreEnough enough told → ⊥
few_not_enough None told few same = same
few_not_enough (Some n) told few same = omega (arith, few, same)

pub few_not_many : (enough : Option ℕ) (told : ℕ) → AreFewer enough told → AreNoFewer enough told → ⊥
few_not_many None told few many = many
few_not_many (Some n) told few many = omega (arith, few, many)

pub never_many : (enough : Option ℕ) (told : ℕ) → enough ≡ None → AreNoFewer enough told → ⊥
never_many enough told none many = subst (λ (e : Option ℕ). AreNoFewer e told) none many

few_below : (enough : Option ℕ) (told now : ℕ) → AreFewer enough told → AreNoFewer enough now → told < now
few_below None told now few many = absurd many
few_below (Some n) told now few many = omega (arith, few, many)

pub counted_at_most : (enough : Option ℕ) (mid : Viewer) (bytes : List ℕ) (told now : ℕ) (new : Viewer) →
    AreFewer enough told → WasCounted mid bytes told now new → AreNoMore enough now
counted_at_most None mid bytes told now new few call = tt
counted_at_most (Some n) mid bytes told now new few call =
    omega (arith, few, call.told_is, at_most_one call.event)

pub some_enough : (enough : Option ℕ) (old : Viewer) (bytes : List ℕ) (before : ℕ) (rest : List ℕ) (told : ℕ)
    (mid : Viewer) (used : ℕ) (new : Viewer) (now : ℕ) → Watched old bytes before rest told mid →
    WasCounted mid (take used rest) told now new → AreFewer enough told → AreNoFewer enough now →
    IsWatchedFirst old bytes before now new
some_enough None old bytes before rest told mid used new now was call few many = absurd many
some_enough (Some n) old bytes before rest told mid used new now was call few many =
    some_first old bytes before rest told mid used new now n was call few many

-- why playing stops, with a number or without
pub device_up_to : (enough : Option ℕ) (unread left : Option (List ℕ)) (failing failed : ℕ) (old : Viewer)
    (updates : ℕ) (new : Viewer) → failed ≡ failing + 1 → Played unread left old updates new →
    StopsPlayingUpTo enough unread left failing failed old Device new
device_up_to None unread left failing failed old updates new one played = (one, updates, played)
device_up_to (Some n) unread left failing failed old updates new one played = (one, updates, played)

pub until_up_to : (enough : Option ℕ) (unread left : Option (List ℕ)) (failing failed : ℕ) (old : Viewer)
    (fault : ViewerFault) (new : Viewer) → PlayedUntil unread left old fault new →
    StopsPlayingUpTo enough unread left failing failed old (ViewerEnded fault) new
until_up_to None unread left failing failed old fault new until = until
until_up_to (Some n) unread left failing failed old fault new until = until

pub cut_up_to : (enough : Option ℕ) (unread left : Option (List ℕ)) (failing failed : ℕ) (old : Viewer)
    (told : ℕ) (new : Viewer) → AreFewer enough told → AllPlayed unread left old told new →
    StandsBetween new false → StopsPlayingUpTo enough unread left failing failed old Truncated new
cut_up_to None unread left failing failed old told new few all cut = (told, all, cut)
cut_up_to (Some n) unread left failing failed old told new few all cut = (told, few, all, cut)

pub all_up_to : (enough : Option ℕ) (unread left : Option (List ℕ)) (failing failed : ℕ) (old : Viewer)
    (fault : EngineFault) (new : Viewer) → enough ≡ None →
    StopsPlayingUpTo enough unread left failing failed old fault new →
    StopsPlaying unread left failing failed old fault new
all_up_to enough unread left failing failed old fault new none stops =
    subst (λ (e : Option ℕ). StopsPlayingUpTo e unread left failing failed old fault new) none stops

-- the viewer ended after calls
pub some_until : (old : Viewer) (bytes : List ℕ) (before : ℕ) (rest : List ℕ) (told : ℕ)
    (last : Viewer) (fault : ViewerFault) (new : Viewer) → Watched old bytes before rest told last →
    EndsBy fault last rest new → EndsWithin old bytes fault new
some_until old bytes before rest told last fault new was ends = record {
  fed = was.fed;
  slice = rest;
  last = last;
  bytes_are = was.bytes_are;
  runs = (was.sent, was.updates, was.runs);
  ends = ends;
}

exact : (told n enough m : ℕ) → told ≡ min n (2 ^ 64 - 1) → told < enough → enough < 2 ^ 64 →
    enough ≡ told + m + 1 → enough ≡ (n + m) + 1
exact told n enough m is few fits was = omega (arith, is, few, fits, was)

-- of one read that brought enough
reading_first : (unread mid left : Option (List ℕ)) (old : Viewer) (reads told : ℕ)
    (last : Viewer) (bytes : List ℕ) (enough : ℕ) (new : Viewer) →
    Reading unread mid old reads told last → Consumes mid left bytes → told < enough →
    enough < 2 ^ 64 → IsWatchedFirst last bytes told enough new →
    PlayedFirst unread left old enough new
reading_first unread mid left old reads told last bytes enough new was more few fits watched = record {
  fed = was.fed ++ watched.fed;
  ending = watched.ending;
  later = watched.later;
  sent = was.sent ++ watched.sent;
  updates = was.updates + watched.updates;
  mid = watched.mid;
  read = subst (λ (l : List ℕ). Consumes unread left l)
      (ap (λ (l : List ℕ). was.fed ++ l) watched.read
      ∙ sym (append_assoc was.fed (watched.fed ++ watched.ending) watched.later)
      ∙ ap (λ (l : List ℕ). l ++ watched.later)
      (sym (append_assoc was.fed watched.fed watched.ending)))
      (Consumes-trans unread mid left was.fed bytes was.read more);
  runs = ran_then viewer_driven old last watched.mid was.fed was.sent watched.fed watched.sent
      was.updates watched.updates was.runs watched.runs;
  ends = watched.ends;
  enough_is = exact told was.updates enough watched.updates was.told_is few fits watched.enough_is;
}

pub reading_enough : (enough : Option ℕ) (unread mid left : Option (List ℕ)) (old : Viewer) (reads told : ℕ)
    (last : Viewer) (bytes : List ℕ) (now : ℕ) (new : Viewer) →
    Reading unread mid old reads told last → Consumes mid left bytes → AreFewer enough told →
    AreNoFewer enough now → now < 2 ^ 64 → IsWatchedFirst last bytes told now new →
    PlayedFirst unread left old now new
reading_enough enough unread mid left old reads told last bytes now new was more few many fits watched =
    reading_first unread mid left old reads told last bytes now new was more (few_below enough told now few many)
    fits watched
