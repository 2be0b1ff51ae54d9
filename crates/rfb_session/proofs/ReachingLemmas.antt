-- Bytes that reach the ends of a link, as runs of these ends.
use Rattle.std.proofs.Common.{◌≡◌, ◌≢◌, ℕ, ◌+◌, ◌-◌, ◌≤◌, ◌<◌, Bool, true, false, ◌||◌, List, []}
use Rattle.std.proofs.Common.{◌++◌, length, take, drop, drop-drop, Option, None, Some, ◌⊎◌, inl}
use Rattle.std.proofs.Common.{inr, refl, sym, ap, ◌∙◌, subst, append-nil, append_assoc, arith}
use Rattle.std.proofs.Math.Seq.{take-add}
use Rattle.rfb_pixel.specs.declared.colour.Colour.{Colour}
use Rattle.rfb_picture.specs.Grid.{Grid}
use Rattle.rfb_wire.specs.stream.End.{FedBy}
use Rattle.rfb_server.specs.Server.{Serving, server}
use Rattle.rfb_server.specs.declared.session.Session.{Session}
use Rattle.rfb_server.specs.Model.{SessionStandsFor, session_fault}
use Rattle.rfb_server.specs.Told.{ServerTold}
use Rattle.rfb_viewer.specs.Viewer.{Viewing, viewer}
use Rattle.rfb_viewer.specs.declared.viewer.Viewer.{Viewer}
use Rattle.rfb_viewer.specs.Model.{StandsFor as ViewerStandsFor, fault_of}
use Rattle.rfb_viewer.specs.Told.{ViewerTold}
use Rattle.rfb_session.specs.declared.link.Link.{Link}
use Rattle.rfb_session.specs.InFlight.{viewer_reply, server_reply}
use Rattle.rfb_session.specs.LinkBytes.{session_driven, IsSole, sole_told, HearsOver, SessionEndsBy, ReachesSession}
use Rattle.rfb_session.specs.LinkBytes.{TellsSole, ViewerEndsBy, ReachesViewer, ReachesBy, IsFedAll}
use Rattle.rfb_session.specs.LinkBytes.{IsBesideSession, IsBesideViewer, ReachesSessionBy, ReachesViewerBy}
use Rattle.rfb_session.specs.EngineRun.{TakesNone}
use Rattle.rfb_session.specs.ViewerActs.{viewer_driven, ViewerFeeds, ends_told}
use Rattle.rfb_session.specs.ends.LinkDelivery.{HasHeard, EndsHearing, HasWatched, EndsWatching}
use Rattle.rfb_session.proofs.EngineRunLemmas.{feeds_none, feeds_once, feeds_then, takes_none, takes_none_then}
use Rattle.rfb_session.proofs.DeliveringLemmas.{fed_first}

-- ---- whether a client asks for the screen alone

never_sole : IsSole false 0
never_sole = record { some = λ e. cc; none = λ e. refl }

sole_sum : (p q : Bool) (m n : ℕ) → IsSole p m → IsSole q n → IsSole (p || q) (m + n)
sole_sum true q m n one two = record { some = λ e. omega (arith, one.some refl); none = λ e. cc }
sole_sum false true m n one two = record { some = λ e. omega (arith, two.some refl); none = λ e. cc }
sole_sum false false m n one two = record { some = λ e. cc; none = λ e. omega (arith, one.none refl, two.none refl) }

-- ---- an end

module _ {V : Type 0} (end : Link → V) (comes goes : Link → List ℕ)
    (feeds : V → List ℕ → List ℕ → ℕ → V → Type 0) (has_failed : V → Type 0)
    (keeps : Link → Link → Type 0) where
  abbrev Reaches : (V → List ℕ → V → Type 0) → Link → ℕ → Link → Type 0
  Reaches ends_at a k b = ReachesBy end comes goes feeds has_failed keeps ends_at a k b

  -- some of them, all at once
  reach_all : (old new : Link) (bytes sent : List ℕ) (count told : ℕ) → take count (comes old) ≡ bytes →
      feeds (end old) bytes sent told (end new) →
      (has_failed (end old) → TakesNone (end old) bytes sent told (end new)) →
      comes new ≡ drop count (comes old) → goes new ≡ goes old ++ sent → keeps old new →
      Reaches IsFedAll old count new
  reach_all old new bytes sent count told are hears failed gone answered beside =
      let parts : take count (comes old) ≡ bytes ++ [] = are ∙ sym (append-nil bytes) in
      search parts

  -- all that there were: it ended at them
  reach_last : (ends_at : V → List ℕ → V → Type 0) (old new : Link) (bytes : List ℕ) (count : ℕ) →
      feeds (end old) [] [] 0 (end old) → bytes ≡ take count (comes old) → ends_at (end old) bytes (end new) →
      comes new ≡ drop count (comes old) → goes new ≡ goes old → keeps old new → Reaches ends_at old count new
  reach_last ends_at old new bytes count none are ends gone same beside =
      let parts : take count (comes old) ≡ [] ++ bytes = sym are in
      let answered : goes new ≡ goes old ++ [] = same ∙ sym (append-nil (goes old)) in
      search (parts, answered, takes_none (end old))

  -- some, and then some more
  reach_then : (ends_at : V → List ℕ → V → Type 0) (a b c : Link) (k j : ℕ) →
      ((v w x : V) (fed sent more_fed more_sent : List ℕ) (n m : ℕ) → feeds v fed sent n w →
      feeds w more_fed more_sent m x → feeds v (fed ++ more_fed) (sent ++ more_sent) (n + m) x) →
      (keeps a b → keeps b c → keeps a c) → Reaches IsFedAll a k b → Reaches ends_at b j c →
      Reaches ends_at a (k + j) c
  reach_then ends_at a b c k j joins beside one two =
      let first : take k (comes a) ≡ one.fed =
      one.bytes_are ∙ ap (λ (l : List ℕ). one.fed ++ l) one.ends.0 ∙ append-nil one.fed in
      let takes : has_failed (end a) → TakesNone (end a) one.fed one.sent one.told (end b) =
      λ some. subst (λ (v : V). TakesNone (end a) one.fed one.sent one.told v) (sym one.ends.1) (one.failed some) in
      record {
        fed = one.fed ++ two.fed;
        later = two.later;
        sent = one.sent ++ two.sent;
        told = one.told + two.told;
        last = two.last;
        bytes_are = take-add k j (comes a)
            ∙ ap (λ (rest : List ℕ). take k (comes a) ++ take j rest) (sym one.gone)
            ∙ ap (λ (rest : List ℕ). take k (comes a) ++ rest) two.bytes_are
            ∙ ap (λ (l : List ℕ). l ++ (two.fed ++ two.later)) first
            ∙ sym (append_assoc one.fed two.fed two.later);
        hears = joins (end a) (end b) two.last one.fed one.sent two.fed two.sent one.told two.told
            (subst (λ (v : V). feeds (end a) one.fed one.sent one.told v) (sym one.ends.1) one.hears) two.hears;
        failed = λ some. takes_none_then (end a) (end b) two.last one.fed one.sent two.fed two.sent one.told
            two.told (takes some)
            (two.failed (subst (λ (v : V). has_failed v) (sym (takes some).same) some));
        ends = two.ends;
        gone = two.gone ∙ ap (λ (rest : List ℕ). drop j rest) one.gone ∙ drop-drop j k (comes a);
        answered = two.answered ∙ ap (λ (l : List ℕ). l ++ two.sent) one.answered
            ∙ append_assoc (goes a) one.sent two.sent;
        beside = beside one.beside two.beside;
      }

module _ {V : Type 0} {end : Link → V} {comes goes : Link → List ℕ}
    {feeds : V → List ℕ → List ℕ → ℕ → V → Type 0} {has_failed : V → Type 0}
    {keeps : Link → Link → Type 0} {ends_at or_so : V → List ℕ → V → Type 0} {old : Link} {count : ℕ}
    {new : Link} where
  -- the same, with less said of how it ends
  reach_as : ReachesBy end comes goes feeds has_failed keeps ends_at old count new →
      ((last : V) (later : List ℕ) → ends_at last later (end new) → or_so last later (end new)) →
      ReachesBy end comes goes feeds has_failed keeps or_so old count new
  reach_as r allows = search (r, allows r.last r.later r.ends)

-- calls so far that left some, and one more: it goes on, or it ended at the last
goes_on : (So Once Both Last Ended : ℕ → Type 0) (ended : Type 0) (used left all : ℕ) → 0 < used →
    used ≤ left → left ≤ all → ((k j : ℕ) → So k → Once j → Both (k + j)) →
    ((k j : ℕ) → So k → Last j → Ended (k + j)) →
    So (all - left) ⊎ ((left ≡ 0) × ended) → Once used ⊎ ((used ≡ left) × Last left) →
    Both (all - (left - used)) ⊎ ((left - used ≡ 0) × Ended all)
goes_on So Once Both Last Ended ended used left all some part within more last (inr (none, one)) two =
    absurd (omega (arith, some, part, none))
goes_on So Once Both Last Ended ended used left all some part within more last (inl one) (inl two) =
    let sum : (all - left) + used ≡ all - (left - used) = omega (arith, part, within) in
    inl (subst (λ (n : ℕ). Both n) sum (more (all - left) used one two))
goes_on So Once Both Last Ended ended used left all some part within more last (inl one) (inr (whole, two)) =
    let sum : (all - left) + left ≡ all = omega (arith, within) in
    inr (omega (arith, whole), subst (λ (n : ℕ). Ended n) sum (last (all - left) left one two))

-- all calls
all_done : (So : ℕ → Type 0) (Ended : Type 0) (left all : ℕ) → all - left ≡ all →
    So (all - left) ⊎ ((left ≡ 0) × Ended) → So all ⊎ Ended
all_done So Ended left all is (inl one) = inl (subst (λ (n : ℕ). So n) is one)
all_done So Ended left all is (inr (none, ended)) = inr ended

-- ---- the session

session_then : (ends_at : Session → List ℕ → Session → Type 0) (a b c : Link) (k j : ℕ) →
    ReachesSessionBy IsFedAll a k b → ReachesSessionBy ends_at b j c → ReachesSessionBy ends_at a (k + j) c
session_then ends_at a b c k j one two =
    reach_then (λ (w : Link). w.session) (λ (w : Link). w.to_server) (λ (w : Link). w.to_viewer) HearsOver
    (λ (s : Session). session_fault s ≢ None) IsBesideSession ends_at a b c k j
    (λ v w x fed sent more_fed more_sent n m first second screen. feeds_then (session_driven screen) v w x fed sent
    more_fed more_sent n m (first screen) (second screen))
    (λ first second. record { viewer = second.viewer ∙ first.viewer; latest = second.latest ∙ first.latest })
    one two

session_all : (old new : Link) (bytes sent : List ℕ) (count told : ℕ) → take count old.to_server ≡ bytes →
    HearsOver old.session bytes sent told new.session →
    (session_fault old.session ≢ None → TakesNone old.session bytes sent told new.session) →
    new.to_server ≡ drop count old.to_server → new.to_viewer ≡ old.to_viewer ++ sent →
    IsBesideSession old new → ReachesSessionBy IsFedAll old count new
session_all =
    reach_all (λ (w : Link). w.session) (λ (w : Link). w.to_server) (λ (w : Link). w.to_viewer) HearsOver
    (λ (s : Session). session_fault s ≢ None) IsBesideSession

-- no bytes
pub heard_none : (w : Link) → HasHeard w 0 false w
unfolding session_all reach_all
heard_none w = (
  session_all w w [] [] 0 0 refl (λ screen. feeds_none (session_driven screen) w.session)
      (λ some. takes_none w.session) refl (sym (append-nil w.to_viewer)) (record { viewer = refl; latest = refl }),
  never_sole,
)

-- one call
pub heard_once : (old new : Link) (bytes : List ℕ) (count used : ℕ) (sole : Bool) (event : Option ServerTold) →
    session_fault old.session ≡ None → count ≤ length old.to_server → bytes ≡ take count old.to_server → used ≤
    length bytes →
    ((serving : Serving) (screen : Grid Colour) → FedBy (server serving) (SessionStandsFor serving screen)
    old.session (take used bytes) event new.session) →
    new.viewer ≡ old.viewer → new.to_server ≡ drop used old.to_server →
    new.to_viewer ≡ old.to_viewer ++ server_reply event → new.latest ≡ old.latest → IsSole sole (sole_told event) →
    HasHeard old used sole new
unfolding session_all reach_all
heard_once old new bytes count used sole event going few is some fed same gets sends latest asked = (
  session_all old new (take used bytes) (server_reply event) used (sole_told event)
      (sym (fed_first old.to_server bytes count used few is some).1)
      (λ screen. feeds_once (session_driven screen) old.session new.session (take used bytes) event
      (λ serving. fed serving screen))
      (λ some. absurd (some going)) gets sends (record { viewer = same; latest = latest }),
  asked,
)

-- some, and then some more: its client asked for the screen alone in one of the two, or in none
heard_then : (ends_at : Session → List ℕ → Session → Type 0) (a b c : Link) (k j : ℕ) (p q : Bool) →
    HasHeard a k p b → (r : ReachesSessionBy ends_at b j c) × IsSole q r.told →
    (r : ReachesSessionBy ends_at a (k + j) c) × IsSole (p || q) r.told
unfolding session_then reach_then
heard_then ends_at a b c k j p q one two = (
  session_then ends_at a b c k j one.0 two.0,
  sole_sum p q one.0.told two.0.told one.1 two.1,
)

-- a call that it ends at
pub heard_last : (old new : Link) (bytes : List ℕ) (count : ℕ) → bytes ≡ take count old.to_server →
    SessionEndsBy old.session bytes new.session → new.viewer ≡ old.viewer →
    new.to_server ≡ drop count old.to_server → new.to_viewer ≡ old.to_viewer → new.latest ≡ old.latest →
    EndsHearing old count false new
unfolding reach_last
heard_last old new bytes count is ends same gets sends latest = (
  reach_last (λ (w : Link). w.session) (λ (w : Link). w.to_server) (λ (w : Link). w.to_viewer) HearsOver
      (λ (s : Session). session_fault s ≢ None) IsBesideSession SessionEndsBy old new bytes count
      (λ screen. feeds_none (session_driven screen) old.session) is ends gets sends
      (record { viewer = same; latest = latest }),
  never_sole,
)

-- what reached it, either way, and whether its client asked for the screen alone
pub heard_tells : (old new : Link) (count : ℕ) (sole : Bool) →
    HasHeard old count sole new ⊎ EndsHearing old count sole new → TellsSole old count sole new
unfolding reach_as
heard_tells old new count sole (inl all) = (reach_as all.0 (λ last later ends. inl ends), all.1)
heard_tells old new count sole (inr ended) = (reach_as ended.0 (λ last later ends. inr ends), ended.1)

pub heard_reaches : (old new : Link) (count : ℕ) (sole : Bool) →
    HasHeard old count sole new ⊎ EndsHearing old count sole new → ReachesSession old count new
heard_reaches old new count sole reached = (heard_tells old new count sole reached).0

-- calls so far, and one more
pub heard_goes_on : (a b c : Link) (used left all : ℕ) (p q : Bool) → 0 < used → used ≤ left → left ≤ all →
    HasHeard a (all - left) p b ⊎ ((left ≡ 0) × EndsHearing a all p b) →
    HasHeard b used q c ⊎ ((used ≡ left) × EndsHearing b left q c) →
    HasHeard a (all - (left - used)) (p || q) c ⊎ ((left - used ≡ 0) × EndsHearing a all (p || q) c)
heard_goes_on a b c used left all p q some part within =
    goes_on (λ n. HasHeard a n p b) (λ n. HasHeard b n q c) (λ n. HasHeard a n (p || q) c)
    (λ n. EndsHearing b n q c) (λ n. EndsHearing a n (p || q) c) (EndsHearing a all p b) used left all some part
    within (λ k j. heard_then IsFedAll a b c k j p q) (λ k j. heard_then SessionEndsBy a b c k j p q)

-- all calls
pub heard_done : (a b : Link) (left all : ℕ) (sole : Bool) → all - left ≡ all →
    HasHeard a (all - left) sole b ⊎ ((left ≡ 0) × EndsHearing a all sole b) →
    HasHeard a all sole b ⊎ EndsHearing a all sole b
heard_done a b left all sole = all_done (λ n. HasHeard a n sole b) (EndsHearing a all sole b) left all

-- ---- the viewer

viewer_then : (ends_at : Viewer → List ℕ → Viewer → Type 0) (a b c : Link) (k j : ℕ) →
    ReachesViewerBy IsFedAll a k b → ReachesViewerBy ends_at b j c → ReachesViewerBy ends_at a (k + j) c
viewer_then ends_at a b c k j =
    reach_then (λ (w : Link). w.viewer) (λ (w : Link). w.to_viewer) (λ (w : Link). w.to_server) ViewerFeeds
    (λ (v : Viewer). fault_of v ≢ None) IsBesideViewer ends_at a b c k j (feeds_then viewer_driven)
    (λ first second. record { session = second.session ∙ first.session; latest = second.latest ∙ first.latest })

viewer_all : (old new : Link) (bytes sent : List ℕ) (count told : ℕ) → take count old.to_viewer ≡ bytes →
    ViewerFeeds old.viewer bytes sent told new.viewer →
    (fault_of old.viewer ≢ None → TakesNone old.viewer bytes sent told new.viewer) →
    new.to_viewer ≡ drop count old.to_viewer → new.to_server ≡ old.to_server ++ sent →
    IsBesideViewer old new → HasWatched old count new
viewer_all =
    reach_all (λ (w : Link). w.viewer) (λ (w : Link). w.to_viewer) (λ (w : Link). w.to_server) ViewerFeeds
    (λ (v : Viewer). fault_of v ≢ None) IsBesideViewer

-- no bytes
pub watched_none : (w : Link) → HasWatched w 0 w
watched_none w =
    viewer_all w w [] [] 0 0 refl (feeds_none viewer_driven w.viewer) (λ some. takes_none w.viewer) refl
    (sym (append-nil w.to_server)) (record { session = refl; latest = refl })

-- one call
pub watched_once : (old new : Link) (bytes : List ℕ) (count used : ℕ) (event : Option ViewerTold) →
    fault_of old.viewer ≡ None → count ≤ length old.to_viewer → bytes ≡ take count old.to_viewer → used ≤ length bytes →
    ((viewing : Viewing) → FedBy (viewer viewing) (ViewerStandsFor viewing) old.viewer
    (take used bytes) event new.viewer) →
    new.session ≡ old.session → new.to_viewer ≡ drop used old.to_viewer →
    new.to_server ≡ old.to_server ++ viewer_reply event → new.latest ≡ old.latest → HasWatched old used new
watched_once old new bytes count used event going few is some fed same gets sends latest =
    viewer_all old new (take used bytes) (viewer_reply event) used (ends_told event)
    (sym (fed_first old.to_viewer bytes count used few is some).1)
    (feeds_once viewer_driven old.viewer new.viewer (take used bytes) event fed) (λ some. absurd (some going)) gets
    sends (record { session = same; latest = latest })

-- a call that it ends at
pub watched_last : (old new : Link) (bytes : List ℕ) (count : ℕ) → bytes ≡ take count old.to_viewer →
    ViewerEndsBy old.viewer bytes new.viewer → new.session ≡ old.session →
    new.to_viewer ≡ drop count old.to_viewer → new.to_server ≡ old.to_server → new.latest ≡ old.latest →
    EndsWatching old count new
watched_last old new bytes count is ends same gets sends latest =
    reach_last (λ (w : Link). w.viewer) (λ (w : Link). w.to_viewer) (λ (w : Link). w.to_server) ViewerFeeds
    (λ (v : Viewer). fault_of v ≢ None) IsBesideViewer ViewerEndsBy old new bytes count
    (feeds_none viewer_driven old.viewer) is ends gets sends (record { session = same; latest = latest })

-- what reached it, either way
pub watched_reaches : (old new : Link) (count : ℕ) →
    HasWatched old count new ⊎ EndsWatching old count new → ReachesViewer old count new
watched_reaches old new count (inl all) = reach_as all (λ last later ends. inl ends)
watched_reaches old new count (inr ended) = reach_as ended (λ last later ends. inr ends)

-- calls so far, and one more
pub watched_goes_on : (a b c : Link) (used left all : ℕ) → 0 < used → used ≤ left → left ≤ all →
    HasWatched a (all - left) b ⊎ ((left ≡ 0) × EndsWatching a all b) →
    HasWatched b used c ⊎ ((used ≡ left) × EndsWatching b left c) →
    HasWatched a (all - (left - used)) c ⊎ ((left - used ≡ 0) × EndsWatching a all c)
watched_goes_on a b c used left all some part within =
    goes_on (λ n. HasWatched a n b) (λ n. HasWatched b n c) (λ n. HasWatched a n c) (λ n. EndsWatching b n c)
    (λ n. EndsWatching a n c) (EndsWatching a all b) used left all some part within
    (λ k j. viewer_then IsFedAll a b c k j) (λ k j. viewer_then ViewerEndsBy a b c k j)

-- all calls
pub watched_done : (a b : Link) (left all : ℕ) → all - left ≡ all →
    HasWatched a (all - left) b ⊎ ((left ≡ 0) × EndsWatching a all b) → HasWatched a all b ⊎ EndsWatching a all b
watched_done a b left all = all_done (λ n. HasWatched a n b) (EndsWatching a all b) left all

-- ---- a client that has failed

-- the client of one that had failed before asks for nothing
pub deaf_sole : (old new : Link) (count : ℕ) (sole : Bool) → TellsSole old count sole new →
    session_fault old.session ≢ None → sole ≡ false
deaf_sole old new count true (reaches, asked) some =
    absurd (omega (arith, asked.some refl, (reaches.failed some).untold))
deaf_sole old new count false tells some = refl

-- ---- what is there

-- what is not nothing is something
pub there : {A : Type 0} (o : Option A) → (o ≡ None → ⊥) → (a : A) × (o ≡ Some a)
there None not = absurd (not refl)
there (Some a) not = (a, refl)
