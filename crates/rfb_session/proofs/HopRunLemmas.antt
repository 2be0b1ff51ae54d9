-- The moments of a relay: what its screen shows of the server's, and what is passed on of that.
use Rattle.std.proofs.Common.{◌≡◌, ◌⊎◌, ℕ, List, [], ◌∷◌, Option, Some, None, inl, inr, refl}
use Rattle.std.proofs.Common.{sym, ap, subst, ◌∙◌}
use Rattle.rfb_pixel.specs.declared.colour.Colour.{Colour}
use Rattle.rfb_pixel.specs.Format.{seen_through}
use Rattle.rfb_picture.specs.Grid.{Grid}
use Rattle.rfb_server.specs.Server.{black}
use Rattle.rfb_viewer.specs.ShownPieces.{Shows}
use Rattle.rfb_session.specs.Headline.{IsHeadline, ShowsLatest, ShowsComposing, due_picture}
use Rattle.rfb_session.specs.Hops.{Moment, over, GoesBelow, GoesTo, HasUpdate, IsSeen, IsRun, Once, IsBetween}
use Rattle.rfb_session.specs.Hops.{ShowsServers, ShowsTwice, ShowsThrough, IsPassedOn}
use Rattle.rfb_session.specs.Link.{Ends, Composing, LinkState}
use Rattle.rfb_session.specs.Network.{Network, Goes, Still, IsFirst, IsReached}
use Rattle.rfb_session.proofs.NetworkLemmas.{reached_holds, headline_holds}
use Rattle.rfb_session.proofs.ShownLemmas.{shown_whole, no_bytes}
use Rattle.rfb_session.proofs.HopGoesLemmas.{Links, Same, Does, IsNext, goes_reached, goes_links, goes_latest}
use Rattle.rfb_session.proofs.HopLinkLemmas.{ShowsOutside, GoesOutside, first_outside, link_outside}

-- ---- moments

once_now : (P : Moment → List Moment → Type 0) (m : Moment) (earlier : List Moment) → P m earlier →
    Once (m ∷ earlier) P
once_now P m earlier so = record { moment = m; later = []; earlier = earlier; is_of = refl; so = so }

once_later : (P : Moment → List Moment → Type 0) (m : Moment) (moments : List Moment) → Once moments P →
    Once (m ∷ moments) P
once_later P m moments one = record {
  moment = one.moment;
  later = m ∷ one.later;
  earlier = one.earlier;
  is_of = ap (λ (ms : List Moment). m ∷ ms) one.is_of;
  so = one.so;
}

once_so : (P Q : Moment → List Moment → Type 0) (moments : List Moment) →
    ((m : Moment) (earlier : List Moment) → P m earlier → Q m earlier) → Once moments P → Once moments Q
once_so P Q moments goes one = record {
  moment = one.moment;
  later = one.later;
  earlier = one.earlier;
  is_of = one.is_of;
  so = goes one.moment one.earlier one.so;
}

-- ---- the first hop

-- the server had composed that
abbrev HasComposed : Composing → Moment → List Moment → Type 0
HasComposed c m earlier = m.above.link.latest ≡ Some c

record IsAbove (e : Ends) (m : Moment) (earlier : List Moment) : Type 0 where
  pub reached : IsReached e m.above
  pub composing : Composing
  pub shows : ShowsOutside m.above.link composing
  pub once : Once (m ∷ earlier) (λ at before. HasComposed composing at before)

-- what it shows outside of updates after a step
goes_outside : (e : Ends) (old new : Network) (c : Composing) → IsReached e old → Goes e old new →
    ShowsOutside old.link c → GoesOutside new.link c
goes_outside e old new c r goes s = by (goes_links e old new goes)
  where
    by : Links e old new → GoesOutside new.link c
    by (Same same) = record {
      composing = c;
      shows = subst (λ (l : LinkState). ShowsOutside l c) (sym same) s;
      either = inl refl;
    }
    by (Does event step) =
        link_outside e old.screen old.link new.link event c (reached_holds e old r) step s

-- one moment more
more_above : (e f : Ends) (m before : Moment) (earlier : List Moment) → GoesTo e f before m →
    IsAbove e before earlier → IsAbove e m (before ∷ earlier)
more_above e f m before earlier goes was =
    let next = goes_outside e before.above m.above was.composing was.reached goes.above was.shows in
    record {
      reached = goes_reached e before.above m.above goes.above was.reached;
      composing = next.composing;
      shows = next.shows;
      once = by next.composing next.either;
    }
  where
    by : (c : Composing) → ((c ≡ was.composing) ⊎ (m.above.link.latest ≡ Some c)) →
        Once (m ∷ before ∷ earlier) (λ at sooner. HasComposed c at sooner)
    by c (inl same) = once_later (λ at sooner. HasComposed c at sooner) m (before ∷ earlier)
        (subst (λ (d : Composing). Once (before ∷ earlier) (λ at sooner. HasComposed d at sooner)) (sym same)
        was.once)
    by c (inr latest) = once_now (λ at sooner. HasComposed c at sooner) m (before ∷ earlier) latest

-- a server's update has come
fresh_above : (e : Ends) (m : Moment) (earlier : List Moment) → HasUpdate e m.above → IsAbove e m earlier
fresh_above e m earlier has =
    let one = first_outside e m.above.screen m.above.link (reached_holds e m.above has.reached) has.quiet has.some in
    record {
      reached = has.reached;
      composing = one.0;
      shows = one.2;
      once = once_now (λ at before. HasComposed one.0 at before) m earlier one.1;
    }

run_above : (e f : Ends) (m : Moment) (earlier : List Moment) → IsRun e f (m ∷ earlier) → IsAbove e m earlier
run_above e f m [] opens = fresh_above e m [] opens.update
run_above e f m (before ∷ earlier) (inl (goes, run)) =
    more_above e f m before earlier goes (run_above e f before earlier run)
run_above e f m (before ∷ earlier) (inr (renews, run)) = fresh_above e m (before ∷ earlier) renews.update

run_seen : (e f : Ends) (m : Moment) (earlier : List Moment) → IsRun e f (m ∷ earlier) → IsSeen m
run_seen e f m [] opens = opens.seen
run_seen e f m (before ∷ earlier) (inl (goes, run)) = goes.seen
run_seen e f m (before ∷ earlier) (inr (renews, run)) = renews.seen

pub above_holds : (e f : Ends) (m : Moment) (earlier : List Moment) → IsRun e f (m ∷ earlier) →
    IsHeadline e m.above.link
above_holds e f m earlier run = headline_holds e m.above (run_above e f m earlier run).reached

-- between two messages the relay shows its viewer's picture
picture_seen : (m : Moment) → IsSeen m → IsBetween m → Some m.screen ≡ m.above.link.viewer.picture
picture_seen m seen between =
    let bare : seen.has ≡ [] = no_bytes seen.has (seen.count ∙ between.none_came) in
    shown_whole m.above.link.viewer.point m.above.link.viewer.picture (Some m.screen)
    (subst (λ (bytes : List ℕ). Shows m.above.link.viewer bytes (Some m.screen)) bare seen.shows)

pub seen_holds : (e f : Ends) (m : Moment) (earlier : List Moment) → IsRun e f (m ∷ earlier) → IsBetween m →
    Once (m ∷ earlier) (λ at before. ShowsServers m at before)
seen_holds e f m earlier run between =
    let one = run_above e f m earlier run in
    let same : one.shows.point ≡ between.point = (let is = sym one.shows.at ∙ between.at in cc) in
    let outside : one.shows.point.left ≡ 0 = ap (λ p. p.left) same ∙ between.none_left in
    let shows : ShowsComposing one.composing m.screen =
    subst (λ (g : Option (Grid Colour)). ShowsLatest (Some one.composing) g)
    (sym (picture_seen m (run_seen e f m earlier run) between)) (one.shows.shows outside) in
    once_so (λ at before. HasComposed one.composing at before) (λ at before. ShowsServers m at before)
    (m ∷ earlier) (λ at before is. (one.composing, is, shows, one.shows.fresh)) one.once

-- ---- the second hop

-- an update was composed of the relay's screen at that moment
abbrev IsOf : Ends → Composing → Moment → List Moment → Type 0
IsOf f c m earlier = (c.screen ≡ m.screen) × ((e : Ends) × IsRun e f (m ∷ earlier))

record IsBelow (f : Ends) (m : Moment) (earlier : List Moment) (l : LinkState) : Type 0 where
  pub reached : IsReached f (over m.screen l)
  pub once : (c : Composing) → l.latest ≡ Some c → Once (m ∷ earlier) (λ at before. IsOf f c at before)

-- a viewer that is there came just now, or was there before
came_or_was : (f : Ends) (before after : Grid Colour) (a b : Option LinkState) (l : LinkState) →
    GoesBelow f before a after b → b ≡ Some l →
    IsFirst f (over after l) ⊎ ((k : LinkState) × (a ≡ Some k) × Goes f (over before k) (over after l))
came_or_was f before after None None l goes is = absurd cc
came_or_was f before after None (Some new) l goes is =
    let same : new ≡ l = cc in inl (subst (λ (k : LinkState). IsFirst f (over after k)) same goes)
came_or_was f before after (Some old) None l goes is = absurd cc
came_or_was f before after (Some old) (Some new) l goes is =
    let same : new ≡ l = cc in
    inr (old, refl, subst (λ (k : LinkState). Goes f (over before old) (over after k)) same goes)

none_yet : (f : Ends) (n : Network) (c : Composing) → IsFirst f n → n.link.latest ≡ Some c → ⊥
none_yet f n c first is = let none = sym (ap (λ (l : LinkState). l.latest) first.link) ∙ is in cc

-- one moment more
more_below : (f : Ends) (m before : Moment) (earlier : List Moment) (l : LinkState) →
    ((e : Ends) × IsRun e f (before ∷ earlier)) →
    (IsFirst f (over m.screen l) ⊎ ((k : LinkState) × (before.below ≡ Some k)
    × Goes f (over before.screen k) (over m.screen l))) →
    ((k : LinkState) → before.below ≡ Some k → IsBelow f before earlier k) →
    IsBelow f m (before ∷ earlier) l
more_below f m before earlier l run (inl first) was = record {
  reached = record { first = over m.screen l; is_first = first; leads = Still };
  once = λ c latest. absurd (none_yet f (over m.screen l) c first latest);
}
more_below f m before earlier l run (inr (k, there, on)) was = record {
  reached = goes_reached f (over before.screen k) (over m.screen l) on (was k there).reached;
  once = λ c latest. once_later (λ at sooner. IsOf f c at sooner) m (before ∷ earlier)
      (of_which c latest (goes_latest f (over before.screen k) (over m.screen l) on));
}
  where
    of_which : (c : Composing) → l.latest ≡ Some c → IsNext before.screen k.latest l.latest →
        Once (before ∷ earlier) (λ at sooner. IsOf f c at sooner)
    of_which c latest (inl same) = (was k there).once c (sym same ∙ latest)
    of_which c latest (inr (d, is_d, screen)) =
        let same : d ≡ c = (let one = sym is_d ∙ latest in cc) in
        once_now (λ at sooner. IsOf f c at sooner) before earlier
        (sym (ap (λ (x : Composing). x.screen) same) ∙ screen, run)

run_below : (e f : Ends) (m : Moment) (earlier : List Moment) (l : LinkState) → IsRun e f (m ∷ earlier) →
    m.below ≡ Some l → IsBelow f m earlier l
run_below e f m [] l opens is = absurd (let none = sym opens.none ∙ is in cc)
run_below e f m (before ∷ earlier) l (inl (goes, run)) is =
    more_below f m before earlier l (e, run)
    (came_or_was f before.screen m.screen before.below m.below l goes.below is)
    (λ k there. run_below e f before earlier k run there)
run_below e f m (before ∷ earlier) l (inr (renews, (other, run))) is =
    more_below f m before earlier l (other, run)
    (came_or_was f before.screen m.screen before.below m.below l renews.below is)
    (λ k there. run_below other f before earlier k run there)

pub below_holds : (e f : Ends) (m : Moment) (earlier : List Moment) (l : LinkState) → IsRun e f (m ∷ earlier) →
    m.below ≡ Some l → IsHeadline f l
below_holds e f m earlier l run is = headline_holds f (over m.screen l) (run_below e f m earlier l run is).reached

-- ---- both

-- what shows a picture that shows the server's screen shows that
shows_twice : (first second : Composing) (picture : Option (Grid Colour)) → ShowsComposing first second.screen →
    ShowsLatest (Some second) picture → ShowsTwice first second picture
shows_twice first second None one two = two
shows_twice first second (Some g) one two = λ x y d there here.
    two x y d here.0 here.1 here.2
    ∙ ap (λ (c : Colour). seen_through second.form c) (one x y black there.0 there.1 there.2)

pub passed_holds : (e f : Ends) (m : Moment) (earlier : List Moment) (l : LinkState) (c : Composing) →
    IsRun e f (m ∷ earlier) → m.below ≡ Some l → l.latest ≡ Some c →
    Once (m ∷ earlier) (λ at before. IsPassedOn c (due_picture f l) at before)
passed_holds e f m earlier l c run is latest =
    let shown : ShowsLatest (Some c) (due_picture f l) =
    subst (λ (o : Option Composing). ShowsLatest o (due_picture f l)) latest
    (below_holds e f m earlier l run is).latest in
    once_so (λ at before. IsOf f c at before) (λ at before. IsPassedOn c (due_picture f l) at before) (m ∷ earlier)
    (λ at before of. record {
      screen = of.0;
      shows = λ between.
          once_so (λ once sooner. ShowsServers at once sooner)
          (λ once sooner. ShowsThrough c (due_picture f l) at once sooner) (at ∷ before)
          (λ once sooner one. (
            one.0,
            one.1,
            shows_twice one.0 c (due_picture f l)
                (subst (λ (g : Grid Colour). ShowsComposing one.0 g) (sym of.0) one.2) shown,
            one.3,
          ))
          (seen_holds of.1.0 f at before of.1.1 between);
    })
    ((run_below e f m earlier l run is).once c latest)
