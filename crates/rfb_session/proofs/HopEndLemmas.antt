-- A share of a server's picture goes on moment by moment: it opens, and hears what its server does.
use Rattle.std.proofs.Common.{◌≡◌, ◌≢◌, ℕ, List, ◌++◌, take, Option, Some, None}
use Rattle.std.proofs.Common.{inl, refl, sym, ap, subst, ◌∙◌}
use Rattle.rfb_pixel.specs.declared.colour.Colour.{Colour}
use Rattle.rfb_picture.specs.Grid.{Grid}
use Rattle.rfb_hello.specs.declared.fed.Fed.{Fed}
use Rattle.rfb_viewer.specs.declared.event.ViewerEvent.{ViewerEvent}
use Rattle.rfb_viewer.specs.declared.fault.ViewerFault.{ViewerFault}
use Rattle.rfb_viewer.specs.declared.fault.ViewerFault.TheVariants.{NoMemory}
use Rattle.rfb_viewer.specs.declared.viewer.Viewer.{Viewer}
use Rattle.rfb_viewer.specs.ShownPieces.{Shows}
use Rattle.rfb_viewer.specs.Model.{StandsFor as ViewerStandsFor, picture_of}
use Rattle.rfb_viewer.specs.Told.{seen}
use Rattle.rfb_viewer.proofs.LendLemmas.{shows_at}
use Rattle.rfb_session.specs.declared.share.Share.{Share}
use Rattle.rfb_session.specs.declared.share.screen.Screen.{Screen}
use Rattle.rfb_session.specs.declared.share.screen.Screen.TheVariants.{Drawn, Seen}
use Rattle.rfb_session.specs.declared.share.seat.ShareSeat.{ShareSeat}
use Rattle.rfb_session.specs.HopEnds.{IsFed, IsRelay, opened, IsLinked, IsBehind}
use Rattle.rfb_session.specs.Hops.{Moment, GoesBelow, GoesTo, IsSeen, over}
use Rattle.rfb_session.specs.InFlight.{AreMade, Flies, viewer_reply}
use Rattle.rfb_session.specs.Link.{Ends, LinkState}
use Rattle.rfb_session.specs.Mirrors.{seen_by}
use Rattle.rfb_session.specs.Network.{Network, Goes}
use Rattle.rfb_session.specs.Share.{screen_of, viewer_of, waits_at, waiting_for}
use Rattle.rfb_session.specs.ShareMirrors.{FeedsOn, FailsOn}
use Rattle.rfb_session.specs.ShareScreen.{shown_on, viewer_on}
use Rattle.rfb_session.specs.ShareViewers.{IsWatchedBy, GoesOn}
use Rattle.rfb_session.proofs.FlightLemmas.{viewer_good}
use Rattle.rfb_session.proofs.HopSeatLemmas.{watched_fed}
use Rattle.rfb_wire.specs.stream.End.{FedBy}
use Rattle.std.proofs.Common.{append-nil}
use Rattle.rfb_viewer.specs.Told.{UpdateDone}
use Rattle.rfb_viewer.specs.Viewer.{viewer as viewer_end}
use Rattle.rfb_session.specs.HopAreas.{BecomesForAll, OpensForAll, RenewsForAll}
use Rattle.rfb_session.proofs.HopFedLemmas.{fed_next}
use Rattle.rfb_session.specs.ShareMirrors.{ShowsOther}
use Rattle.rfb_session.proofs.HopSeatLemmas.{watched_other}

-- ---- what a share shows

pub shown_is : (x : Screen) (viewer : Viewer) → viewer_on x ≡ Some viewer → picture_of viewer ≡ Some (shown_on x)
shown_is (Drawn picture) viewer is = absurd (let e = is in cc)
shown_is (Seen mirror) viewer is =
    let same : mirror.viewer ≡ viewer = cc in
    subst (λ (v : Viewer). picture_of v ≡ Some (seen_by mirror.viewer)) same mirror.shown

pub one_viewer : (o : Option Viewer) (a b : Viewer) → o ≡ Some a → o ≡ Some b → a ≡ b
one_viewer o a b one two = cc

pub is_seen : (e : Ends) (share : Share) (has to_server to_viewer : List ℕ) (m : Moment) →
    IsRelay e share has to_server to_viewer m → IsSeen m
is_seen e share has to_server to_viewer m r = record {
  has = r.fed.has;
  count = r.fed.flies.at_viewer;
  shows = subst (λ (o : Option (Grid Colour)). Shows m.above.link.viewer r.fed.has o)
      (shown_is share.screen r.viewer r.is_there ∙ ap (λ (g : Grid Colour). Some g) (sym r.screen_is))
      (shows_at e.viewing r.viewer r.viewer.progress m.above.link.viewer.point m.above.link.viewer.picture
      r.fed.has r.fed.stands.progress_is);
}

-- at the end of an update
pub relay_opens : (e : Ends) (share : Share) (old new : Viewer) (bytes has to_server to_viewer later : List ℕ)
    (n : Network) → AreMade e → to_viewer ≡ bytes ++ later →
    FedBy (viewer_end e.viewing) (ViewerStandsFor e.viewing) old bytes (Some UpdateDone) new →
    viewer_of share ≡ Some new → IsFed e old has to_server to_viewer n → OpensForAll e n share has to_server later
relay_opens e share old new bytes has to_server to_viewer later n made is fed there f =
    let one = fed_next e old new bytes (Some UpdateDone) has to_server to_viewer later n made is fed f in
    let ended = one.1 refl in
    let relay : IsRelay e share has to_server later (opened share one.0.next) =
    record {
      viewer = new;
      is_there = there;
      screen_is = refl;
      fed = subst (λ (q : List ℕ). IsFed e new has q later one.0.next) (append-nil to_server) one.0.fed;
    } in
    record {
      opens = record {
        next = one.0.next;
        goes = one.0.goes;
        opens = record {
          update = record { reached = one.0.fed.reached; quiet = ended.0; some = ended.1 };
          seen = is_seen e share has to_server later (opened share one.0.next) relay;
          none = refl;
        };
        relay = relay;
      };
      for_all = one.2;
    }

pub stays_below : (f : Ends) (screen : Grid Colour) (o : Option LinkState) → GoesBelow f screen o screen o
stays_below f screen None = tt
stays_below f screen (Some l) = inl refl

-- ---- the server

pub relay_above : (e f : Ends) (share : Share) (viewer : Viewer) (had to_server to_viewer has sends gets : List ℕ)
    (m : Moment) (n : Network) → IsRelay e share had to_server to_viewer m → viewer_of share ≡ Some viewer →
    Goes e m.above n → IsFed e viewer has sends gets n →
    GoesTo e f m (record m { above = n }) × IsRelay e share has sends gets (record m { above = n })
relay_above e f share viewer had to_server to_viewer has sends gets m n r there goes fed =
    let now : IsRelay e share has sends gets (record m { above = n }) =
    record { viewer = viewer; is_there = there; screen_is = r.screen_is; fed = fed } in (
      record {
        above = goes;
        seen = is_seen e share has sends gets (record m { above = n }) now;
        below = stays_below f m.screen m.below;
      },
      now,
    )

pub seat_fed : (e : Ends) (server : Share) (j : ℕ) (viewer : Viewer) (to_server on_way : List ℕ) (n : Network) →
    IsWatchedBy e server j viewer to_server on_way n →
    (has : List ℕ) × IsFed e viewer has to_server (on_way ++ waits_at server j) n
seat_fed e server j viewer to_server on_way n w = (
  w.carries.server_has,
  record {
    reached = w.reached;
    has = w.carries.viewer_has;
    stands = w.carries.viewer_is;
    flies = subst (λ (o : Option ShareSeat). Flies e n.link (record {
      viewer_has = w.carries.viewer_has;
      viewer_gets = on_way ++ waiting_for o;
      server_has = w.carries.server_has;
      server_gets = to_server;
    })) (sym w.there) w.carries.flies;
  },
)

-- ---- the viewer of a seat

pub over_screen : (n : Network) (screen : Grid Colour) → n.screen ≡ screen → n ≡ over screen n.link
over_screen n screen is = ap (λ (g : Grid Colour). over g n.link) is

-- a call of the share's goes on at the seat, where somebody has come
below_told : (f : Ends) (old new : Share) (k : ℕ) (viewer : Viewer) (sends gets : List ℕ) (o : Option LinkState) →
    ((n : Network) → IsWatchedBy f old k viewer sends gets n → GoesOn f n new k viewer sends gets) →
    IsLinked f old k viewer sends gets o →
    (p : Option LinkState) × GoesBelow f (screen_of old) o (screen_of new) p × IsLinked f new k viewer sends gets p
below_told f old new k viewer sends gets None goes linked = (None, tt, tt)
below_told f old new k viewer sends gets (Some l) goes linked =
    let one = goes (over (screen_of old) l) linked in
    let same = over_screen one.0 (screen_of new) one.2.screen_is in (
      Some one.0.link,
      subst (λ (n : Network). Goes f (over (screen_of old) l) n) same one.1,
      subst (λ (n : Network). IsWatchedBy f new k viewer sends gets n) same one.2,
    )

-- ---- bytes of the server's

pub relay_heard : (e f : Ends) (old new : Share) (bytes : List ℕ) (told : Fed ViewerEvent)
    (has to_server to_viewer later : List ℕ) (k : ℕ) (viewer : Viewer) (sends gets : List ℕ) (m : Moment) →
    AreMade e → FeedsOn old bytes told new → to_viewer ≡ take told.used bytes ++ later →
    IsRelay e old has to_server to_viewer m → IsBehind f old k viewer sends gets m →
    BecomesForAll e f m new has (to_server ++ viewer_reply (seen told.event)) later k viewer sends gets
relay_heard e f old new bytes told has to_server to_viewer later k viewer sends gets m made feeds is r behind =
    let was : IsFed e feeds.was has to_server to_viewer m.above =
    subst (λ (v : Viewer). IsFed e v has to_server to_viewer m.above)
    (one_viewer (viewer_of old) r.viewer feeds.was r.is_there feeds.was_there) r.fed in
    let both = fed_next e feeds.was feeds.mid (take told.used bytes) (seen told.event) has to_server to_viewer later
    m.above made is (feeds.takes.fed_by e.viewing) was in
    let one = both.0 in
    let below = below_told f old new k viewer sends gets m.below
    (λ o w. watched_fed f old new bytes told k viewer sends gets o feeds w) behind in
    let next : Moment = record { above = one.next; screen = screen_of new; below = below.0 } in
    let relay : IsRelay e new has (to_server ++ viewer_reply (seen told.event)) later next =
    record {
      viewer = feeds.relays.now;
      is_there = feeds.relays.is_there;
      screen_is = refl;
      fed = record {
        reached = one.fed.reached;
        has = one.fed.has;
        stands = feeds.relays.asked.keeps.stands e.viewing one.next.link.viewer one.fed.has one.fed.stands;
        flies = one.fed.flies;
      };
    } in
    record {
      becomes = record {
        next = next;
        goes = record {
          above = one.goes;
          seen = is_seen e new has (to_server ++ viewer_reply (seen told.event)) later next relay;
          below = subst (λ (g : Grid Colour). GoesBelow f g m.below (screen_of new) below.0) (sym r.screen_is)
              below.1;
        };
        server = record { screen = one.screen; session = one.session };
        relay = relay;
        behind = below.2;
      };
      for_all = both.2;
    }

pub relay_never : (e : Ends) (old new : Share) (bytes : List ℕ) (fault : ViewerFault)
    (has to_server to_viewer later : List ℕ) (m : Moment) → fault ≢ NoMemory → to_viewer ≡ bytes ++ later →
    FailsOn old bytes fault new → IsRelay e old has to_server to_viewer m → ⊥
relay_never e old new bytes fault has to_server to_viewer later m some is fails r =
    let l = m.above.link in
    let stands : ViewerStandsFor e.viewing fails.was l.viewer r.fed.has =
    subst (λ (v : Viewer). ViewerStandsFor e.viewing v l.viewer r.fed.has)
    (one_viewer (viewer_of old) r.viewer fails.was r.is_there fails.was_there) r.fed.stands in
    viewer_good e l
    (record { viewer_has = r.fed.has; viewer_gets = to_viewer; server_has = has; server_gets = to_server })
    bytes later fault r.fed.flies is (fails.fails.ends.refused some e.viewing l.viewer r.fed.has stands)

-- ---- another server

pub relay_renews : (e f : Ends) (old new : Share) (was other : Viewer) (bytes has to_server to_viewer later : List ℕ)
    (k : ℕ) (viewer : Viewer) (sends gets : List ℕ) (m : Moment) (n : Network) → AreMade e →
    to_viewer ≡ bytes ++ later →
    FedBy (viewer_end e.viewing) (ViewerStandsFor e.viewing) was bytes (Some UpdateDone) other →
    ShowsOther old other new → IsFed e was has to_server to_viewer n → m.screen ≡ screen_of old →
    IsBehind f old k viewer sends gets m → RenewsForAll e f m n new has to_server later k viewer sends gets
relay_renews e f old new was other bytes has to_server to_viewer later k viewer sends gets m n made is fed shows have
    screen behind =
    let one = fed_next e was other bytes (Some UpdateDone) has to_server to_viewer later n made is fed have in
    let ended = one.1 refl in
    let below = below_told f old new k viewer sends gets m.below
    (λ o w. watched_other f old new other k viewer sends gets o shows w) behind in
    let next : Moment = record { above = one.0.next; screen = screen_of new; below = below.0 } in
    let relay : IsRelay e new has to_server later next =
    record {
      viewer = other;
      is_there = shows.is_there;
      screen_is = refl;
      fed = subst (λ (q : List ℕ). IsFed e other has q later one.0.next) (append-nil to_server) one.0.fed;
    } in
    record {
      renews = record {
        next = next;
        goes = one.0.goes;
        renews = record {
          update = record { reached = one.0.fed.reached; quiet = ended.0; some = ended.1 };
          seen = is_seen e new has to_server later next relay;
          below = subst (λ (g : Grid Colour). GoesBelow f g m.below (screen_of new) below.0) (sym screen) below.1;
        };
        relay = relay;
        behind = below.2;
      };
      for_all = one.2;
    }
