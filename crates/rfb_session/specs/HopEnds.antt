-- The ends of two hops, which stand for a moment: a server, whatever it is; a share of the picture
-- that its viewer has; and a viewer of a seat of that share.
use Rattle.std.specs.Prelude.{◌≡◌, ℕ, List, Option, Some, None}
use Rattle.rfb_viewer.specs.declared.viewer.Viewer.{Viewer}
use Rattle.rfb_viewer.specs.Model.{StandsFor as ViewerStandsFor}
use Rattle.rfb_session.specs.declared.share.Share.{Share}
use Rattle.rfb_session.specs.Hops.{Moment, GoesTo, Opens, Renews, over}
use Rattle.rfb_session.specs.InFlight.{Flies}
use Rattle.rfb_session.specs.Link.{Ends, LinkState}
use Rattle.rfb_session.specs.Network.{Network, Goes, IsReached}
use Rattle.rfb_session.specs.Share.{screen_of, viewer_of}
use Rattle.rfb_session.specs.ShareViewers.{IsWatchedBy}

-- ---- the first hop

-- a viewer stands for that of a network. To a server that stands for the network's session, with
-- `server_has` of a message under way, these bytes are on their way, and those to the viewer
pub record IsFed (e : Ends) (viewer : Viewer) (server_has to_server to_viewer : List ℕ)
    (n : Network) : Type 0 where
  pub reached : IsReached e n
  pub has : List ℕ
  pub stands : ViewerStandsFor e.viewing viewer n.link.viewer has
  pub flies : Flies e n.link (record {
    viewer_has = has;
    viewer_gets = to_viewer;
    server_has = server_has;
    server_gets = to_server;
  })

-- a network after it that a viewer stands for so; the server has done nothing
pub record GoesFed (e : Ends) (old : Network) (viewer : Viewer)
    (has to_server to_viewer : List ℕ) : Type 0 where
  pub next : Network
  pub goes : Goes e old next
  pub screen : next.screen ≡ old.screen
  pub session : next.link.session ≡ old.link.session
  pub fed : IsFed e viewer has to_server to_viewer next

-- it is the viewer of a share, which shows what that viewer does
pub record IsRelay (e : Ends) (share : Share) (server_has to_server to_viewer : List ℕ)
    (m : Moment) : Type 0 where
  pub viewer : Viewer
  pub is_there : viewer_of share ≡ Some viewer
  pub screen_is : m.screen ≡ screen_of share
  pub fed : IsFed e viewer server_has to_server to_viewer m.above

-- the server has done nothing
pub record LeavesServer (old new : Moment) : Type 0 where
  pub screen : new.above.screen ≡ old.above.screen
  pub session : new.above.link.session ≡ old.above.link.session

-- the moment at which a share opens over a network
abbrev pub opened : Share → Network → Moment
opened share n = record { above = n; screen = screen_of share; below = None }

-- so it opens, at a network after it
pub record OpensAs (e : Ends) (old : Network) (share : Share) (has to_server to_viewer : List ℕ)
    : Type 0 where
  pub next : Network
  pub goes : Goes e old next
  pub opens : Opens e (opened share next)
  pub relay : IsRelay e share has to_server to_viewer (opened share next)

-- ---- the second hop

-- a viewer that has come has with its seat this link over the share's screen
abbrev pub IsLinked : Ends → Share → ℕ → Viewer → List ℕ → List ℕ → Option LinkState → Type 0
IsLinked f share k viewer to_server on_way None = Unit {0}
IsLinked f share k viewer to_server on_way (Some l) =
    IsWatchedBy f share k viewer to_server on_way (over (screen_of share) l)

-- that of the moment
abbrev pub IsBehind : Ends → Share → ℕ → Viewer → List ℕ → List ℕ → Moment → Type 0
IsBehind f share k viewer to_server on_way m =
    IsLinked f share k viewer to_server on_way m.below

-- the same picture of the same viewer is shown
pub record ShowsSame (old new : Share) : Type 0 where
  pub viewer : viewer_of new ≡ viewer_of old
  pub screen : screen_of new ≡ screen_of old

-- ---- from one moment to the next

-- a moment after it; the server has done nothing. The share stands for it with these bytes on the
-- first hop, and the viewer of the seat with those on the second
pub record Becomes (e f : Ends) (m : Moment) (share : Share) (has to_server to_viewer : List ℕ)
    (k : ℕ) (viewer : Viewer) (sends gets : List ℕ) : Type 0 where
  pub next : Moment
  pub goes : GoesTo e f m next
  pub server : LeavesServer m next
  pub relay : IsRelay e share has to_server to_viewer next
  pub behind : IsBehind f share k viewer sends gets next

-- the picture of another server's viewer is shown there, once an update of that server's has come
pub record RenewsAs (e f : Ends) (m : Moment) (n : Network) (share : Share)
    (has to_server to_viewer : List ℕ) (k : ℕ) (viewer : Viewer) (sends gets : List ℕ)
    : Type 0 where
  pub next : Moment
  pub goes : Goes e n next.above
  pub renews : Renews e f m next
  pub relay : IsRelay e share has to_server to_viewer next
  pub behind : IsBehind f share k viewer sends gets next
