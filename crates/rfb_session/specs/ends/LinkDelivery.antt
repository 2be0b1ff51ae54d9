-- Bytes that are delivered on a link.
use Rattle.std.specs.Prelude.{◌≡◌, ◌≢◌, ℕ, Bool, Some}
use Rattle.rfb_server.specs.declared.fault.ServerFault.{ServerFault}
use Rattle.rfb_server.specs.declared.fault.ServerFault.TheVariants.{NoMemory as ServerWants}
use Rattle.rfb_viewer.specs.declared.fault.ViewerFault.{ViewerFault}
use Rattle.rfb_viewer.specs.declared.fault.ViewerFault.TheVariants.{NoMemory as ViewerWants}
use Rattle.rfb_session.specs.declared.link.Link.{Link}
use Rattle.rfb_session.specs.Link.{Ends, LinkState}
use Rattle.rfb_session.specs.LinkSteps.{MovesToViewer, MovesToServer}
use Rattle.rfb_session.specs.LinkModel.{LinkStandsFor, server_fault_of, viewer_fault_of}
use Rattle.rfb_session.specs.LinkBytes.{IsFedAll, IsSole, ReachesSessionBy, ReachesViewerBy, SessionEndsBy}
use Rattle.rfb_session.specs.LinkBytes.{ViewerEndsBy}
use Rattle.rfb_session.specs.InFlight.{AreMade}
use Rattle.rfb_session.specs.Network.{Network, IsReached}

-- this holds where the viewer has failed, and not for want of memory
abbrev pub IfViewerEnded : Link → Type 0 → Type 0
IfViewerEnded link Holds =
    (fault : ViewerFault) → viewer_fault_of link ≡ Some fault → fault ≢ ViewerWants → Holds

-- the same of the session
abbrev pub IfSessionEnded : Link → Type 0 → Type 0
IfSessionEnded link Holds =
    (fault : ServerFault) → server_fault_of link ≡ Some fault → fault ≢ ServerWants → Holds

-- `count` bytes reach the viewer
abbrev pub DeliversToViewer : Link → ℕ → Link → Type 0
DeliversToViewer old count new =
    (e : Ends) (n : Network) → AreMade e → IsReached e n → LinkStandsFor e n.screen old n.link →
    (l : LinkState) × MovesToViewer e n.link count l × LinkStandsFor e n.screen new l

-- `count` bytes reach the session
abbrev pub DeliversToServer : Link → ℕ → Link → Type 0
DeliversToServer old count new =
    (e : Ends) (n : Network) → AreMade e → IsReached e n → LinkStandsFor e n.screen old n.link →
    (l : LinkState) × MovesToServer e n.screen n.link count l × LinkStandsFor e n.screen new l

-- the session was fed `count` bytes, and they are no more in flight
abbrev pub HasHeard : Link → ℕ → Bool → Link → Type 0
HasHeard old count sole new = (r : ReachesSessionBy IsFedAll old count new) × IsSole sole r.told

-- it was fed some of them, and ended at the others
abbrev pub EndsHearing : Link → ℕ → Bool → Link → Type 0
EndsHearing old count sole new = (r : ReachesSessionBy SessionEndsBy old count new) × IsSole sole r.told

-- the same of the viewer
abbrev pub HasWatched : Link → ℕ → Link → Type 0
HasWatched old count new = ReachesViewerBy IsFedAll old count new

abbrev pub EndsWatching : Link → ℕ → Link → Type 0
EndsWatching old count new = ReachesViewerBy ViewerEndsBy old count new
