-- Bytes that cross a connection, and what they do to the end that they reach.
use Rattle.std.specs.Prelude.{◌≡◌, ◌≢◌, ◌⊎◌, ℕ, List, ◌++◌, length, Option, Some, None}
use Rattle.std.specs.Io.KnownBytes.{Appends, Consumes}
use Rattle.rfb_server.specs.declared.fault.ServerFault.{ServerFault}
use Rattle.rfb_server.specs.declared.fault.ServerFault.TheVariants.{NoMemory as ServerWantsMemory}
use Rattle.rfb_server.specs.declared.server.Server.{Server}
use Rattle.rfb_server.specs.Server.{Serving, ServerState}
use Rattle.rfb_server.specs.Model.{StandsFor as ServerStandsFor, fault_of as server_fault}
use Rattle.rfb_viewer.specs.declared.fault.ViewerFault.{ViewerFault}
use Rattle.rfb_viewer.specs.declared.fault.ViewerFault.TheVariants.{NoMemory as ViewerWantsMemory}
use Rattle.rfb_viewer.specs.declared.viewer.Viewer.{Viewer}
use Rattle.rfb_viewer.specs.Model.{StandsFor as ViewerStandsFor, fault_of as viewer_fault}
use Rattle.rfb_viewer.specs.Viewer.{Viewing, ViewerState}
use Rattle.rfb_session.specs.ServeEngine.{IsEnded}
use Rattle.rfb_session.specs.Turns.{IsAnswered}
use Rattle.rfb_session.specs.ViewerActs.{ViewerRuns, EndsBy}
use Rattle.rfb.specs.declared.loopback.link.Link.{Link}

-- ---- a connection

-- its two ends
abbrev pub server_end : {C : Type 0} → Link C → C
server_end link = link.server

abbrev pub viewer_end : {C : Type 0} → Link C → C
viewer_end link = link.viewer

-- bytes were written at one end, after what stood there before, and as many were read at the other:
-- what came
pub record Crosses (bytes : List ℕ) (before after unread left : Option (List ℕ)) (came : List ℕ)
    : Type 0 where
  pub sent : Appends before after bytes
  pub read : Consumes unread left came
  pub as_many : length came ≡ length bytes

-- ---- an end

-- what is known of an end of one kind: the fault that it has failed with, if it has; and what it
-- stands for. Further that it was fed bytes, all of them, or some until it ended: what was sent
-- before its answers, and what with them. And which fault is want of memory
pub record Receiver (E F S C : Type 0) : Type 1 where
  pub fault : E → Option F
  pub stands : C → E → S → List ℕ → Type 0
  pub fed : E → List ℕ → Option (List ℕ) → Option (List ℕ) → E → Type 0
  pub ended : E → List ℕ → Option (List ℕ) → Option (List ℕ) → F → E → Type 0
  pub no_memory : F

module _ {E F S C : Type 0} where
  -- it ended at some of these bytes, and not for want of memory; its answers to those before follow
  -- the others, and the bytes after them changed nothing
  pub record EndsTaking (r : Receiver E F S C) (old : E) (bytes before after : List ℕ) (new : E)
      : Type 0 where
    pub fault : F
    pub read : List ℕ
    pub later : List ℕ
    pub bytes_are : bytes ≡ read ++ later
    pub ended : r.ended old read (Some before) (Some after) fault new
    pub has_memory : fault ≢ r.no_memory

  -- these bytes reached it: it was fed them all, and its answers follow the others; or it ended at
  -- some. One that had failed takes them to no effect
  pub record Takes (r : Receiver E F S C) (old : E) (bytes before after : List ℕ) (new : E)
      : Type 0 where
    pub fed : r.fault new ≡ None → r.fed old bytes (Some before) (Some after) new
    pub either : (c : C) (s : S) (prefix : List ℕ) → r.stands c old s prefix →
        r.fed old bytes (Some before) (Some after) new ⊎ EndsTaking r old bytes before after new
    pub failed : r.fault old ≢ None → (new ≡ old) × (after ≡ before)

  -- bytes crossed a connection, and what came of them reached it
  pub record Reaches (r : Receiver E F S C) (bytes : List ℕ)
      (sent_before sent unread left : Option (List ℕ)) (old : E) (before after : List ℕ) (new : E)
      : Type 0 where
    pub came : List ℕ
    pub crosses : Crosses bytes sent_before sent unread left came
    pub takes : Takes r old came before after new

-- ---- the server

abbrev pub at_server : Receiver Server ServerFault ServerState Serving
at_server = record {
  fault = server_fault;
  stands = ServerStandsFor;
  fed = IsAnswered;
  ended = IsEnded;
  no_memory = ServerWantsMemory;
}

abbrev pub Hears : Server → List ℕ → List ℕ → List ℕ → Server → Type 0
Hears old bytes before after new = Takes at_server old bytes before after new

abbrev pub ReachesServer : List ℕ → Option (List ℕ) → Option (List ℕ) → Option (List ℕ) →
    Option (List ℕ) → Server → List ℕ → List ℕ → Server → Type 0
ReachesServer bytes sent_before sent unread left old before after new =
    Reaches at_server bytes sent_before sent unread left old before after new

-- ---- the viewer

-- a viewer was fed all of these bytes, and its answers were written after what stood there before
pub record IsFed (old : Viewer) (bytes : List ℕ) (before after : Option (List ℕ)) (new : Viewer)
    : Type 0 where
  pub sent : List ℕ
  pub updates : ℕ
  pub runs : ViewerRuns old bytes sent updates new
  pub wrote : Appends before after sent

-- it was fed some of them, all answers were written, and it ended at those after them
pub record IsFedUntil (old : Viewer) (bytes : List ℕ) (before after : Option (List ℕ))
    (fault : ViewerFault) (new : Viewer) : Type 0 where
  pub fed : List ℕ
  pub slice : List ℕ
  pub sent : List ℕ
  pub updates : ℕ
  pub last : Viewer
  pub bytes_are : bytes ≡ fed ++ slice
  pub runs : ViewerRuns old fed sent updates last
  pub wrote : Appends before after sent
  pub ends : EndsBy fault last slice new

abbrev pub at_viewer : Receiver Viewer ViewerFault ViewerState Viewing
at_viewer = record {
  fault = viewer_fault;
  stands = ViewerStandsFor;
  fed = IsFed;
  ended = IsFedUntil;
  no_memory = ViewerWantsMemory;
}

abbrev pub Watches : Viewer → List ℕ → List ℕ → List ℕ → Viewer → Type 0
Watches old bytes before after new = Takes at_viewer old bytes before after new

abbrev pub ReachesViewer : List ℕ → Option (List ℕ) → Option (List ℕ) → Option (List ℕ) →
    Option (List ℕ) → Viewer → List ℕ → List ℕ → Viewer → Type 0
ReachesViewer bytes sent_before sent unread left old before after new =
    Reaches at_viewer bytes sent_before sent unread left old before after new
