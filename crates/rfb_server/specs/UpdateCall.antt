-- What a call to compose makes of a session over the screen that it borrows, and of a `Server`.
use Rattle.std.specs.Prelude.{◌≡◌, ℕ, ◌<◌, true, List, ◌++◌}
use Rattle.rfb_pixel.specs.declared.colour.Colour.{Colour}
use Rattle.rfb_picture.specs.Grid.{Grid}
use Rattle.rfb_picture.specs.Area.{asked_at}
use Rattle.rfb_server.specs.declared.session.Session.{Session}
use Rattle.rfb_server.specs.declared.server.Server.{Server}
use Rattle.rfb_server.specs.Server.{Serving, ServerState}
use Rattle.rfb_server.specs.Progress.{is_ready}
use Rattle.rfb_server.specs.Model.{SessionStandsFor, StandsFor, KeepsSession, Keeps}
use Rattle.rfb_server.specs.Model.{session_fault, session_serving, fault_of, screen_of}
use Rattle.rfb_server.specs.Composition.{Part, Composes, IsDue}
use Rattle.rfb_server.specs.declared.hint.Hint.{Hint}
use Rattle.rfb_server.specs.Hints.{hints_in, hints_of}
use Rattle.rfb_server.specs.UsedHints.{AreUsed, usable}

-- an update was due and was appended, which leaves the other state; its copies are those of the
-- hints that are of use
pub record IsUpdate (old new : ServerState) (hints : List Hint) (before after : List ℕ)
    : Type 0 where
  pub due : IsDue old
  pub bytes : List ℕ
  pub copies : List Part
  pub blocks : List Part
  pub appended : after ≡ before ++ bytes
  pub composes : Composes old new bytes copies blocks
  pub used : AreUsed old (usable old hints) composes.moves

-- such an update of what a session stood for was appended; over the screen the session then stands
-- for what it leaves
pub record HasSent (serving : Serving) (s : ServerState) (prefix : List ℕ) (hints : List Hint)
    (screen : Grid Colour) (new : Session) (before after : List ℕ) : Type 0 where
  pub resulting : ServerState
  pub update : IsUpdate s resulting hints before after
  pub stands : SessionStandsFor serving screen new resulting prefix

-- ---- a session

-- its viewer waits for an update, RFC 6143 section 7.5.3: the handshake is done, no fault has come,
-- and a place was asked for since the latest update
pub record HasAsked (session : Session) : Type 0 where
  pub ready : is_ready session.progress ≡ true
  pub x : ℕ
  pub y : ℕ
  pub is_place : (x < session.known.width) × (y < session.known.height)
  pub asked : asked_at session.area x y ≡ true

-- an update was appended, of whatever the session stood for over the screen
pub record SendsUpdate (screen : Grid Colour) (old new : Session) (before after : List ℕ)
    : Type 0 where
  pub fault_is : session_fault new ≡ session_fault old
  pub made_is : session_serving new ≡ session_serving old
  pub sent : (serving : Serving) (s : ServerState) (prefix : List ℕ) →
      SessionStandsFor serving screen old s prefix →
      HasSent serving s prefix (hints_in old) screen new before after

-- an update was due, of whatever the session stood for over the screen
abbrev pub OwesUpdate : Grid Colour → Session → Type 0
OwesUpdate screen old = (serving : Serving) (s : ServerState) (prefix : List ℕ) →
    SessionStandsFor serving screen old s prefix → IsDue s

-- none is due, whatever the session stands for over the screen
abbrev pub NoneDue : Grid Colour → Session → Type 0
NoneDue screen session = (serving : Serving) (s : ServerState) (prefix : List ℕ) →
    SessionStandsFor serving screen session s prefix → IsDue s → ⊥

-- no update was due over the screen, nothing has changed, and none is due now
pub record OwesNone (screen : Grid Colour) (old new : Session) (before after : List ℕ)
    : Type 0 where
  pub appended : after ≡ before
  pub kept : KeepsSession old new
  pub not_due : NoneDue screen old
  pub still : NoneDue screen new

-- ---- a server

-- an update was appended, of whatever the server stood for
pub record Updates (old new : Server) (before after : List ℕ) : Type 0 where
  pub screen_is : screen_of new ≡ screen_of old
  pub fault_is : fault_of new ≡ fault_of old
  pub sent : (serving : Serving) (s : ServerState) (prefix : List ℕ) →
      StandsFor serving old s prefix →
      HasSent serving s prefix (hints_of old) (screen_of new) new.session before after

-- an update was due, of whatever the server stood for
abbrev pub WasDue : Server → Type 0
WasDue old = OwesUpdate (screen_of old) old.session

-- no update was due, and nothing has changed
pub record StaysUnsent (old new : Server) (before after : List ℕ) : Type 0 where
  pub appended : after ≡ before
  pub kept : Keeps old new
  pub not_due : (serving : Serving) (s : ServerState) (prefix : List ℕ) →
      StandsFor serving old s prefix → IsDue s → ⊥
