-- What an engine did with a server: bytes that it was fed, updates that it composed, and screens
-- that it was given.
use Rattle.std.specs.Prelude.{◌≡◌, ◌≢◌, ℕ, ◌<◌, ◌+◌, ◌-◌, ◌^◌, Bool, false, List, [], ◌++◌, length, Option, Some}
use Rattle.std.specs.Io.KnownBytes.{Appends, Consumes, IsAtEnd}
use Rattle.rfb_pixel.specs.declared.colour.Colour.{Colour}
use Rattle.rfb_picture.specs.Grid.{Grid}
use Rattle.rfb_wire.specs.stream.End.{RefusedBy, RunsOutBy}
use Rattle.rfb_hello.specs.Version.{version_text}
use Rattle.rfb_server.specs.declared.fault.ServerFault.{ServerFault}
use Rattle.rfb_server.specs.declared.fault.ServerFault.TheVariants.{NoMemory as TextNoMemory}
use Rattle.rfb_server.specs.declared.server.Server.{Server}
use Rattle.rfb_server.specs.ClientBytes.{ClientAt, FromClient, is_between}
use Rattle.rfb_server.specs.Told.{ServerTold}
use Rattle.rfb_server.specs.Server.{Serving, ServerState, server, AsksMemory}
use Rattle.rfb_server.specs.Model.{StandsFor, Keeps as KeepsAll, with_screen, fault_of}
use Rattle.rfb_server.specs.Failed.{KeepsNotes}
use Rattle.rfb_server.specs.Composition.{Part, Composes, IsDue}
use Rattle.rfb_server.specs.UpdateCall.{Updates, WasDue}
use Rattle.rfb_session.specs.declared.engine.fault.EngineFault.{EngineFault}
use Rattle.rfb_session.specs.declared.engine.fault.EngineFault.TheVariants.{Server as ServerEnded, Viewer, Truncated}
use Rattle.rfb_session.specs.declared.engine.fault.EngineFault.TheVariants.{Device, NoMemory}
use Rattle.rfb_session.specs.Devices.{AppendsBeginning}
use Rattle.rfb_session.specs.InFlight.{server_reply}
use Rattle.rfb_session.specs.Playback.{most}
use Rattle.rfb_session.specs.EngineRun.{Step, Fed, Did, Driven, driven, Ran, RunsOn, FeedsOn, EndsAmong}
use Rattle.rfb_session.specs.Wire.{Writing, by_bytes}

-- an update was composed, which has these bytes; or the screen was drawn on, and looks so
pub data ServerAct : Type 0 where
  Composed : (bytes : List ℕ) → ServerAct
  Drawn : (screen : Grid Colour) → ServerAct

-- what they make of a state
abbrev pub Serves : ServerState → ServerAct → ServerState → Type 0
Serves s (Composed bytes) t =
    IsDue s × (copies blocks : List Part) × Composes s t bytes copies blocks
Serves s (Drawn screen) t = t ≡ with_screen screen s

-- the server's answers are sent, and its updates
abbrev pub server_sends : Step ServerTold ServerAct → List ℕ
server_sends (Fed bytes event) = server_reply event
server_sends (Did (Composed bytes)) = bytes
server_sends (Did (Drawn screen)) = []

abbrev pub updates_composed : Step ServerTold ServerAct → ℕ
updates_composed (Fed bytes event) = 0
updates_composed (Did (Composed bytes)) = 1
updates_composed (Did (Drawn screen)) = 0

-- a server as engines run it
abbrev pub server_driven :
    Driven Server Serving ServerState ClientAt FromClient ServerFault ServerTold ServerAct
server_driven = driven server StandsFor Serves server_sends updates_composed

-- it was fed these bytes, these are sent, `updates` updates were composed, and it became that one
abbrev pub ServerRuns : Server → List ℕ → List ℕ → ℕ → Server → Type 0
ServerRuns old fed sent updates new = RunsOn server_driven old fed sent updates new

-- no update is due
abbrev pub IsIdle : ServerState → Type 0
IsIdle s = IsDue s → ⊥

-- and none is due then
abbrev pub RunsToIdle : Server → List ℕ → List ℕ → ℕ → Server → Type 0
RunsToIdle old fed sent updates new =
    (serving : Serving) (s : ServerState) (prefix : List ℕ) → StandsFor serving old s prefix →
    (r : Ran server_driven serving s prefix new fed sent updates) × IsIdle r.state

-- the same of a server at which none was due at the beginning, as at a fresh one
abbrev pub KeepsIdle : Server → List ℕ → List ℕ → ℕ → Server → Type 0
KeepsIdle old fed sent updates new =
    (serving : Serving) (s : ServerState) (prefix : List ℕ) → StandsFor serving old s prefix →
    IsIdle s → (r : Ran server_driven serving s prefix new fed sent updates) × IsIdle r.state

abbrev pub RunsFromIdle : Server → List ℕ → List ℕ → ℕ → Server → Type 0
RunsFromIdle old fed sent updates new =
    (serving : Serving) (s : ServerState) (prefix : List ℕ) → StandsFor serving old s prefix →
    IsIdle s → Ran server_driven serving s prefix new fed sent updates

-- it ended at these bytes: by a fault of theirs, or because it asked for memory there; it has the
-- screen and the notes that the items before left
pub record ServerEndsBy (fault : ServerFault) (old : Server) (slice : List ℕ)
    (new : Server) : Type 0 where
  pub fails : fault_of new ≡ Some fault
  pub refused : fault ≢ TextNoMemory → (serving : Serving) →
      RefusedBy (server serving) (StandsFor serving) old slice fault
  pub starved : fault ≡ TextNoMemory → (serving : Serving) →
      RunsOutBy (server serving) AsksMemory (StandsFor serving) old slice
  pub kept : KeepsNotes fault old slice new

-- whether the client's bytes have ended between two messages, by the server
abbrev pub ServerBetween : Server → Bool → Type 0
ServerBetween now between =
    (serving : Serving) (s : ServerState) (prefix : List ℕ) →
    StandsFor serving now s prefix → between ≡ is_between s.point prefix

-- ---- one read

-- it was fed these bytes, and nothing else was done; those are sent, and it became that one
abbrev pub Hears : Server → List ℕ → List ℕ → Server → Type 0
Hears old bytes sent new = FeedsOn server_driven old bytes sent 0 new

-- all of its bytes were fed, and all answers were written
pub record IsHeard (old : Server) (bytes : List ℕ) (before after : Option (List ℕ))
    (new : Server) : Type 0 where
  pub sent : List ℕ
  pub runs : ServerRuns old bytes sent 0 new
  pub wrote : Appends before after sent

module _ {D : Type 0} where
  -- some of them were fed, and an answer was not written whole
  pub record IsCutOff (writing : Writing D) (old : Server) (bytes : List ℕ) (before after : D)
      (new : Server) : Type 0 where
    pub fed : List ℕ
    pub later : List ℕ
    pub sent : List ℕ
    pub bytes_are : bytes ≡ fed ++ later
    pub hears : Hears old fed sent new
    pub wrote : writing.some before after sent

  -- some of them were fed, all answers were written, and the server ended at the others
  pub record IsEndedBy (writing : Writing D) (old : Server) (bytes : List ℕ) (before after : D)
      (fault : ServerFault) (new : Server) : Type 0 where
    pub fed : List ℕ
    pub slice : List ℕ
    pub sent : List ℕ
    pub last : Server
    pub bytes_are : bytes ≡ fed ++ slice
    pub hears : Hears old fed sent last
    pub wrote : writing.all before after sent
    pub ends : ServerEndsBy fault last slice new

  -- why hearing stops; a failure was counted
  abbrev pub StopsHearing : Writing D → Server → List ℕ → D → D → ℕ → ℕ → EngineFault → Server →
      Type 0
  StopsHearing writing old bytes before after failed_before failed (ServerEnded fault) new =
      IsEndedBy writing old bytes before after fault new
  StopsHearing writing old bytes before after failed_before failed Device new =
      (failed ≡ failed_before + 1) × IsCutOff writing old bytes before after new
  StopsHearing writing old bytes before after failed_before failed (Viewer fault) new = ⊥
  StopsHearing writing old bytes before after failed_before failed Truncated new = ⊥
  StopsHearing writing old bytes before after failed_before failed NoMemory new = ⊥

-- the same, by what is known of the bytes that were written
abbrev pub IsEnded : Server → List ℕ → Option (List ℕ) → Option (List ℕ) → ServerFault → Server →
    Type 0
IsEnded old bytes before after fault new = IsEndedBy by_bytes old bytes before after fault new

-- `updates` updates were composed, one or none, and written; and none is due then
pub record IsUpdated (old : Server) (before after : Option (List ℕ)) (updates : ℕ)
    (new : Server) : Type 0 where
  pub sent : List ℕ
  pub runs : RunsToIdle old [] sent updates new
  pub wrote : Appends before after sent

-- one was composed and not written whole; or one was due and there was no memory for it, and
-- nothing has changed
abbrev pub StopsUpdating : {D : Type 0} → Writing D → Server → D → D → ℕ → ℕ → EngineFault →
    Server → Type 0
StopsUpdating writing old before after failed_before failed Device new =
    (failed ≡ failed_before + 1) × (sent : List ℕ) × Updates old new [] sent
    × writing.some before after sent
StopsUpdating writing old before after failed_before failed NoMemory new =
    WasDue old × KeepsAll old new × writing.all before after []
StopsUpdating writing old before after failed_before failed (ServerEnded fault) new = ⊥
StopsUpdating writing old before after failed_before failed (Viewer fault) new = ⊥
StopsUpdating writing old before after failed_before failed Truncated new = ⊥

-- ---- all reads

-- it was fed all that there was, if that is known and has fewer than 2 ^ 64 - 1 bytes. All answers and updates were
-- written after the front, and no update is due then
pub record AllServed (unread left before after : Option (List ℕ)) (front : List ℕ)
    (old : Server) (told : ℕ) (new : Server) : Type 0 where
  pub fed : List ℕ
  pub sent : List ℕ
  pub updates : ℕ
  pub told_is : told ≡ most updates
  pub read : Consumes unread left fed
  pub runs : KeepsIdle old fed sent updates new
  pub wrote : Appends before after (front ++ sent)
  pub ended : (bytes : List ℕ) → unread ≡ Some bytes → length bytes < 2 ^ 64 - 1 → IsAtEnd left

-- it was fed the first bytes of what was read, and a beginning of what it sent was written
pub record ServedSome (unread left before after : Option (List ℕ)) (front : List ℕ)
    (old new : Server) : Type 0 where
  pub fed : List ℕ
  pub later : List ℕ
  pub sent : List ℕ
  pub updates : ℕ
  pub read : Consumes unread left (fed ++ later)
  pub runs : RunsFromIdle old fed sent updates new
  pub wrote : AppendsBeginning before after (front ++ sent)

-- it was fed the first bytes of what was read, all that it sent was written, and it ended at the
-- next
abbrev pub ServedUntil : Option (List ℕ) → Option (List ℕ) → Option (List ℕ) → Option (List ℕ) →
    List ℕ → Server → ServerFault → Server → Type 0
ServedUntil unread left before after front old fault new =
    EndsAmong (λ all. Consumes unread left all) (λ fed last. (sent : List ℕ) × (updates : ℕ)
    × RunsFromIdle old fed sent updates last × Appends before after (front ++ sent))
    (λ last slice. ServerEndsBy fault last slice new)

-- a server's greeting, whatever its state
abbrev pub IsGreeting : Server → List ℕ → Type 0
IsGreeting old greeting =
    (serving : Serving) (s : ServerState) (prefix : List ℕ) → StandsFor serving old s prefix →
    greeting ≡ version_text serving.hello.offer

-- after its greeting
pub record GoesOn (After : List ℕ → Type 0) (old : Server) : Type 0 where
  pub greeting : List ℕ
  pub greeting_is : IsGreeting old greeting
  pub goes_on : After greeting

-- why serving stops, after that front: the bytes ended where they must not; a read or a write
-- failed, which was counted; the server ended; or there was no memory for an update
abbrev pub StopsServing : Option (List ℕ) → Option (List ℕ) → ℕ → ℕ → Option (List ℕ) →
    Option (List ℕ) → ℕ → ℕ → List ℕ → Server → EngineFault → Server → Type 0
StopsServing unread left failing failed before after stuck stopped front old Truncated new =
    (told : ℕ) × AllServed unread left before after front old told new × ServerBetween new false
StopsServing unread left failing failed before after stuck stopped front old Device new =
    (failed + stopped ≡ failing + stuck + 1) × ServedSome unread left before after front old new
StopsServing unread left failing failed before after stuck stopped front old NoMemory new =
    ServedSome unread left before after front old new
StopsServing unread left failing failed before after stuck stopped front old (ServerEnded fault)
    new =
    ServedUntil unread left before after front old fault new
StopsServing unread left failing failed before after stuck stopped front old (Viewer fault) new = ⊥
