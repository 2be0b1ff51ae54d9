-- What an engine did over a wire, by what is known of the wire before and after. The same is said of its bytes and its
-- failures as of those of a source and a sink.
use Rattle.std.specs.Prelude.{◌≡◌, ℕ, ◌+◌, List, Option, Result}
use Rattle.rfb_server.specs.declared.server.Server.{Server}
use Rattle.rfb_viewer.specs.declared.viewer.Viewer.{Viewer}
use Rattle.rfb_session.specs.declared.engine.fault.EngineFault.{EngineFault}
use Rattle.rfb_session.specs.Failed.{StaysUnfed}
use Rattle.rfb_session.specs.ServeEngine.{AllServed, StopsServing}
use Rattle.rfb_session.specs.Turns.{Showing, GreetsAndTurns, StopsByTurns, StopsInTurn, TakesTurns}
use Rattle.rfb_session.specs.ViewEngine.{HasViewed, StopsViewing}
use Rattle.rfb_session.specs.Wire.{Known}

-- no read and no write has failed
abbrev pub NoneMissed : Known → Known → Type 0
NoneMissed old new =
    (new.failed_reads ≡ old.failed_reads) × (new.failed_writes ≡ old.failed_writes)

-- an engine of an end that had failed before feeds it nothing
abbrev pub StaysUnfedOver : {A V F : Type 0} → (F → EngineFault) → Result A EngineFault →
    Option F → Known → Known → V → Result A EngineFault → V → Type 0
StaysUnfedOver told ended failed before after old result new =
    StaysUnfed told ended failed before.unread after.unread old result new

-- what is said of what was read and of failed reads, and of what was written and of failed writes,
-- each before and after, is said of a wire
abbrev pub over_wire : {Said : Type 1} → (Option (List ℕ) → Option (List ℕ) → ℕ → ℕ →
    Option (List ℕ) → Option (List ℕ) → ℕ → ℕ → Said) → Known → Known → Said
over_wire said before after =
    said before.unread after.unread before.failed_reads after.failed_reads
    before.written after.written before.failed_writes after.failed_writes

-- ---- a server

-- a server was fed all that came, and all that it sent was written after the front
abbrev pub AllServedOver : Known → Known → List ℕ → Server → ℕ → Server → Type 0
AllServedOver before after front old told new =
    AllServed before.unread after.unread before.written after.written front old told new

-- why serving stops, after that front
abbrev pub StopsServingOver : Known → Known → List ℕ → Server → EngineFault → Server → Type 0
StopsServingOver before after front old fault new =
    over_wire StopsServing before after front old fault new

module _ {X : Type 0} where
  -- turns over all that was read
  abbrev pub TakesTurnsOver : Showing X → Known → Known → Server → X → ℕ → Server → X → Type 0
  TakesTurnsOver shows before after old scene told new last =
      TakesTurns shows before.unread after.unread before.written after.written
      old scene told new last

  -- the greeting was written, and then turns were taken
  abbrev pub GreetsAndTurnsOver : Showing X → Known → Known → Server → X → ℕ → Server → X → Type 0
  GreetsAndTurnsOver shows before after old scene told new last =
      GreetsAndTurns shows before.unread after.unread before.written after.written
      old scene told new last

  -- turns, and then one that stops
  abbrev pub StopsInTurnOver : Showing X → Known → Known → Server → X → EngineFault → Server → X →
      Type 0
  StopsInTurnOver shows before after old scene fault new last =
      over_wire (StopsInTurn shows) before after old scene fault new last

  -- it stops at the greeting, in a turn, or after turns that end too early
  abbrev pub StopsByTurnsOver : Showing X → Known → Known → Server → X → EngineFault → Server → X →
      Type 0
  StopsByTurnsOver shows before after old scene fault new last =
      over_wire (StopsByTurns shows) before after old scene fault new last

-- ---- a viewer

-- so many updates ended, and a viewer was fed no byte after the last
abbrev pub HasViewedOver : Known → Known → Option (List ℕ) → Option (List ℕ) → Viewer → ℕ →
    Viewer → Type 0
HasViewedOver before after blank copied old updates new =
    HasViewed before.unread after.unread before.written after.written blank copied old updates new

-- no read, no write, and nothing that keeps the bytes has failed; `failing` and `failed` count
-- failures of the latter
abbrev pub NoneFailedOver : Known → Known → ℕ → ℕ → Type 0
NoneFailedOver before after failing failed = (after.failed_reads ≡ before.failed_reads)
    × (after.failed_writes ≡ before.failed_writes) × (failed ≡ failing)

-- why viewing stops
abbrev pub StopsViewingOver : Known → Known → Option (List ℕ) → Option (List ℕ) → ℕ → ℕ → Viewer →
    ℕ → EngineFault → Viewer → Type 0
StopsViewingOver before after blank copied failing failed old updates fault new =
    StopsViewing before.unread after.unread before.written after.written blank copied
    (before.failed_reads + before.failed_writes + failing)
    (after.failed_reads + after.failed_writes + failed) old updates fault new
