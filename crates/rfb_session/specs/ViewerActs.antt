-- What an engine did with a viewer: bytes that it was fed, and requests.
use Rattle.std.specs.Prelude.{◌≡◌, ◌≢◌, ℕ, ◌+◌, ◌-◌, ◌^◌, Bool, min, List, []}
use Rattle.std.specs.Prelude.{Option, Some, None}
use Rattle.rfb_pixel.specs.declared.colour.Colour.{Colour}
use Rattle.rfb_picture.specs.Grid.{Grid}
use Rattle.rfb_picture.specs.Rect.{rect}
use Rattle.rfb_wire.specs.stream.End.{FedBy, RefusedBy, RunsOutBy}
use Rattle.rfb_picture.specs.declared.rect.Rect.{Rect}
use Rattle.rfb_viewer.specs.declared.fault.ViewerFault.{ViewerFault}
use Rattle.rfb_viewer.specs.declared.fault.ViewerFault.TheVariants.{NoMemory}
use Rattle.rfb_viewer.specs.declared.viewer.Viewer.{Viewer}
use Rattle.rfb_viewer.specs.ServerBytes.{ServerAt, FromServer, is_between}
use Rattle.rfb_viewer.specs.Told.{ViewerTold, Reply, Ready, UpdateDone, Bell, CutText, ColourMapSkipped}
use Rattle.rfb_viewer.specs.Viewer.{Viewing, ViewerState, viewer, AsksMemory}
use Rattle.rfb_viewer.specs.Model.{StandsFor, fault_of}
use Rattle.rfb_viewer.specs.Failed.{KeepsPicture, KeepsReason}
use Rattle.rfb_viewer.specs.Calls.{request_refusal, requested}
use Rattle.rfb_viewer.specs.Messages.{request_message}
use Rattle.rfb_session.specs.InFlight.{viewer_reply}
use Rattle.rfb_session.specs.EngineRun.{Step, Fed, Did, Driven, driven, RunsOn, FeedsOn, EndsAmong}

-- what an engine does with a viewer: a request for the area; or none, where the viewer refuses one
pub data ViewerAct : Type 0 where
  Asked : (incremental : Bool) → (area : Rect) → ViewerAct
  PassedOver : (incremental : Bool) → ViewerAct

-- the whole screen; before there is one, an area without a place
abbrev pub whole_area : Option (Grid Colour) → Rect
whole_area None = rect 0 0 0 0
whole_area (Some screen) = rect 0 0 screen.width screen.height

-- each request is for the whole screen, and is made exactly where the viewer accepts it
abbrev pub Asks : ViewerState → ViewerAct → ViewerState → Type 0
Asks s (Asked incremental area) t =
    (area ≡ whole_area s.picture) × (request_refusal s area ≡ None) × (t ≡ requested s)
Asks s (PassedOver incremental) t =
    (request_refusal s (whole_area s.picture) ≢ None) × (t ≡ s)

-- the viewer's answers are sent, and the engine's requests
abbrev pub viewer_sends : Step ViewerTold ViewerAct → List ℕ
viewer_sends (Fed bytes event) = viewer_reply event
viewer_sends (Did (Asked incremental area)) = request_message incremental area
viewer_sends (Did (PassedOver incremental)) = []

-- an update ends where its end is reported
abbrev pub ends_told : Option ViewerTold → ℕ
ends_told None = 0
ends_told (Some (Reply bytes)) = 0
ends_told (Some (Ready bytes width height name name_length)) = 0
ends_told (Some UpdateDone) = 1
ends_told (Some Bell) = 0
ends_told (Some (CutText kept text_length)) = 0
ends_told (Some ColourMapSkipped) = 0

abbrev pub updates_ended : Step ViewerTold ViewerAct → ℕ
updates_ended (Fed bytes event) = ends_told event
updates_ended (Did act) = 0

-- a viewer as engines run it
abbrev pub viewer_driven :
    Driven Viewer Viewing ViewerState ServerAt FromServer ViewerFault ViewerTold ViewerAct
viewer_driven = driven viewer StandsFor Asks viewer_sends updates_ended

-- it was fed these bytes, these are sent, `updates` updates ended, and it became that one
abbrev pub ViewerRuns : Viewer → List ℕ → List ℕ → ℕ → Viewer → Type 0
ViewerRuns old fed sent updates new = RunsOn viewer_driven old fed sent updates new

-- the same, and nothing was done with it but feeding
abbrev pub ViewerFeeds : Viewer → List ℕ → List ℕ → ℕ → Viewer → Type 0
ViewerFeeds old fed sent updates new = FeedsOn viewer_driven old fed sent updates new

-- a viewer became that one when it was fed these bytes and told this of them
abbrev pub WasFed : Viewer → List ℕ → Option ViewerTold → Viewer → Type 0
WasFed first bytes event old =
    (viewing : Viewing) → FedBy (viewer viewing) (StandsFor viewing) first bytes event old

-- it ended at these bytes: by a fault of theirs, or because it asked for memory there. It shows
-- what came before, and keeps the reason that the server gave
pub record EndsBy (fault : ViewerFault) (old : Viewer) (slice : List ℕ)
    (new : Viewer) : Type 0 where
  pub fails : fault_of new ≡ Some fault
  pub refused : fault ≢ NoMemory → (viewing : Viewing) →
      RefusedBy (viewer viewing) (StandsFor viewing) old slice fault
  pub starved : fault ≡ NoMemory → (viewing : Viewing) →
      RunsOutBy (viewer viewing) (AsksMemory viewing) (StandsFor viewing) old slice
  pub picture : fault_of old ≡ None → KeepsPicture fault old slice new
  pub reason : fault_of old ≡ None → KeepsReason fault old slice new

-- it was fed these bytes, whatever is sent for them and however many updates ended
abbrev pub ViewerGoes : Viewer → List ℕ → Viewer → Type 0
ViewerGoes old fed new = (sent : List ℕ) × (updates : ℕ) × ViewerRuns old fed sent updates new

-- a run over the first of bytes for which `known` holds, and then the viewer ended at those after them
abbrev pub EndsAfter : (List ℕ → Type 0) → Viewer → ViewerFault → Viewer → Type 0
EndsAfter known old fault new =
    EndsAmong known (ViewerGoes old) (λ last slice. EndsBy fault last slice new)

-- the same of these bytes
abbrev pub EndsWithin : Viewer → List ℕ → ViewerFault → Viewer → Type 0
EndsWithin old bytes fault new = EndsAfter (λ all. bytes ≡ all) old fault new

-- whether the server's bytes have ended between two messages, by the viewer
abbrev pub StandsBetween : Viewer → Bool → Type 0
StandsBetween now between =
    (viewing : Viewing) (s : ViewerState) (prefix : List ℕ) →
    StandsFor viewing now s prefix → between ≡ is_between s.point prefix

-- it was fed all of these bytes, and the updates were counted after those before
pub record IsWatched (old : Viewer) (bytes : List ℕ) (before told : ℕ) (new : Viewer) : Type 0 where
  pub sent : List ℕ
  pub updates : ℕ
  pub told_is : told ≡ min (before + updates) (2 ^ 64 - 1)
  pub runs : ViewerRuns old bytes sent updates new
