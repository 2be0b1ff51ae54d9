-- Scripts over a connection. What a connection gives is not known, so the picture is some viewer's.
use Rattle.std.specs.Prelude.{◌≡◌, ◌≢◌, ◌⊎◌, ℕ, List, [], ◌++◌, length, Option, Some, None, IfSome}
use Rattle.rfb_pixel.specs.declared.colour.Colour.{Colour}
use Rattle.rfb_picture.specs.Grid.{Grid, Holds, filled, copied, with_row}
use Rattle.rfb_server.specs.declared.hint.Hint.{Hint}
use Rattle.rfb_server.specs.declared.server.Server.{Server}
use Rattle.rfb_server.specs.Hints.{hints_of, with_hint}
use Rattle.rfb_server.specs.Model.{Draws, HoldsBoth, row_from, screen_of}
use Rattle.rfb_server.specs.Model.{fault_of as server_fault}
use Rattle.rfb_server.specs.UpdateCall.{StaysUnsent, Updates}
use Rattle.rfb_viewer.specs.declared.fault.CallFault.{CallFault}
use Rattle.rfb_viewer.specs.declared.viewer.Viewer.{Viewer}
use Rattle.rfb_viewer.specs.Calls.{call_refusal, request_refusal, format_refusal}
use Rattle.rfb_viewer.specs.Calls.{requested, formatted}
use Rattle.rfb_viewer.specs.Messages.{format_message, encodings_message, request_message}
use Rattle.rfb_viewer.specs.Messages.{key_message, pointer_message, text_message}
use Rattle.rfb_viewer.specs.Model.{StandsFor, fault_of as viewer_fault, picture_of}
use Rattle.rfb_viewer.specs.Viewer.{Viewing, ViewerState}
use Rattle.rfb_session.specs.declared.event.Event.{Event}
use Rattle.rfb_session.specs.declared.event.Event.TheVariants.{Fill, Put, Copy, Hint as Hinting}
use Rattle.rfb_session.specs.declared.event.Event.TheVariants.{Request, SetFormat, SetEncodings}
use Rattle.rfb_session.specs.declared.event.Event.TheVariants.{Key, Pointer, CutText, Compose}
use Rattle.rfb_session.specs.declared.event.Event.TheVariants.{ToServer, ToViewer}
use Rattle.rfb_session.specs.declared.told.Refused.{Refused}
use Rattle.rfb_session.specs.declared.told.Refused.TheVariants.{NotReady}
use Rattle.rfb_session.specs.Told.{RefusesUnless, refused_as}
use Rattle.rfb.specs.declared.loopback.ends.Ends.{Ends}
use Rattle.rfb.specs.Recording.{BeginsPicture, WritesPicture}
use Rattle.rfb.specs.Script.{AreSomeScript, lines_of}

-- the whole of what some viewer shows was written after what stood there before
abbrev pub WritesSomePicture : Option (List ℕ) → Option (List ℕ) → Type 0
WritesSomePicture before after = (viewer : Viewer) × WritesPicture viewer before after

-- a beginning of such a picture was
abbrev pub BeginsSomePicture : Option (List ℕ) → Option (List ℕ) → Type 0
BeginsSomePicture before after = (viewer : Viewer) × BeginsPicture viewer before after

-- what was read, where its bytes are known, is a script, and such a picture was written
pub record PlaysSomeScript (read before after : Option (List ℕ)) : Type 0 where
  pub is_script : IfSome read (λ text. AreSomeScript (lines_of text))
  pub written : WritesSomePicture before after

-- the output is as it was, or a beginning was
abbrev pub LeavesSomePicture : Option (List ℕ) → Option (List ℕ) → Type 0
LeavesSomePicture before after = (after ≡ before) ⊎ BeginsSomePicture before after

-- ---- what each kind of event does to both ends and what is in flight

-- a drawing or a hint is refused where what it needs leaves the screen, and then nothing changes.
-- Else the server has this screen and these hints, and nothing else changes
pub record DrawsOn (Inside : Type 0) (screen : Grid Colour) (hints : List Hint) (old : Ends)
    (refused : Option Refused) (new : Ends) : Type 0 where
  pub refusal : RefusesUnless Inside refused
  pub kept : refused ≢ None → new ≡ old
  pub drawn : refused ≡ None → Draws screen old.server new.server
  pub hinted : refused ≡ None → hints_of new.server ≡ hints
  pub others : new ≡ record old { server = new.server }

-- a call is refused as the viewer's state says, and then nothing changes. Else its message is in
-- flight to the server after the others, and of all else only the viewer may change
pub record Sends (refusal_in : ViewerState → List ℕ → Option CallFault) (message : List ℕ)
    (old : Ends) (refused : Option Refused) (new : Ends) : Type 0 where
  pub refusal : (viewing : Viewing) (s : ViewerState) (prefix : List ℕ) →
      StandsFor viewing old.viewer s prefix → refused ≡ refused_as (refusal_in s prefix)
  pub failed : viewer_fault old.viewer ≢ None → refused ≡ Some NotReady
  pub kept : refused ≢ None → new ≡ old
  pub sent : refused ≡ None → new.to_server.items ≡ old.to_server.items ++ message
  pub others : new ≡ record old { viewer = new.viewer; to_server = new.to_server }

-- a viewer that did not refuse a call has the state that the call makes of its own
pub record Becomes (called : ViewerState → ViewerState) (old : Viewer) (refused : Option Refused)
    (new : Viewer) : Type 0 where
  pub stands : refused ≡ None → (viewing : Viewing) (s : ViewerState) (prefix : List ℕ) →
      StandsFor viewing old s prefix → StandsFor viewing new (called s) prefix
  pub picture : picture_of new ≡ picture_of old

-- an update was due and is in flight after the others, and no hint is left
abbrev pub SendsUpdate : Server → Server → List ℕ → List ℕ → Type 0
SendsUpdate old new before after = Updates old new before after × (hints_of new ≡ [])

-- none was due, and nothing has changed
abbrev pub SendsNothing : Server → Server → List ℕ → List ℕ → Type 0
SendsNothing old new before after =
    StaysUnsent old new before after × (hints_of new ≡ hints_of old)

-- the server composes: one or the other, and nothing once it has failed
pub record ComposesInto (old new : Server) (before after : List ℕ) : Type 0 where
  pub either : SendsUpdate old new before after ⊎ SendsNothing old new before after
  pub failed : server_fault old ≢ None → SendsNothing old new before after

-- what an event that is no delivery does, and its refusal; at a delivery nothing happens
abbrev pub TakesEvent : Ends → Event → Option Refused → Ends → Type 0
TakesEvent old (Fill rect colour) refused new =
    DrawsOn (Holds (screen_of old.server) rect) (filled rect colour (screen_of old.server))
    (hints_of old.server) old refused new
TakesEvent old (Put x y row) refused new =
    DrawsOn (Holds (screen_of old.server) (row_from x y (length row.items)))
    (with_row x y row.items (screen_of old.server)) (hints_of old.server) old refused new
TakesEvent old (Copy rect sx sy) refused new =
    DrawsOn (HoldsBoth (screen_of old.server) rect sx sy) (copied rect sx sy (screen_of old.server))
    (hints_of old.server) old refused new
TakesEvent old (Hinting rect sx sy) refused new =
    DrawsOn (HoldsBoth (screen_of old.server) rect sx sy) (screen_of old.server)
    (with_hint (record { to = rect; sx = sx; sy = sy }) (hints_of old.server)) old refused new
TakesEvent old (Request incremental rect) refused new =
    Sends (λ s prefix. request_refusal s rect) (request_message incremental rect) old refused new
    × Becomes requested old.viewer refused new.viewer
TakesEvent old (SetFormat form) refused new =
    Sends format_refusal (format_message form) old refused new
    × Becomes (formatted form) old.viewer refused new.viewer
TakesEvent old (SetEncodings encodings) refused new =
    Sends (λ s prefix. call_refusal s) (encodings_message encodings.items) old refused new
    × (new.viewer ≡ old.viewer)
TakesEvent old (Key down key) refused new =
    Sends (λ s prefix. call_refusal s) (key_message down key) old refused new
    × (new.viewer ≡ old.viewer)
TakesEvent old (Pointer buttons x y) refused new =
    Sends (λ s prefix. call_refusal s) (pointer_message buttons x y) old refused new
    × (new.viewer ≡ old.viewer)
TakesEvent old (CutText text) refused new =
    Sends (λ s prefix. call_refusal s) (text_message text.items) old refused new
    × (new.viewer ≡ old.viewer)
TakesEvent old Compose refused new =
    (refused ≡ None)
    × ComposesInto old.server new.server old.to_viewer.items new.to_viewer.items
    × (new ≡ record old { server = new.server; to_viewer = new.to_viewer })
TakesEvent old (ToServer count) refused new = (refused ≡ None) × (new ≡ old)
TakesEvent old (ToViewer count) refused new = (refused ≡ None) × (new ≡ old)

-- ---- where an event may end for want of memory

-- whatever state the viewer has, it does not refuse such a call, and it has not failed
pub record Accepts (refusal_in : ViewerState → List ℕ → Option CallFault) (viewer : Viewer)
    : Type 0 where
  pub taken : (viewing : Viewing) (s : ViewerState) (prefix : List ℕ) →
      StandsFor viewing viewer s prefix → refusal_in s prefix ≡ None
  pub goes_on : viewer_fault viewer ≢ None → ⊥

-- a composing, and a call that is not refused
abbrev pub AsksMemory : Ends → Event → Type 0
AsksMemory old (Request incremental rect) =
    Accepts (λ s prefix. request_refusal s rect) old.viewer
AsksMemory old (SetFormat form) = Accepts format_refusal old.viewer
AsksMemory old (SetEncodings encodings) = Accepts (λ s prefix. call_refusal s) old.viewer
AsksMemory old (Key down key) = Accepts (λ s prefix. call_refusal s) old.viewer
AsksMemory old (Pointer buttons x y) = Accepts (λ s prefix. call_refusal s) old.viewer
AsksMemory old (CutText text) = Accepts (λ s prefix. call_refusal s) old.viewer
AsksMemory old Compose = Unit {0}
AsksMemory old event = ⊥
