-- What a step answers: how many bytes it moved, whether it was refused, whether it composed.
use Rattle.std.specs.Prelude.{◌≡◌, ℕ, min, Bool, true, false, length, Option, Some, None, ◌⊎◌, ◌↔◌}
use Rattle.std.specs.Prelude.{Result, Ok, Err}
use Rattle.rfb_picture.specs.Grid.{Holds}
use Rattle.rfb_server.specs.declared.fault.Outside.{Outside as OutsideFault}
use Rattle.rfb_server.specs.Composition.{IsDue}
use Rattle.rfb_server.specs.Model.{row_from, HoldsBoth}
use Rattle.rfb_viewer.specs.declared.fault.CallFault.{CallFault}
use Rattle.rfb_viewer.specs.declared.fault.CallFault.TheVariants.{NotReady as CallNotReady}
use Rattle.rfb_viewer.specs.declared.fault.CallFault.TheVariants.{Busy as CallBusy}
use Rattle.rfb_viewer.specs.declared.fault.CallFault.TheVariants.{AreaOutside as CallOutside}
use Rattle.rfb_viewer.specs.Calls.{call_refusal, request_refusal, format_refusal}
use Rattle.rfb_session.specs.declared.event.Event.{Event}
use Rattle.rfb_session.specs.declared.event.Event.TheVariants.{Fill, Put, Copy, Hint, Request}
use Rattle.rfb_session.specs.declared.event.Event.TheVariants.{SetFormat, SetEncodings, Key}
use Rattle.rfb_session.specs.declared.event.Event.TheVariants.{Pointer, CutText, Compose, ToServer}
use Rattle.rfb_session.specs.declared.event.Event.TheVariants.{ToViewer}
use Rattle.rfb_session.specs.declared.told.Refused.{Refused}
use Rattle.rfb_session.specs.declared.told.Refused.TheVariants.{Outside, NotReady, Busy}
use Rattle.rfb_session.specs.declared.told.Refused.TheVariants.{AreaOutside}
use Rattle.rfb_session.specs.declared.told.Told.{Told}
use Rattle.rfb_session.specs.Link.{Ends, server_of, LinkState}
use Rattle.rfb_session.specs.LinkSteps.{begun, flight_to_viewer, flight_to_server}
use Rattle.rfb_session.specs.Network.{Network}

-- the lesser of what is asked for and what is in flight is moved
abbrev pub moved_by : Ends → LinkState → Event → ℕ
moved_by e l (ToServer count) = min count (flight_to_server e l)
moved_by e l (ToViewer count) = min count (flight_to_viewer e l)
moved_by e l event = 0

-- the refusal of a call, as one of an event
abbrev pub refused_as : Option CallFault → Option Refused
refused_as None = None
refused_as (Some CallNotReady) = Some NotReady
refused_as (Some CallBusy) = Some Busy
refused_as (Some CallOutside) = Some AreaOutside

-- the refusal of a drawing, as one of an event
abbrev pub refused_by : {A : Type 0} → Result A OutsideFault → Option Refused
refused_by (Ok done) = None
refused_by (Err fault) = Some Outside

-- a drawing is refused where what it needs leaves the screen
abbrev pub RefusesUnless : Type 0 → Option Refused → Type 0
RefusesUnless Inside refused =
    (Inside × (refused ≡ None)) ⊎ ((Inside → ⊥) × (refused ≡ Some Outside))

-- an event is refused so, or not
abbrev pub RefusesAs : Network → Event → Option Refused → Type 0
RefusesAs old (Fill rect colour) refused = RefusesUnless (Holds old.screen rect) refused
RefusesAs old (Put x y row) refused =
    RefusesUnless (Holds old.screen (row_from x y (length row.items))) refused
RefusesAs old (Copy rect sx sy) refused = RefusesUnless (HoldsBoth old.screen rect sx sy) refused
RefusesAs old (Hint rect sx sy) refused = RefusesUnless (HoldsBoth old.screen rect sx sy) refused
RefusesAs old (Request incremental rect) refused =
    refused ≡ refused_as (request_refusal old.link.viewer rect)
RefusesAs old (SetFormat form) refused =
    refused ≡ refused_as
    (format_refusal old.link.viewer (begun old.link.at_viewer old.link.to_viewer))
RefusesAs old (SetEncodings encodings) refused = refused ≡ refused_as (call_refusal old.link.viewer)
RefusesAs old (Key down key) refused = refused ≡ refused_as (call_refusal old.link.viewer)
RefusesAs old (Pointer buttons x y) refused = refused ≡ refused_as (call_refusal old.link.viewer)
RefusesAs old (CutText text) refused = refused ≡ refused_as (call_refusal old.link.viewer)
RefusesAs old Compose refused = refused ≡ None
RefusesAs old (ToServer count) refused = refused ≡ None
RefusesAs old (ToViewer count) refused = refused ≡ None

-- an update is composed exactly where one is due
abbrev pub ComposesAs : Network → Event → Bool → Type 0
ComposesAs old Compose composed =
    (composed ≡ true) ↔ IsDue (server_of old.screen old.link.session)
ComposesAs old event composed = composed ≡ false

-- a step of an event answers that
pub record Tells (e : Ends) (old : Network) (event : Event) (told : Told) : Type 0 where
  pub moved : told.moved ≡ moved_by e old.link event
  pub refused : RefusesAs old event told.refused
  pub composed : ComposesAs old event told.composed

-- the same of an event, whatever the ends are: only a delivery moves bytes, only a composing
-- composes, and neither is refused
abbrev pub TellsAlone : Event → Told → Type 0
TellsAlone Compose told = (told.moved ≡ 0) × (told.refused ≡ None)
TellsAlone (ToServer count) told = (told.refused ≡ None) × (told.composed ≡ false)
TellsAlone (ToViewer count) told = (told.refused ≡ None) × (told.composed ≡ false)
TellsAlone event told = (told.moved ≡ 0) × (told.composed ≡ false)
