-- What each step of a viewer promises, whichever item its bytes are of, and what a call of such steps does.
use Rattle.std.specs.Prelude.{◌≡◌, ℕ, ◌+◌, ◌<◌, ◌≤◌, List, length}
use Rattle.std.specs.Prelude.{take, drop, Option, Some, None, Result, Ok, Err}
use Rattle.std.specs.Prelude.{IfOk, IfErr}
use Rattle.rfb_wire.specs.stream.End.{FedBy}
use Rattle.rfb_hello.specs.declared.fed.Fed.{Fed}
use Rattle.rfb_viewer.specs.declared.event.ViewerEvent.{ViewerEvent}
use Rattle.rfb_viewer.specs.declared.event.ViewerEvent.TheVariants.{UpdateDone}
use Rattle.rfb_viewer.specs.declared.fault.ViewerFault.{ViewerFault}
use Rattle.rfb_viewer.specs.declared.viewer.Viewer.{Viewer}
use Rattle.rfb_viewer.specs.declared.viewer.progress.Failure.{Failure}
use Rattle.rfb_viewer.specs.declared.viewer.updates.Taken.{Taken}
use Rattle.rfb_viewer.specs.Counted.{IsPlacedAt}
use Rattle.rfb_viewer.specs.Damage.{damaging, damage_of, IsDamaged, IsSameOutside, KeepsDamage}
use Rattle.rfb_viewer.specs.Failed.{KeepsPicture, KeepsReason}
use Rattle.rfb_viewer.specs.Offer.{KeepsOffer, TakesOffer}
use Rattle.rfb_viewer.specs.Told.{seen}
use Rattle.rfb_viewer.specs.Model.{StandsFor, fault_of, making_of, offered_of, picture_of, taken_of}
use Rattle.rfb_viewer.specs.Viewer.{Viewing, ViewerState, viewer}
use Rattle.rfb_viewer.specs.steps.ItemDamage.{Damages, EndsIn, KeepsOutside}
use Rattle.rfb_viewer.specs.Moved.{HasMoved, KeepsMoved, moved_of, moving}
use Rattle.rfb_viewer.specs.steps.ItemMoves.{Moves}
use Rattle.rfb_viewer.specs.steps.FedBytes.{RefusesBy, StarvesBy, StepsOn, end_event}

-- it takes some of the bytes, all of one item, and goes on
pub record Takes (old : Viewer) (bytes : List ℕ) (used : ℕ) (event : Option ViewerEvent)
    (new : Viewer) : Type 0 where
  pub some : 0 < used
  pub within : used ≤ length bytes
  pub steps : StepsOn old (take used bytes) event new
  pub damage : Damages old (take used bytes) new
  pub moved : Moves old (take used bytes) new
  pub offered : TakesOffer (seen event) old bytes new
  pub going : fault_of new ≡ None
  pub made : making_of new ≡ making_of old
  pub taken : taken_of new ≡ taken_of old

-- it takes all of an update of one rectangle: its head, after which it stands as `mid`, and the
-- rectangle
pub record TakesUpdate (old : Viewer) (bytes : List ℕ) (used : ℕ) (new : Viewer) : Type 0 where
  pub mid : Viewer
  pub front : ℕ
  pub back : ℕ
  pub used_is : used ≡ front + back
  pub head : Takes old bytes front None mid
  pub rectangle : Takes mid (drop front bytes) back (Some UpdateDone) new

-- the bytes are at fault, or memory is wanting where they lead, with that byte of them, and it has
-- failed
pub record Fails (old : Viewer) (bytes : List ℕ) (used : ℕ) (fault : ViewerFault) (new : Viewer) :
    Type 0 where
  pub placed : IsPlacedAt used fault old bytes
  pub picture : EndsIn fault old bytes new
  pub reason : KeepsReason fault old bytes new
  pub offer : KeepsOffer fault old bytes new
  pub damage : Damages old bytes new
  pub moved : moved_of new ≡ moved_of old
  pub failed : fault_of new ≡ Some fault
  pub made : making_of new ≡ making_of old
  pub taken : taken_of new ≡ taken_of old

-- a step takes bytes, and returns the event that they give, if they give one; or it fails
abbrev pub Steps : Viewer → List ℕ → Result (Fed ViewerEvent) Failure → Viewer → Type 0
Steps old bytes (Ok fed) new = Takes old bytes fed.used fed.event new
Steps old bytes (Err failure) new = Fails old bytes failure.used failure.fault new

-- so does one of a rectangle's data, whose only event is the end of the update
abbrev pub StepsInData : Viewer → List ℕ → Result Taken Failure → Viewer → Type 0
StepsInData old bytes (Ok taken) new =
    Takes old bytes taken.used (end_event taken.ends_update) new
StepsInData old bytes (Err failure) new =
    Fails old bytes failure.used failure.fault new

-- ---- a call

-- a call takes these bytes of a slice, and goes on: each step so far had no event
pub record HasTaken (old : Viewer) (bytes : List ℕ) (used : ℕ) (mid : Viewer) : Type 0 where
  pub within : used ≤ length bytes
  pub began : fault_of old ≡ None
  pub going : fault_of mid ≡ None
  pub taken : taken_of mid ≡ taken_of old
  pub made : making_of mid ≡ making_of old
  pub offered : offered_of mid ≡ offered_of old
  pub fed : (viewing : Viewing) →
      FedBy (viewer viewing) (StandsFor viewing) old (take used bytes) None mid
  pub damage : (viewing : Viewing) →
      FedBy (damaging viewing) (IsDamaged viewing) old (take used bytes) None mid
  pub moved : (viewing : Viewing) →
      FedBy (moving viewing) (HasMoved viewing) old (take used bytes) None mid
  pub outside : (viewing : Viewing) (s : ViewerState) (prefix : List ℕ) →
      StandsFor viewing old s prefix → KeepsOutside old mid

-- what it returns of a viewer that has not failed, and how many bytes these are, at a fault those up
-- to the byte with which it came
pub record TakesAll (old : Viewer) (bytes : List ℕ) (count : ℕ)
    (result : Result (Fed ViewerEvent) ViewerFault) (new : Viewer) : Type 0 where
  pub used : IfOk result (λ fed. fed.used ≤ length bytes)
  pub all : IfOk result (λ fed. fed.event ≡ None → fed.used ≡ length bytes)
  pub some : IfOk result (λ fed. 0 < length bytes → 0 < fed.used)
  pub fed : IfOk result (λ fed. (viewing : Viewing) →
      FedBy (viewer viewing) (StandsFor viewing) old (take fed.used bytes) (seen fed.event) new)
  pub made : making_of new ≡ making_of old
  pub offered : IfOk result (λ fed. TakesOffer (seen fed.event) old bytes new)
  pub outside : (viewing : Viewing) (s : ViewerState) (prefix : List ℕ) →
      StandsFor viewing old s prefix →
      IsSameOutside (damage_of new) (picture_of old) (picture_of new)
  pub damage : IfOk result (λ fed. (viewing : Viewing) →
      FedBy (damaging viewing) (IsDamaged viewing) old (take fed.used bytes) (seen fed.event) new)
  pub damaged : IfErr result (λ fault. fault_of old ≡ None → KeepsDamage fault old bytes new)
  pub moved : IfOk result (λ fed. (viewing : Viewing) →
      FedBy (moving viewing) (HasMoved viewing) old (take fed.used bytes) (seen fed.event) new)
  pub unmoved : IfErr result (λ fault. fault_of old ≡ None → KeepsMoved fault old bytes new)
  pub fault : IfErr result (λ fault. RefusesBy old bytes fault)
  pub memory : IfErr result (λ fault. StarvesBy old bytes fault)
  pub picture : IfErr result (λ fault. fault_of old ≡ None → KeepsPicture fault old bytes new)
  pub reason : IfErr result (λ fault. fault_of old ≡ None → KeepsReason fault old bytes new)
  pub offer : IfErr result (λ fault. fault_of old ≡ None → KeepsOffer fault old bytes new)
  pub fails : IfErr result (λ fault. fault_of new ≡ Some fault)
  pub taken : IfOk result (λ fed. count ≡ fed.used)
  pub place : IfErr result (λ fault. IsPlacedAt count fault old bytes)
  pub kept : taken_of new ≡ taken_of old
