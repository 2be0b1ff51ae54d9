-- A share of the picture that a viewer has: what its seats are told, and what its calls make of it.
use Rattle.std.specs.Prelude.{◌≡◌, ◌≢◌, ◌≤◌, ℕ, List, Option, Some, None, Result}
use Rattle.rfb_pixel.specs.declared.colour.Colour.{Colour}
use Rattle.rfb_picture.specs.Grid.{Grid}
use Rattle.rfb_codec.specs.Effect.{IsAlike}
use Rattle.rfb_hello.specs.declared.fed.Fed.{Fed}
use Rattle.rfb_server.specs.Hints.{hints_in}
use Rattle.rfb_viewer.specs.declared.call.Call.{Call}
use Rattle.rfb_viewer.specs.declared.fault.AppendFault.{AppendFault}
use Rattle.rfb_viewer.specs.declared.event.ViewerEvent.{ViewerEvent}
use Rattle.rfb_viewer.specs.declared.fault.ViewerFault.{ViewerFault}
use Rattle.rfb_viewer.specs.declared.viewer.Viewer.{Viewer}
use Rattle.rfb_viewer.specs.declared.viewer.moved.Move.{Move}
use Rattle.rfb_viewer.specs.Moved.{moved_of}
use Rattle.rfb_session.specs.declared.share.Share.{Share}
use Rattle.rfb_session.specs.declared.share.seat.ShareSeat.{ShareSeat}
use Rattle.rfb_session.specs.Mirrors.{TakesBytes, FailsAt, IsAsked, MakesCall}
use Rattle.rfb_session.specs.Share.{seat_in, screen_of, viewer_of, serving_in}
use Rattle.rfb_session.specs.ShareMoves.{GetsCopies}
use Rattle.rfb_session.specs.ShareSeats.{session_at, KeepsShareSeat}
use Rattle.rfb_session.specs.Slots.{OnSlot}

-- ---- what a seat is told

-- it has what it had, and its session those copies as hints
pub record HasCopies (screen : Grid Colour) (moves : List Move) (old new : ShareSeat) : Type 0 where
  pub keeps : KeepsShareSeat old new
  pub hints : GetsCopies screen moves (hints_in (session_at old)) (hints_in (session_at new))

-- it has what it had, and the same hints
pub record HasTold (old new : ShareSeat) : Type 0 where
  pub keeps : KeepsShareSeat old new
  pub hints : hints_in (session_at new) ≡ hints_in (session_at old)

-- ---- bytes of the server's

-- the viewer that was fed is asked for its damage and its copies, and each seat is told of them
pub record Relays (old : Share) (fed : Viewer) (new : Share) : Type 0 where
  pub now : Viewer
  pub is_there : viewer_of new ≡ Some now
  pub asked : IsAsked fed now
  pub seats : (k : ℕ) →
      OnSlot (λ a b. HasCopies (screen_of new) (moved_of fed) a b) (seat_in old k) (seat_in new k)
  pub made : serving_in new ≡ serving_in old

-- they were taken
pub record FeedsOn (old : Share) (bytes : List ℕ) (told : Fed ViewerEvent) (new : Share) : Type 0 where
  pub was : Viewer
  pub mid : Viewer
  pub was_there : viewer_of old ≡ Some was
  pub takes : TakesBytes was bytes told mid
  pub relays : Relays old mid new

-- they came to a fault; what came before it is told too
pub record FailsOn (old : Share) (bytes : List ℕ) (fault : ViewerFault) (new : Share) : Type 0 where
  pub was : Viewer
  pub mid : Viewer
  pub was_there : viewer_of old ≡ Some was
  pub fails : FailsAt was bytes fault mid
  pub relays : Relays old mid new

-- ---- calls of the viewer's

-- the viewer made it, or refused it; the seats and the screen are as they were
pub record MakesOn (old : Share) (was : Viewer) (call : Call) (before : List ℕ)
    (result : Result (Unit {0}) AppendFault) (after : List ℕ) (new : Share) : Type 0 where
  pub now : Viewer
  pub is_there : viewer_of new ≡ Some now
  pub makes : MakesCall was call before result after now
  pub screen : screen_of new ≡ screen_of old
  pub seats : (k : ℕ) → seat_in new k ≡ seat_in old k
  pub made : serving_in new ≡ serving_in old

-- ---- whose picture is shown

-- there is a picture of at most so many columns and rows
abbrev pub IsShowable : Option (Grid Colour) → Type 0
IsShowable None = ⊥
IsShowable (Some picture) = (picture.width ≤ 4096) × (picture.height ≤ 4096)

-- there is one, of the size of a screen
abbrev pub IsSized : Grid Colour → Option (Grid Colour) → Type 0
IsSized screen None = ⊥
IsSized screen (Some picture) = IsAlike picture screen

-- and that is a viewer's picture too
abbrev pub IsShownInstead : Share → Option (Grid Colour) → Type 0
IsShownInstead share picture = (viewer_of share ≢ None) × IsSized (screen_of share) picture

-- the picture of another viewer is shown, and each seat is told that all of it changed
pub record ShowsOther (old : Share) (viewer : Viewer) (new : Share) : Type 0 where
  pub is_there : viewer_of new ≡ Some viewer
  pub seats : (k : ℕ) → OnSlot (λ a b. HasTold a b) (seat_in old k) (seat_in new k)
  pub made : serving_in new ≡ serving_in old
