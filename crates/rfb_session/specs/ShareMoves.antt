-- What the sessions of a share are told of a viewer's picture: where it changed, and the copies within it.
use Rattle.std.specs.Prelude.{◌≡◌, ◌⊎◌, List, [], ◌∷◌, Option, Some}
use Rattle.rfb_pixel.specs.declared.colour.Colour.{Colour}
use Rattle.rfb_picture.specs.declared.rect.Rect.{Rect}
use Rattle.rfb_picture.specs.Grid.{Grid}
use Rattle.rfb_codec.specs.Effect.{IsAlike}
use Rattle.rfb_server.specs.declared.hint.Hint.{Hint}
use Rattle.rfb_server.specs.KnownScreen.{Follows}
use Rattle.rfb_server.specs.Hints.{hints_in, with_hint}
use Rattle.rfb_server.specs.Model.{HoldsBoth}
use Rattle.rfb_viewer.specs.declared.viewer.moved.Move.{Move}
use Rattle.rfb_viewer.specs.Damage.{IsSameOutside}
use Rattle.rfb_session.specs.declared.share.seat.ShareSeat.{ShareSeat}
use Rattle.rfb_session.specs.ShareSeats.{session_at, KeepsShareSeat}

-- ---- copies

-- the copy as a hint
abbrev pub hint_for : Move → Hint
hint_for move = record { to = move.to; sx = move.sx; sy = move.sy }

-- both its rectangles lie on the screen
abbrev pub IsOnScreen : Grid Colour → Move → Type 0
IsOnScreen screen move = HoldsBoth screen move.to move.sx move.sy

-- a copy is a hint more; one that leaves the screen is none
abbrev pub GetsCopy : Grid Colour → Move → List Hint → List Hint → Type 0
GetsCopy screen move old new =
    (IsOnScreen screen move × (new ≡ with_hint (hint_for move) old))
    ⊎ ((IsOnScreen screen move → ⊥) × (new ≡ old))

-- and so is one after another, the oldest first
abbrev pub GetsCopies : Grid Colour → List Move → List Hint → List Hint → Type 0
GetsCopies screen [] old new = new ≡ old
GetsCopies screen (move ∷ moves) old new =
    (mid : List Hint) × GetsCopy screen move old mid × GetsCopies screen moves mid new

-- ---- a seat

-- it is told of those copies
pub record GetsMoves (screen : Grid Colour) (moves : List Move) (old new : ShareSeat) : Type 0 where
  pub keeps : KeepsShareSeat old new
  pub hints : GetsCopies screen moves (hints_in (session_at old)) (hints_in (session_at new))
  pub follows : (shown : Grid Colour) → Follows shown (session_at old) → Follows shown (session_at new)

-- it is told of a change there: it follows the screen, if it followed one that differs from it there alone
pub record GetsChange (screen : Grid Colour) (damage : Option Rect) (old new : ShareSeat) : Type 0 where
  pub keeps : KeepsShareSeat old new
  pub hints : hints_in (session_at new) ≡ hints_in (session_at old)
  pub follows : (before : Grid Colour) → IsAlike screen before →
      IsSameOutside damage (Some before) (Some screen) → Follows before (session_at old) →
      Follows screen (session_at new)

-- and of both
pub record IsRelayed (screen : Grid Colour) (damage : Option Rect) (moves : List Move)
    (old new : ShareSeat) : Type 0 where
  pub keeps : KeepsShareSeat old new
  pub hints : GetsCopies screen moves (hints_in (session_at old)) (hints_in (session_at new))
  pub follows : (before : Grid Colour) → IsAlike screen before →
      IsSameOutside damage (Some before) (Some screen) → Follows before (session_at old) →
      Follows screen (session_at new)

-- it is told that all changed: it follows the screen, if it followed one of its size
pub record GetsWhole (screen : Grid Colour) (old new : ShareSeat) : Type 0 where
  pub keeps : KeepsShareSeat old new
  pub hints : hints_in (session_at new) ≡ hints_in (session_at old)
  pub follows : (before : Grid Colour) → IsAlike screen before → Follows before (session_at old) →
      Follows screen (session_at new)
