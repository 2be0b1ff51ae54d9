-- What is the same of two sessions, and what the one takes over from the other.
use Rattle.std.specs.Prelude.{◌≡◌, ℕ, ◌<◌, ◌||◌, ◌⊎◌, Bool, true, false, Option, Some, None, []}
use Rattle.std.specs.Int.{div_ceil}
use Rattle.rfb_pixel.specs.declared.colour.Colour.{Colour}
use Rattle.rfb_pixel.specs.Format.{PixelFormat}
use Rattle.rfb_picture.specs.declared.rect.Rect.{Rect}
use Rattle.rfb_picture.specs.Rect.{contains}
use Rattle.rfb_picture.specs.Grid.{Grid, at_or}
use Rattle.rfb_picture.specs.Box.{is_in}
use Rattle.rfb_picture.specs.Area.{asked_at, whole_at, nothing}
use Rattle.rfb_server.specs.declared.session.Session.{Session}
use Rattle.rfb_server.specs.Cells.{cell_of}
use Rattle.rfb_server.specs.Request.{wanted_at}
use Rattle.rfb_server.specs.session.Sessions.{KeepsSetting}
use Rattle.rfb_server.specs.update.Sends.{may_need}

-- ---- the same of both

-- the same is known of the place, or of both nothing
abbrev pub IsKnownAlike : Grid (Option ℕ) → Grid (Option ℕ) → ℕ → ℕ → Type 0
IsKnownAlike one other x y = at_or one x y None ≡ at_or other x y None

-- of each place of the rectangle the same is known
abbrev pub AreKnownAlike : Grid (Option ℕ) → Grid (Option ℕ) → Rect → Type 0
AreKnownAlike one other rect = (x y : ℕ) → contains rect x y ≡ true → IsKnownAlike one other x y

-- nothing is known of the rectangle
abbrev pub AreUnknown : Grid (Option ℕ) → Rect → Type 0
AreUnknown known rect = (x y : ℕ) → contains rect x y ≡ true → at_or known x y None ≡ None

-- the same is known of each place of the rectangle that is marked in one of both sets
abbrev pub AgreeIn : Session → Session → Rect → Type 0
AgreeIn one other rect = (x y : ℕ) → contains rect x y ≡ true →
    (is_in one.marks x y || is_in other.marks x y) ≡ true → IsKnownAlike one.known other.known x y

-- so it is of what may need sending in the first `n` cells
abbrev pub AgreeBelow : Session → Session → ℕ → Type 0
AgreeBelow one other n = (x y : ℕ) → x < one.known.width → y < one.known.height →
    cell_of (div_ceil one.known.width 64) x y < n →
    (may_need one.marks one.area x y || may_need other.marks other.area x y) ≡ true →
    IsKnownAlike one.known other.known x y

-- so it is of all that may need sending
abbrev pub Agree : Session → Session → Type 0
Agree one other = (x y : ℕ) → x < one.known.width → y < one.known.height →
    (may_need one.marks one.area x y || may_need other.marks other.area x y) ≡ true →
    IsKnownAlike one.known other.known x y

-- each place is asked, and is to be sent whole or not, as that says
abbrev pub AsksAll : Bool → Session → Type 0
AsksAll whole session = (x y : ℕ) → x < session.known.width → y < session.known.height →
    (asked_at session.area x y ≡ true) × (whole_at session.area x y ≡ whole)

-- no place is marked
abbrev pub IsShown : Session → Type 0
IsShown session = (x y : ℕ) → x < session.known.width → y < session.known.height →
    is_in session.marks x y ≡ false

-- ---- what is taken over

-- each place is known to have the wanted pixel
abbrev pub ShowsAll : Grid Colour → PixelFormat → Grid (Option ℕ) → Type 0
ShowsAll screen form known = (x y : ℕ) → x < known.width → y < known.height →
    at_or known x y None ≡ Some (wanted_at screen form x y)

-- what is known of a place is what was, or what is in the other record
abbrev pub TakesSome : Grid (Option ℕ) → Grid (Option ℕ) → Grid (Option ℕ) → Type 0
TakesSome other old new = (x y : ℕ) → x < old.width → y < old.height →
    IsKnownAlike new old x y ⊎ IsKnownAlike new other x y

-- the session knows the wanted pixel at each place, nothing is asked any more, and no hint is
-- kept
pub record HasTakenOver (screen : Grid Colour) (old new : Session) : Type 0 where
  pub setting : KeepsSetting old new
  pub width : new.known.width ≡ old.known.width
  pub height : new.known.height ≡ old.known.height
  pub shown : ShowsAll screen old.format new.known
  pub area : new.area ≡ nothing old.area
  pub hints : new.hints.items ≡ []
