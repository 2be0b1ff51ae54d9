-- Sessions for which one update is composed, and what it leaves of the one to the other.
use Rattle.std.specs.Prelude.{◌≡◌, ℕ, ◌<◌, true, List}
use Rattle.rfb_pixel.specs.declared.colour.Colour.{Colour}
use Rattle.rfb_picture.specs.Grid.{Grid}
use Rattle.rfb_picture.specs.Area.{asked_at}
use Rattle.rfb_server.specs.declared.session.Session.{Session}
use Rattle.rfb_server.specs.Hints.{hints_in}
use Rattle.rfb_server.specs.Model.{notes_in}
use Rattle.rfb_server.specs.Progress.{is_idle, is_ready}
use Rattle.rfb_server.specs.UpdateCall.{SendsUpdate}

-- both viewers have the same, and ask for all of the screen in the same way; the same hints are kept
pub record AreTwins (one other : Session) : Type 0 where
  pub notes_are : notes_in other ≡ notes_in one
  pub idle : is_idle one.progress ≡ true
  pub ready : is_ready other.progress ≡ true
  pub hints_are : hints_in other ≡ hints_in one
  pub all_asked : (x y : ℕ) → x < other.known.width → y < other.known.height →
      asked_at other.area x y ≡ true

-- a twin of the session was sent an update, and is this one since
pub record HasSentTwin (screen : Grid Colour) (session sent : Session) : Type 0 where
  pub was : Session
  pub before : List ℕ
  pub after : List ℕ
  pub twins : AreTwins was session
  pub sends : SendsUpdate screen was sent before after
