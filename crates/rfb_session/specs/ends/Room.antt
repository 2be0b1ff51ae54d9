-- The room of a `Latest`, and the size that a session is of.
use Rattle.std.specs.Prelude.{◌≡◌, ℕ}
use Rattle.rfb_server.specs.declared.session.Session.{Session}
use Rattle.rfb_server.specs.Model.{notes_in}
use Rattle.rfb_session.specs.declared.latest.Latest.{Latest}

-- it has room for what is composed of a screen of that size
pub record HasRoom (latest : Latest) (width height : ℕ) : Type 0 where
  pub columns : latest.screen.width ≡ width
  pub rows : latest.screen.height ≡ height
  pub area_columns : latest.area.asked.width ≡ width
  pub area_rows : latest.area.asked.height ≡ height
  pub asked_columns : latest.asked.asked.width ≡ width
  pub asked_rows : latest.asked.asked.height ≡ height

-- a session notes places of a screen of the same size
pub record IsSameSize (old new : Session) : Type 0 where
  pub columns : (notes_in new).known.width ≡ (notes_in old).known.width
  pub rows : (notes_in new).known.height ≡ (notes_in old).known.height
