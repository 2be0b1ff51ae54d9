-- What a session is that was fed nothing, and what it is after it took bytes of its client's, or a
-- notice of a drawing.
use Rattle.std.specs.Prelude.{◌≡◌, ◌≤◌, ◌<◌, ℕ, List, [], length, take, None}
use Rattle.rfb_pixel.specs.declared.colour.Colour.{Colour}
use Rattle.rfb_picture.specs.Grid.{Grid, IsGrid}
use Rattle.rfb_wire.specs.stream.End.{FedBy}
use Rattle.rfb_hello.specs.declared.fed.Fed.{Fed}
use Rattle.rfb_server.specs.declared.event.ServerEvent.{ServerEvent}
use Rattle.rfb_server.specs.declared.session.Session.{Session}
use Rattle.rfb_server.specs.declared.drawing.notice.Notice.{Notice}
use Rattle.rfb_server.specs.Strokes.{with_hint_of}
use Rattle.rfb_server.specs.KnownScreen.{Follows, IsTold}
use Rattle.rfb_server.specs.Hints.{hints_in}
use Rattle.rfb_server.specs.Server.{Serving, server, first_server}
use Rattle.rfb_server.specs.Model.{SessionStandsFor, KeepsSession, with_screen}
use Rattle.rfb_server.specs.Told.{seen}

-- it was fed nothing, over whatever screen; it follows each screen of its size, and keeps no hint
pub record IsUnfed (serving : Serving) (session : Session) : Type 0 where
  pub stands : (screen : Grid Colour) →
      SessionStandsFor serving screen session (with_screen screen (first_server serving)) []
  pub follows : (screen : Grid Colour) → IsGrid screen → screen.width ≡ serving.hello.width →
      screen.height ≡ serving.hello.height → Follows screen session
  pub hints : hints_in session ≡ []

-- the bytes up to the last of the first item that makes an event were taken, or all; at least one,
-- if there are any
pub record AreTaken (bytes : List ℕ) (took : Fed ServerEvent) : Type 0 where
  pub used : took.used ≤ length bytes
  pub all : took.event ≡ None → took.used ≡ length bytes
  pub some : 0 < length bytes → 0 < took.used

-- so many were taken, and the session was fed them, whatever it stands for over whatever screen
pub record Takes (bytes : List ℕ) (took : Fed ServerEvent) (old new : Session) : Type 0 where
  pub taken : AreTaken bytes took
  pub fed : (serving : Serving) (screen : Grid Colour) →
      FedBy (server serving) (SessionStandsFor serving screen) old (take took.used bytes)
      (seen took.event) new

-- it was told of a drawing: it follows whatever is drawn there, and has its hint
pub record TakesNotice (notice : Notice) (old new : Session) : Type 0 where
  pub follows : (before after : Grid Colour) → Follows before old → IsTold notice before after →
      Follows after new
  pub kept : KeepsSession old new
  pub hints : hints_in new ≡ with_hint_of notice.hint (hints_in old)
