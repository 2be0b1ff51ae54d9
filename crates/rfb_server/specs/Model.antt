-- What a `Server` stands for: a state, and the bytes that came of the client's next item, fewer
-- than it has.
use Rattle.std.specs.Prelude.{◌≡◌, ◌*◌, ℕ, List, length, Option}
use Rattle.rfb_pixel.specs.declared.colour.Colour.{Colour}
use Rattle.rfb_pixel.specs.Format.{PixelFormat}
use Rattle.rfb_picture.specs.declared.rect.Rect.{Rect}
use Rattle.rfb_picture.specs.Grid.{Grid, Holds}
use Rattle.rfb_picture.specs.Area.{Places}
use Rattle.rfb_wire.specs.declared.encoding.Encoding.{Encoding}
use Rattle.rfb_codec.specs.RectData.{moved_to}
use Rattle.rfb_hello.specs.declared.version.Version.{Version}
use Rattle.rfb_hello.specs.ServerModel.{setup_of}
use Rattle.rfb_server.specs.declared.fault.ServerFault.{ServerFault}
use Rattle.rfb_server.specs.declared.session.Session.{Session}
use Rattle.rfb_server.specs.declared.server.Server.{Server}
use Rattle.rfb_server.specs.KnownScreen.{Follows}
use Rattle.rfb_server.specs.Server.{Serving, ServerState}
use Rattle.rfb_server.specs.Progress.{ProgressStandsFor, fault_in}

-- what a server is made with
abbrev pub serving_with : Version → ℕ → ℕ → List ℕ → ℕ → Serving
serving_with offer width height name text_limit = record {
  hello = record { offer = offer; width = width; height = height; name = name };
  text_limit = text_limit;
}

-- a session, and the screen that it is about, stand for a state and a prefix
pub record SessionStandsFor (serving : Serving) (screen : Grid Colour) (session : Session)
    (s : ServerState) (prefix : List ℕ) : Type 0 where
  pub setup_is : setup_of session.hello ≡ serving.hello
  pub limit_is : session.text_limit ≡ serving.text_limit
  pub progress_is : ProgressStandsFor serving session.hello session.progress s.point prefix
  pub screen_is : s.screen ≡ screen
  pub known_is : s.known ≡ session.known
  pub area_is : s.area ≡ session.area
  pub form_is : s.form ≡ session.format
  pub encodings_are : s.encodings ≡ session.encodings

-- ---- what a session has, whether it has failed or not

-- the fault that it has failed with, if it has
abbrev pub session_fault : Session → Option ServerFault
session_fault session = fault_in session.progress

-- what it was made with
abbrev pub session_serving : Session → Serving
session_serving session =
    record { hello = setup_of session.hello; text_limit = session.text_limit }

-- what is noted of a viewer: of each place the pixel that it has or will have, where that is known;
-- the places that it asked for; the format, and the encodings that it listed
pub record Notes : Type 0 where
  pub known : Grid (Option ℕ)
  pub area : Places
  pub form : PixelFormat
  pub encodings : List Encoding

-- those of a session
abbrev pub notes_in : Session → Notes
notes_in session = record {
  known = session.known;
  area = session.area;
  form = session.format;
  encodings = session.encodings;
}

-- nothing that a session stands for or has noted has changed, over whatever screen
pub record KeepsSession (old new : Session) : Type 0 where
  pub fault_is : session_fault new ≡ session_fault old
  pub made_is : session_serving new ≡ session_serving old
  pub notes_are : notes_in new ≡ notes_in old
  pub stands : (serving : Serving) (screen : Grid Colour) (s : ServerState) (prefix : List ℕ) →
      SessionStandsFor serving screen old s prefix → SessionStandsFor serving screen new s prefix

-- ---- a server

-- a server stands for a state and a prefix
abbrev pub StandsFor : Serving → Server → ServerState → List ℕ → Type 0
StandsFor serving server s prefix = SessionStandsFor serving server.screen server.session s prefix

-- its screen
abbrev pub screen_of : Server → Grid Colour
screen_of server = server.screen

-- its session
abbrev pub session_of : Server → Session
session_of server = server.session

-- the fault that it has failed with, if it has
abbrev pub fault_of : Server → Option ServerFault
fault_of server = session_fault server.session

-- what it was made with
abbrev pub serving_of : Server → Serving
serving_of server = session_serving server.session

-- what is noted of its viewer
abbrev pub notes_of : Server → Notes
notes_of server = notes_in server.session

-- those of a state
abbrev pub notes_at : ServerState → Notes
notes_at s = record { known = s.known; area = s.area; form = s.form; encodings = s.encodings }

-- how many bytes it has used in all, as far as 64 bits go
abbrev pub taken_of : Server → ℕ
taken_of server = server.taken

-- the server that a session is over a screen that it follows, with this count of bytes
abbrev pub server_over : (screen : Grid Colour) (session : Session) → ℕ →
    Follows screen session → Server
server_over screen session count follows =
    record { screen = screen; session = session; taken = count; follows = follows }

-- ---- drawings

-- the state with another screen
abbrev pub with_screen : Grid Colour → ServerState → ServerState
with_screen screen s = record s { screen = screen }

-- `n` places of row y, from column x on
abbrev pub row_from : ℕ → ℕ → ℕ → Rect
row_from x y n = record { x = x; y = y; w = n; h = 1 }

-- colours are those of all places of a rectangle that lies on the screen
abbrev pub AreOf : Grid Colour → Rect → List Colour → Type 0
AreOf screen rect colours = Holds screen rect × (length colours ≡ rect.h * rect.w)

-- a rectangle, and the one of its size at (sx, sy), lie on the screen
abbrev pub HoldsBoth : Grid Colour → Rect → ℕ → ℕ → Type 0
HoldsBoth screen rect sx sy = Holds screen rect × Holds screen (moved_to sx sy rect)

-- a drawing gave it this screen, and changed nothing else that it stands for or has noted, nor its
-- count of bytes
pub record Draws (screen : Grid Colour) (old new : Server) : Type 0 where
  pub screen_is : screen_of new ≡ screen
  pub fault_is : fault_of new ≡ fault_of old
  pub notes_are : notes_of new ≡ notes_of old
  pub taken_is : taken_of new ≡ taken_of old
  pub stands : (serving : Serving) (s : ServerState) (prefix : List ℕ) →
      StandsFor serving old s prefix → StandsFor serving new (with_screen screen s) prefix

-- nothing that it stands for or has noted has changed
abbrev pub Keeps : Server → Server → Type 0
Keeps old new = Draws (screen_of old) old new
