-- A link: a server's session and its viewer, and the items in flight between them. The screen is
-- not the link's own: the session borrows it at each step.
use Rattle.std.specs.Prelude.{ℕ, List, [], ◌∷◌, Option, None}
use Rattle.rfb_pixel.specs.declared.colour.Colour.{Colour}
use Rattle.rfb_pixel.specs.Format.{PixelFormat}
use Rattle.rfb_picture.specs.Grid.{Grid}
use Rattle.rfb_picture.specs.Area.{Places}
use Rattle.rfb_wire.specs.declared.encoding.Encoding.{Encoding}
use Rattle.rfb_wire.specs.stream.Grammar.{Grammar}
use Rattle.rfb_wire.specs.stream.Sequel.{First}
use Rattle.rfb_hello.specs.ServerHandshake.{ProtocolVersion}
use Rattle.rfb_server.specs.declared.fault.ServerFault.{ServerFault}
use Rattle.rfb_server.specs.ClientBytes.{ClientAt, FromClient, client_bytes}
use Rattle.rfb_server.specs.Server.{Serving, ServerState, first_server}
use Rattle.rfb_viewer.specs.declared.fault.ViewerFault.{ViewerFault}
use Rattle.rfb_viewer.specs.ServerBytes.{ServerAt, FromServer, server_bytes}
use Rattle.rfb_viewer.specs.Viewer.{Viewing, ViewerState, first_viewer}

-- what the two ends were made with
pub record Ends : Type 0 where
  pub serving : Serving
  pub viewing : Viewing

-- all that is sent to the server
abbrev pub server_stream : Ends → Grammar ClientAt FromClient ServerFault
server_stream e = client_bytes e.serving.hello.offer

-- and to the viewer
abbrev pub viewer_stream : Ends → Grammar ServerAt FromServer ViewerFault
viewer_stream e = server_bytes e.viewing.form e.viewing.hello

-- ---- a server without its screen

-- the point of the client's bytes; what the viewer has or will have; the places that are asked; the
-- format, and the encodings that the viewer listed
pub record SessionState : Type 0 where
  pub point : ClientAt
  pub known : Grid (Option ℕ)
  pub area : Places
  pub form : PixelFormat
  pub encodings : List Encoding

-- with the screen that it borrows it is a server
abbrev pub server_of : Grid Colour → SessionState → ServerState
server_of screen s = record {
  point = s.point;
  screen = screen;
  known = s.known;
  area = s.area;
  form = s.form;
  encodings = s.encodings;
}

-- a server's session
abbrev pub session_of : ServerState → SessionState
session_of s = record {
  point = s.point;
  known = s.known;
  area = s.area;
  form = s.form;
  encodings = s.encodings;
}

-- ---- the link

-- what an update was composed of: the screen, the places that were asked, and the format
pub record Composing : Type 0 where
  pub screen : Grid Colour
  pub area : Places
  pub form : PixelFormat

-- the two ends; the items in flight each way, and how many bytes of the first of them have been
-- moved; and the latest composing, if there was one
pub record LinkState : Type 0 where
  pub session : SessionState
  pub viewer : ViewerState
  pub to_server : List FromClient
  pub at_server : ℕ
  pub to_viewer : List FromServer
  pub at_viewer : ℕ
  pub latest : Option Composing

-- a fresh link: two new ends, and the server's greeting alone in flight
abbrev pub first_link : Ends → LinkState
first_link e = record {
  session = session_of (first_server e.serving);
  viewer = first_viewer;
  to_server = [];
  at_server = 0;
  to_viewer = First (ProtocolVersion e.serving.hello.offer) ∷ [];
  at_viewer = 0;
  latest = None;
}
