-- The bytes in flight between two ends: the spellings of the items of both queues, but for what has
-- been moved of the first ones.
use Rattle.std.specs.Prelude.{◌≡◌, ℕ, ◌<◌, ◌^◌, List, [], ◌++◌, length, Option, Some, None}
use Rattle.rfb_pixel.specs.declared.colour.Colour.{Colour}
use Rattle.rfb_pixel.specs.Format.{IsFormat}
use Rattle.rfb_picture.specs.Grid.{Grid}
use Rattle.rfb_wire.specs.stream.Grammar.{ReadsAll, IsWithinFirst}
use Rattle.rfb_hello.specs.Version.{version_text}
use Rattle.rfb_hello.specs.ServerAnswers.{IsSetup}
use Rattle.rfb_server.specs.Server.{ServerState}
use Rattle.rfb_server.specs.Told.{ServerTold, reply_bytes as bytes_of_server}
use Rattle.rfb_viewer.specs.Told.{ViewerTold, reply_bytes as bytes_of_viewer}
use Rattle.rfb_viewer.specs.Viewer.{ViewerState}
use Rattle.rfb_session.specs.Link.{Ends, server_stream, viewer_stream, server_of, LinkState}
use Rattle.rfb_session.specs.LinkSteps.{MovesToViewer, MovesToServer}

-- of two ends: the viewer admits the screen, and all that they are made with has its size on the
-- wire
pub record AreMade (e : Ends) : Type 0 where
  pub setup : IsSetup e.viewing.hello.max_places e.serving.hello
  pub form : IsFormat e.viewing.form
  pub few : length e.viewing.encodings < 2 ^ 16

-- what each end has of the item under way, and what is in flight to it
pub record Flight : Type 0 where
  pub viewer_has : List ℕ
  pub viewer_gets : List ℕ
  pub server_has : List ℕ
  pub server_gets : List ℕ

-- these bytes are those of a link's items
pub record Flies (e : Ends) (l : LinkState) (f : Flight) : Type 0 where
  pub to_viewer :
      ReadsAll (viewer_stream e) l.viewer.point (f.viewer_has ++ f.viewer_gets) l.to_viewer []
  pub at_viewer : length f.viewer_has ≡ l.at_viewer
  pub viewer_within : IsWithinFirst (viewer_stream e) l.at_viewer l.to_viewer
  pub to_server :
      ReadsAll (server_stream e) l.session.point (f.server_has ++ f.server_gets) l.to_server []
  pub at_server : length f.server_has ≡ l.at_server
  pub server_within : IsWithinFirst (server_stream e) l.at_server l.to_server

-- with a fresh link flies the server's version
abbrev pub first_flight : Ends → Flight
first_flight e = record {
  viewer_has = [];
  viewer_gets = version_text e.serving.hello.offer;
  server_has = [];
  server_gets = [];
}

-- the bytes that are sent for what an end reports, if it reports something
abbrev pub viewer_reply : Option ViewerTold → List ℕ
viewer_reply None = []
viewer_reply (Some event) = bytes_of_viewer event

abbrev pub server_reply : Option ServerTold → List ℕ
server_reply None = []
server_reply (Some event) = bytes_of_server event

-- bytes reached the viewer: the link moves by as many, and the viewer is in the state that they
-- lead to. What is left is still in flight, and what it answers is in flight to the server
pub record ReachesViewer (e : Ends) (l : LinkState) (f : Flight) (bytes later : List ℕ)
    (event : Option ViewerTold) (t : ViewerState) (rest : List ℕ) : Type 0 where
  pub new : LinkState
  pub moves : MovesToViewer e l (length bytes) new
  pub viewer_is : new.viewer ≡ t
  pub flies : Flies e new (record f {
    viewer_has = rest;
    viewer_gets = later;
    server_gets = f.server_gets ++ viewer_reply event;
  })

-- bytes reached the server, over the screen that its session borrows
pub record ReachesServer (e : Ends) (screen : Grid Colour) (l : LinkState) (f : Flight)
    (bytes later : List ℕ) (event : Option ServerTold) (t : ServerState) (rest : List ℕ)
    : Type 0 where
  pub new : LinkState
  pub moves : MovesToServer e screen l (length bytes) new
  pub server_is : server_of screen new.session ≡ t
  pub flies : Flies e new (record f {
    server_has = rest;
    server_gets = later;
    viewer_gets = f.viewer_gets ++ server_reply event;
  })
