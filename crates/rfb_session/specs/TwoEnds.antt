-- What two ends and the bytes in flight between them stand for: a link over a screen.
use Rattle.std.specs.Prelude.{ℕ, List}
use Rattle.rfb_pixel.specs.declared.colour.Colour.{Colour}
use Rattle.rfb_picture.specs.Grid.{Grid}
use Rattle.rfb_server.specs.Server.{Serving, ServerState}
use Rattle.rfb_viewer.specs.Viewer.{Viewing, ViewerState}
use Rattle.rfb_session.specs.Link.{Ends, server_of, LinkState}
use Rattle.rfb_session.specs.InFlight.{Flies}

-- by what each end stands for: a state, and what it has of the item under way
module _ {S V : Type 0} (serves_as : Serving → S → ServerState → List ℕ → Type 0)
    (shows_as : Viewing → V → ViewerState → List ℕ → Type 0) where
  pub record Carries (e : Ends) (screen : Grid Colour) (session : S) (viewer : V)
      (to_server to_viewer : List ℕ) (l : LinkState) : Type 0 where
    pub server_has : List ℕ
    pub viewer_has : List ℕ
    pub server_is : serves_as e.serving session (server_of screen l.session) server_has
    pub viewer_is : shows_as e.viewing viewer l.viewer viewer_has
    pub flies : Flies e l (record {
      viewer_has = viewer_has;
      viewer_gets = to_viewer;
      server_has = server_has;
      server_gets = to_server;
    })
