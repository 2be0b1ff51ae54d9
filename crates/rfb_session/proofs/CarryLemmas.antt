-- What two ends stand for goes on as they are fed what is in flight between them.
use Rattle.std.proofs.Common.{ℕ, List, ◌++◌, length, Option, refl, sym, subst}
use Rattle.rfb_pixel.specs.declared.colour.Colour.{Colour}
use Rattle.rfb_picture.specs.Grid.{Grid}
use Rattle.rfb_wire.specs.stream.End.{FedBy, RefusedBy}
use Rattle.rfb_server.specs.declared.fault.ServerFault.{ServerFault}
use Rattle.rfb_server.specs.Server.{Serving, ServerState, server}
use Rattle.rfb_server.specs.Told.{ServerTold}
use Rattle.rfb_viewer.specs.declared.fault.ViewerFault.{ViewerFault}
use Rattle.rfb_viewer.specs.Told.{ViewerTold}
use Rattle.rfb_viewer.specs.Viewer.{Viewing, ViewerState, viewer}
use Rattle.rfb_session.specs.Link.{Ends, server_of, LinkState}
use Rattle.rfb_session.specs.LinkSteps.{MovesToViewer, MovesToServer}
use Rattle.rfb_session.specs.InFlight.{AreMade, Flight, viewer_reply, server_reply}
use Rattle.rfb_session.specs.TwoEnds.{Carries}
use Rattle.rfb_session.proofs.PhaseLemmas.{core}
use Rattle.rfb_session.proofs.HoldsLemmas.{Holds, holds_to_viewer, holds_to_server}
use Rattle.rfb_session.proofs.FlightLemmas.{viewer_moved, server_moved, viewer_good, server_good}

module _ {S V : Type 0} (serves_as : Serving → S → ServerState → List ℕ → Type 0)
    (shows_as : Viewing → V → ViewerState → List ℕ → Type 0) where
  -- what is in flight between two ends that stand for a state
  abbrev in_flight : {e : Ends} {screen : Grid Colour} {s : S} {v : V}
      {to_server to_viewer : List ℕ} {l : LinkState} →
      Carries serves_as shows_as e screen s v to_server to_viewer l → Flight
  in_flight {e} {screen} {s} {v} {to_server} {to_viewer} c = record {
    viewer_has = c.viewer_has;
    viewer_gets = to_viewer;
    server_has = c.server_has;
    server_gets = to_server;
  }

  -- the viewer was fed what came first of what is in flight to it
  pub viewer_fed : (e : Ends) (screen : Grid Colour) (s : S) (old new : V)
      (to_server bytes later : List ℕ) (event : Option ViewerTold) (l : LinkState) →
      AreMade e → Holds e screen (core l) →
      Carries serves_as shows_as e screen s old to_server (bytes ++ later) l →
      FedBy (viewer e.viewing) (shows_as e.viewing) old bytes event new →
      (m : LinkState) × MovesToViewer e l (length bytes) m × Holds e screen (core m)
      × Carries serves_as shows_as e screen s new (to_server ++ viewer_reply event) later m
  viewer_fed e screen s old new to_server bytes later event l made h c fed =
      let one = fed l.viewer c.viewer_has c.viewer_is in
      let moved = viewer_moved e screen l (in_flight c) bytes later one.1 event one.0 made h c.flies refl one.3 in
      let holds = holds_to_viewer e screen l moved.new (length bytes) h moved.moves in
      let stands = subst (λ (t : ViewerState). shows_as e.viewing new t one.1) (sym moved.viewer_is) one.2 in
      search (moved.moves, moved.flies, holds, stands, same moved.new moved.moves)
    where
      same : (m : LinkState) → MovesToViewer e l (length bytes) m →
          serves_as e.serving s (server_of screen m.session) c.server_has
      same m moves =
          subst (λ (k : LinkState). serves_as e.serving s (server_of screen k.session) c.server_has)
          (sym moves.result) c.server_is

  -- and does not refuse it
  pub viewer_keeps : (e : Ends) (screen : Grid Colour) (s : S) (old : V)
      (to_server bytes later : List ℕ) (fault : ViewerFault) (l : LinkState) →
      Carries serves_as shows_as e screen s old to_server (bytes ++ later) l →
      RefusedBy (viewer e.viewing) (shows_as e.viewing) old bytes fault → ⊥
  viewer_keeps e screen s old to_server bytes later fault l c refused =
      viewer_good e l (in_flight c) bytes later fault c.flies refl (refused l.viewer c.viewer_has c.viewer_is)

  -- the server was fed what came first of what is in flight to it
  pub server_fed : (e : Ends) (screen : Grid Colour) (old new : S) (v : V)
      (bytes later to_viewer : List ℕ) (event : Option ServerTold) (l : LinkState) →
      AreMade e → Holds e screen (core l) →
      Carries serves_as shows_as e screen old v (bytes ++ later) to_viewer l →
      FedBy (server e.serving) (serves_as e.serving) old bytes event new →
      (m : LinkState) × MovesToServer e screen l (length bytes) m × Holds e screen (core m)
      × Carries serves_as shows_as e screen new v later (to_viewer ++ server_reply event) m
  server_fed e screen old new v bytes later to_viewer event l made h c fed =
      let one = fed (server_of screen l.session) c.server_has c.server_is in
      let moved = server_moved e screen l (in_flight c) bytes later one.1 event one.0 made h c.flies refl one.3 in
      let holds = holds_to_server e screen l moved.new (length bytes) h moved.moves in
      let stands = subst (λ (t : ServerState). serves_as e.serving new t one.1) (sym moved.server_is) one.2 in
      search (moved.moves, moved.flies, holds, stands, same moved.new moved.moves)
    where
      same : (m : LinkState) → MovesToServer e screen l (length bytes) m →
          shows_as e.viewing v m.viewer c.viewer_has
      same m moves =
          subst (λ (k : LinkState). shows_as e.viewing v k.viewer c.viewer_has)
          (sym moves.result) c.viewer_is

  pub server_keeps : (e : Ends) (screen : Grid Colour) (old : S) (v : V)
      (bytes later to_viewer : List ℕ) (fault : ServerFault) (l : LinkState) →
      Carries serves_as shows_as e screen old v (bytes ++ later) to_viewer l →
      RefusedBy (server e.serving) (serves_as e.serving) old bytes fault → ⊥
  server_keeps e screen old v bytes later to_viewer fault l c refused =
      server_good e screen l (in_flight c) bytes later fault c.flies refl
      (refused (server_of screen l.session) c.server_has c.server_is)
