-- Whether a viewer waits for an update. It does where one is due.
use Rattle.std.proofs.Common.{◌≡◌, ◌∙◌, ℕ, ◌<◌, ◌&&◌, Bool, true, false, List, Option, Some, None, arith, refl, sym, ap}
use Rattle.std.specs.Option.{is_some}
use Rattle.std.proofs.lemmas.Bool.{both_ways}
use Rattle.rfb_pixel.specs.declared.colour.Colour.{Colour}
use Rattle.rfb_picture.specs.Grid.{Grid}
use Rattle.rfb_picture.specs.Area.{Places, asked_at}
use Rattle.rfb_picture.specs.Box.{is_in}
use Rattle.rfb_picture.specs.CellOrder.{HasNextCell}
use Rattle.rfb_server.specs.declared.session.Session.{Session}
use Rattle.rfb_server.specs.Progress.{is_ready}
use Rattle.rfb_server.specs.Server.{Serving, ServerState}
use Rattle.rfb_server.specs.Model.{SessionStandsFor}
use Rattle.rfb_server.specs.KnownScreen.{Follows}
use Rattle.rfb_server.specs.Composition.{IsDue}
use Rattle.rfb_server.specs.UpdateCall.{HasAsked}
use Rattle.rfb_server.proofs.UpdatingLemmas.{ready_point}
use Rattle.rfb_server.proofs.ComposesLemmas.{all_cells}

-- a cell with an asked place is one, where the session is ready
pub cell_asks : (s : Session) (found : Option ℕ) →
    HasNextCell (is_in s.area.asked) s.area.asked.width s.area.asked.height 0 found →
    is_ready s.progress ≡ true → is_some found ≡ true → HasAsked s
cell_asks s None none ready e = absurd cc
cell_asks s (Some cell) next ready e = record {
  ready = ready;
  x = next.here.x;
  y = next.here.y;
  is_place = (rw (← s.alike.area_wide) next.here.on_picture.0, rw (← s.alike.area_high) next.here.on_picture.1);
  asked = next.here.marked;
}

-- and a viewer that waits asked for a place of some cell
pub asks_cell : (s : Session) (found : Option ℕ) →
    HasNextCell (is_in s.area.asked) s.area.asked.width s.area.asked.height 0 found →
    HasAsked s → is_some found ≡ true
asks_cell s None none has =
    let wide : has.x < s.area.asked.width = rw (s.alike.area_wide) has.is_place.0 in
    let high : has.y < s.area.asked.height = rw (s.alike.area_high) has.is_place.1 in
    absurd (both_ways (asked_at s.area has.x has.y)
    (none has.x has.y wide high (omega arith) (all_cells s.area.asked.width s.area.asked.height has.x has.y wide high))
    has.asked)
asks_cell s (Some cell) next has = refl

-- what needs sending was asked for
needs_asked : (asked wants : Bool) → (asked && wants) ≡ true → asked ≡ true
needs_asked true wants e = refl
needs_asked false wants e = absurd cc

-- the viewer of a session that follows a screen waits, where an update is due in the state that the
-- session stands for
pub due_asks : (serving : Serving) (screen : Grid Colour) (session : Session) (s : ServerState) (prefix : List ℕ) →
    Follows screen session → SessionStandsFor serving screen session s prefix → IsDue s → HasAsked session
due_asks serving screen session s prefix follows stands due = record {
  ready = ready_point serving session.hello session.progress s.point prefix due.ready stands.progress_is;
  x = due.x;
  y = due.y;
  is_place = (
    rw (ap (λ (g : Grid Colour). g.width) stands.screen_is, follows.alike.columns) at due.is_place.0,
    rw (ap (λ (g : Grid Colour). g.height) stands.screen_is, follows.alike.rows) at due.is_place.1,
  );
  asked = ap (λ (a : Places). asked_at a due.x due.y) (sym stands.area_is) ∙ needs_asked _ _ due.needs;
}
