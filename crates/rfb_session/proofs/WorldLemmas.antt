-- What is reached by events, and a fresh world.
use Rattle.std.proofs.Common.{◌≡◌, List, [], ◌∷◌, ◌++◌, false, inl, inr, refl, sym, subst, ◌∙◌}
use Rattle.rfb_pixel.specs.declared.colour.Colour.{Colour}
use Rattle.rfb_picture.specs.Grid.{Grid}
use Rattle.rfb_server.specs.declared.server.Server.{Server}
use Rattle.rfb_server.specs.declared.session.Session.{Session}
use Rattle.rfb_server.specs.Strokes.{Stroke}
use Rattle.rfb_server.specs.Server.{first_server}
use Rattle.rfb_server.specs.Model.{SessionStandsFor, with_screen, screen_of, session_of}
use Rattle.rfb_server.proofs.ServerLaws.{session_over}
use Rattle.rfb_viewer.specs.declared.viewer.Viewer.{Viewer}
use Rattle.rfb_session.specs.declared.event.Event.{Event}
use Rattle.rfb_session.specs.declared.told.Told.{Told}
use Rattle.rfb_session.specs.declared.world.World.{World}
use Rattle.rfb_session.specs.Link.{Ends, first_link}
use Rattle.rfb_session.specs.Network.{Network, Steps, StepsAll, Strokes, Then, IsReached}
use Rattle.rfb_session.specs.LinkModel.{LinkStandsFor, AreNew, LinkDoes, LinkDoesOver}
use Rattle.rfb_session.specs.World.{StandsFor, AreFresh, Does, first_network}

-- ---- what is reached

-- one event more
pub steps_last : (e : Ends) (old mid new : Network) (events : List Event) (event : Event) →
    StepsAll e old events mid → Steps e mid event new → StepsAll e old (events ++ event ∷ []) new
steps_last e old mid new [] event is step =
    (new, subst (λ (n : Network). Steps e n event new) is step, refl)
steps_last e old mid new (first ∷ events) event (next, one, more) step =
    (next, one, steps_last e next mid new events event more step)

pub reached_step : (e : Ends) (old new : Network) (event : Event) → IsReached e old →
    Steps e old event new → IsReached e new
reached_step e old new event r step = record {
  first = r.first;
  is_first = r.is_first;
  leads = Then old new r.leads (inl (event, step));
}

pub reached_stroke : (e : Ends) (old new : Network) (s : Stroke) → IsReached e old → Strokes s old new → IsReached e new
reached_stroke e old new s r step = record {
  first = r.first;
  is_first = r.is_first;
  leads = Then old new r.leads (inr (s, step));
}

-- ---- a world

-- what its link does over its screen, a world does
pub link_does_over : (old new : World) (event : Event) (told : Told) →
    LinkDoesOver old.screen old.link event told new.link → new.screen ≡ old.screen →
    new.closed ≡ old.closed → Does old event told new
link_does_over old new event told does screens closed = λ e n made reached stands.
    let one = does e n made reached stands.screen_is stands.link_is in (
      one.0,
      one.1,
      one.2,
      record {
        goes_on = closed ∙ stands.goes_on;
        screen_is = one.3 ∙ (stands.screen_is ∙ sym screens);
        link_is = subst (λ (g : Grid Colour). LinkStandsFor e g new.link one.0.link) (sym one.3) one.4;
      },
    )

-- and what it does over every screen
pub link_does : (old new : World) (event : Event) (told : Told) →
    LinkDoes old.link event told new.link → new.screen ≡ old.screen → new.closed ≡ old.closed →
    Does old event told new
link_does old new event told does = link_does_over old new event told (λ e n made reached over. does e n made reached)

pub fresh_world : (e : Ends) (screen : Grid Colour) (w : World) → w.closed ≡ false →
    screen ≡ w.screen → LinkStandsFor e screen w.link (first_link e) →
    StandsFor e w (first_network e screen)
fresh_world e screen w going is link = record { goes_on = going; screen_is = is; link_is = link }

-- the session of a fresh server is a fresh session
pub fresh_parts : (e : Ends) (screen : Grid Colour) (server : Server) (viewer : Viewer) (session : Session) →
    AreFresh e server viewer screen → session ≡ session_of server → AreNew e session viewer screen
fresh_parts e screen server viewer session fresh is = record {
  session_is = subst (λ (x : Session). SessionStandsFor e.serving screen x
      (with_screen screen (first_server e.serving)) []) (sym is)
      (session_over e.serving (screen_of server) screen (session_of server)
      (with_screen screen (first_server e.serving)) [] fresh.server_is);
  viewer_is = fresh.viewer_is;
}
