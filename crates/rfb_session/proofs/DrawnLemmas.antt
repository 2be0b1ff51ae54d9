-- Drawings on the screen of a world.
use Rattle.std.proofs.Common.{◌≡◌, ◌≢◌, Option, Some, None, inl, inr, refl, sym, ap, ◌∙◌, subst}
use Rattle.rfb_pixel.specs.declared.colour.Colour.{Colour}
use Rattle.rfb_picture.specs.Grid.{Grid}
use Rattle.rfb_server.specs.Strokes.{Stroke, IsInside, drawn_by, hint_of}
use Rattle.rfb_server.specs.Model.{KeepsSession}
use Rattle.rfb_server.proofs.ServerLaws.{session_over}
use Rattle.rfb_session.specs.declared.told.Refused.{Refused}
use Rattle.rfb_session.specs.declared.told.Refused.TheVariants.{Outside}
use Rattle.rfb_session.specs.declared.told.Told.{Told}
use Rattle.rfb_session.specs.declared.world.World.{World}
use Rattle.rfb_session.specs.Latest.{composing_in}
use Rattle.rfb_session.specs.declared.link.Link.{Link}
use Rattle.rfb_session.specs.Link.{Ends, LinkState}
use Rattle.rfb_session.specs.LinkModel.{LinkStandsFor, ChangesSession}
use Rattle.rfb_session.specs.Network.{Network, Strokes}
use Rattle.rfb_session.specs.Told.{RefusesUnless}
use Rattle.rfb_session.specs.World.{StandsFor, GivesScreen, DrawsOnBytes, DrawsWorld, hints_in}

-- a link whose session was notified, over another screen
pub link_drawn : (e : Ends) (before after : Grid Colour) (old new : Link) (l : LinkState) →
    LinkStandsFor e before old l → ChangesSession old new →
    KeepsSession old.session new.session → LinkStandsFor e after new l
link_drawn e before after old new l stands same keeps =
    let had = stands.carries in
    record {
      carries = rw (same.viewer, same.to_server, same.to_viewer) (record {
        server_has = had.server_has;
        viewer_has = had.viewer_has;
        server_is = session_over e.serving before after new.session _ _
            (keeps.stands e.serving before _ _ had.server_is);
        viewer_is = had.viewer_is;
        flies = had.flies;
      });
      latest_is = stands.latest_is ∙ ap (λ l. composing_in l) (sym same.latest);
    }

-- the world with another screen
drawn_stands : (e : Ends) (old new : World) (n : Network) (screen : Grid Colour) →
    StandsFor e old n → GivesScreen screen old new → new.closed ≡ old.closed →
    StandsFor e new (record n { screen = screen })
drawn_stands e old new n screen stands gives closed =
    record {
      goes_on = closed ∙ stands.goes_on;
      screen_is = sym gives.screen_is;
      link_is = link_drawn e n.screen screen old.link new.link n.link stands.link_is gives.others gives.session;
    }

-- a drawing on the screen
pub drawn_does : (old new : World) (told : Told) (s : Stroke) →
    DrawsOnBytes (IsInside old.screen s) (drawn_by s old.screen) old told new →
    (told.refused ≢ None → new ≡ old) → new.closed ≡ old.closed →
    (e : Ends) (n : Network) → StandsFor e old n →
    (m : Network) × Strokes s n m × RefusesUnless (IsInside n.screen s) told.refused × StandsFor e new m
drawn_does old new told s (inl (inside, taken), gives) kept closed e n stands =
    let here : IsInside n.screen s = subst (λ (g : Grid Colour). IsInside g s) (sym stands.screen_is) inside in
    let is : drawn_by s n.screen ≡ drawn_by s old.screen = ap (λ (g : Grid Colour). drawn_by s g) stands.screen_is in (
      record n { screen = drawn_by s old.screen },
      inl (here, ap (λ (g : Grid Colour). record n { screen = g }) (sym is)),
      inl (here, taken),
      drawn_stands e old new n (drawn_by s old.screen) stands (gives taken) closed,
    )
drawn_does old new told s (inr (outside, refused), gives) kept closed e n stands =
    let away : IsInside n.screen s → ⊥ = λ inside. outside (subst (λ
    (g : Grid Colour). IsInside g s) stands.screen_is inside) in (
      n,
      inr (away, refl),
      inr (away, refused),
      subst (λ (w : World). StandsFor e w n) (sym (kept (some told.refused refused))) stands,
    )
  where
    some : (o : Option Refused) → o ≡ Some Outside → o ≢ None
    some o is none = cc

-- the hints of a drawing that gives none
pub same_hints : (old new : World) (told : Told) (s : Stroke) → DrawsWorld old s told new → hint_of s ≡ None →
    hints_in new ≡ hints_in old
same_hints old new told s draws none = by draws.acts.0
  where
    by : RefusesUnless (IsInside old.screen s) told.refused → hints_in new ≡ hints_in old
    by (inl (inside, taken)) = draws.hints taken ∙ (rw none refl)
    by (inr (outside, refused)) = ap (λ (w : World). hints_in w) (draws.kept (λ none. some told.refused refused none))
      where
        some : (o : Option Refused) → o ≡ Some Outside → o ≡ None → ⊥
        some o is none = cc
