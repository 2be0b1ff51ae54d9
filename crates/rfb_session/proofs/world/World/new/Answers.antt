use Rattle.std.proofs.Common.{refl, sym, subst, ◌∙◌}
use Rattle.rfb_server.specs.declared.session.Session.{Session}
use Rattle.rfb_server.specs.KnownScreen.{Follows}
use Rattle.rfb_session.proofs.WorldLemmas.{fresh_world, fresh_parts}
use Rattle.rfb_session.proofs.world.World.new.Goals as goal

pub invariant_of-result : goal.invariant_of-result
invariant_of-result c = record {
  follows = subst (λ (s : Session). Follows c.into_parts-screen.result.0 s) (sym c.in_ok-link.ensures.session)
      c.into_parts-screen.ensures.follows;
}

pub returns : goal.returns
returns c = λ e screen fresh.
    fresh_world e screen _ refl (fresh.server_is.screen_is ∙ sym c.into_parts-screen.ensures.screen)
    (c.in_ok-link.ensures.stands e screen
    (fresh_parts e screen c.args.server c.args.viewer c.into_parts-screen.result.1 fresh
    c.into_parts-screen.ensures.session))
