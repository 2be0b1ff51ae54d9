use Rattle.std.proofs.Common.{sym, ◌∙◌, subst}
use Rattle.rfb_pixel.specs.declared.colour.Colour.{Colour}
use Rattle.rfb_picture.specs.Grid.{Grid, IsGrid}
use Rattle.rfb_session.specs.Mirrors.{seen_by}
use Rattle.rfb_session.proofs.ShareRelayLemmas.{quiet, not_some, no_moves}
use Rattle.rfb_session.proofs.share.mirroring.relay.Goals as goal

pub returns-then-is_empty-clause-told : goal.returns-then-is_empty-clause-told
returns-then-is_empty-clause-told c =
    quiet (seen_by c.moved-moves.new.self.viewer) _ _ c.args.slots.now
    (subst (λ (g : Grid Colour). IsGrid g) c.picture-picture.ensures c.width.ensures.whole)
    (sym c.damage-damage.ensures.value ∙ not_some c.damage-damage.result c.if-is_none.ensures)
    (sym c.damage-damage.ensures.moved ∙ sym c.moved-moves.ensures.value
    ∙ no_moves c.moved-moves.result.items c.if-is_empty.ensures)
