use Rattle.std.proofs.Common.{◌≤◌, length, ap, subst, ◌∙◌, rules}
use Rattle.rfb_pixel.specs.declared.colour.Colour.{Colour}
use Rattle.rfb_picture.specs.Grid.{Grid, IsGrid}
use Rattle.rfb_session.proofs.ShareLemmas.{fresh_in}
use Rattle.rfb_session.proofs.share.Share.fresh_seat.Goals as goal

pub new-requires-2 : goal.new-requires-2
new-requires-2 c =
    let short : length c.as_slice.result.now ≤ 255 = search rules in
    record { fresh = (_, short, c.in_ok-session.ensures.stands) }

pub returns : goal.returns
returns c =
    fresh_in c.args.self.now c.in_ok-session.session c.new-2.result c.width.result c.height.result
    c.as_slice.result.now
    (c.width.ensures.value ∙ ap (λ (g : Grid Colour). g.width) c.picture-screen.ensures)
    (c.height.ensures ∙ ap (λ (g : Grid Colour). g.height) c.picture-screen.ensures)
    c.as_slice.ensures.value
    (subst (λ (g : Grid Colour). IsGrid g) c.picture-screen.ensures c.width.ensures.whole)
    c.in_ok-session.ensures.stands c.in_ok-session.ensures.follows
    c.in_ok-session.ensures.hints c.new-2.ensures
