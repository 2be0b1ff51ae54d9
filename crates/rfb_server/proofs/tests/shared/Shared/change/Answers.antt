use Rattle.rfb_picture.specs.Grid.{filled}
use Rattle.rfb_server.specs.Strokes.{Fill}
use Rattle.rfb_server.proofs.DrawingLaws.{whole_drawn, drawn_outside}
use Rattle.rfb_server.proofs.tests.shared.Shared.change.Goals as goal

pub invariant_of-self : goal.invariant_of-self
invariant_of-self c =
    let s = c.args.self.now in
    let drawn = Fill c.args.rect c.args.colour in
    let whole = s.told_first.whole in
    let after = filled c.args.rect c.args.colour s.screen in
    let told = c.in-Ok.ensures.told s.screen after (whole_drawn drawn s.screen whole)
    (drawn_outside drawn s.screen whole) in
    rw (c.fill.ensures.value) (record {
      told_first = c.notified.ensures.follows s.screen after s.told_first told;
      told_second = c.notified-2.ensures.follows s.screen after s.told_second told;
    })
