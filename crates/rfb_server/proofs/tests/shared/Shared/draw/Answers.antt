use Rattle.rfb_server.specs.Strokes.{Fill}
use Rattle.rfb_server.proofs.DrawingLaws.{follows_stroke}
use Rattle.rfb_server.proofs.tests.shared.Shared.draw.Goals as goal

pub invariant_of-self : goal.invariant_of-self
invariant_of-self c =
    let s = c.args.self.now in
    let drawn = Fill c.args.rect c.args.colour in
    rw (c.draw_on.ensures.value) (record {
      told_first = follows_stroke drawn s.first c.notified.new.self s.screen s.told_first
          (rw c.in-Ok.ensures.value at c.notified.ensures.follows);
      told_second = follows_stroke drawn s.second c.notified-2.new.self s.screen s.told_second
          (rw c.in-Ok.ensures.value at c.notified-2.ensures.follows);
    })
