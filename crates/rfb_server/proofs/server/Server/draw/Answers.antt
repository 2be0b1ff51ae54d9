use Rattle.std.proofs.Common.{refl}
use Rattle.rfb_server.specs.Strokes.{stroke}
use Rattle.rfb_server.proofs.DrawingLaws.{follows_stroke}
use Rattle.rfb_server.proofs.UpdatingLemmas.{draws}
use Rattle.rfb_server.proofs.server.Server.draw.Goals as goal

pub draw_on-requires : goal.draw_on-requires
draw_on-requires c = record { inside = c.in_ok-notice.ensures.inside }

pub invariant_of-self : goal.invariant_of-self
invariant_of-self c =
    let s = c.args.self.now in
    record {
      follows = rw (c.draw_on.ensures.value)
          (follows_stroke (stroke c.args.drawing.now) s.session c.notified.new.self s.screen s.follows
          (rw c.in_ok-notice.ensures.value at c.notified.ensures.follows));
    }

pub returns-clause-drawn : goal.returns-clause-drawn
returns-clause-drawn c = draws _ c.args.self.now _ c.draw_on.ensures.value c.notified.ensures.kept refl
