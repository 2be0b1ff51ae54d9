use Rattle.std.proofs.Common.{inl, refl}
use Rattle.rfb_server.specs.Strokes.{stroke}
use Rattle.rfb_server.proofs.DrawingLaws.{follows_stroke}
use Rattle.rfb_session.proofs.DrawnLemmas.{drawn_does}
use Rattle.rfb_session.proofs.world.World.drawn.Goals as goal

pub draw_on-requires : goal.draw_on-requires
draw_on-requires c = record { inside = c.in-Ok.ensures.inside }

pub invariant_of-self : goal.invariant_of-self
invariant_of-self c =
    let s = c.args.self.now in
    record {
      follows = rw c.draw_on.ensures.value
          (follows_stroke (stroke c.args.drawing.now) s.link.session c.notified.new.self.session s.screen s.follows
          (rw c.in-Ok.ensures.value at c.notified.ensures.follows));
    }

pub returns-in-Ok : goal.returns-in-Ok
returns-in-Ok c =
    let s = c.args.self.now in
    record {
      acts = (
        inl (c.in-Ok.ensures.inside, c.taken.ensures.refused),
        λ none. record {
          screen_is = c.draw_on.ensures.value;
          others = c.notified.ensures.changes;
          session = c.notified.ensures.kept;
        },
      );
      does = drawn_does s _ c.taken.result (stroke c.args.drawing.now) (
        inl (c.in-Ok.ensures.inside, c.taken.ensures.refused),
        λ none. record {
          screen_is = c.draw_on.ensures.value;
          others = c.notified.ensures.changes;
          session = c.notified.ensures.kept;
        },
      )
          (λ some. absurd (some c.taken.ensures.refused)) refl;
      moved = c.taken.ensures.moved;
      composed = c.taken.ensures.composed;
      hints = λ none. rw c.in-Ok.ensures.value at c.notified.ensures.hints;
      kept = λ some. absurd (some c.taken.ensures.refused);
      closed = refl;
    }
