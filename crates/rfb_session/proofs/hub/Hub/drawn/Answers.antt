use Rattle.std.proofs.Common.{arith, inl, refl}
use Rattle.rfb_server.specs.Strokes.{stroke}
use Rattle.rfb_server.proofs.DrawingLaws.{area_held}
use Rattle.rfb_session.proofs.HubDrawLemmas.{all_held, all_told, drawn_does, made_sized}
use Rattle.rfb_session.proofs.hub.Hub.drawn.Goals as goal

pub notify_all-requires : goal.notify_all-requires
notify_all-requires c =
    let s = c.args.self.now in (
      omega arith,
      rw c.in-Ok.ensures.value
          (all_held s.screen s.slots _ s.follow
          (area_held (stroke c.args.drawing.now) s.screen c.in-Ok.ensures.inside)),
    )

pub draw_on-requires : goal.draw_on-requires
draw_on-requires c = record { inside = c.in-Ok.ensures.inside }

pub invariant_of-self : goal.invariant_of-self
invariant_of-self c =
    all_told c.args.self.now c.draw_on.new.screen c.notify_all.new.slots (stroke c.args.drawing.now)
    c.notify_all.ensures.size c.draw_on.ensures.width c.draw_on.ensures.height c.draw_on.ensures.value
    (rw c.in-Ok.ensures.value at c.notify_all.ensures.notified)

pub returns-in-Ok : goal.returns-in-Ok
returns-in-Ok c =
    let s = c.args.self.now in
    let one = stroke c.args.drawing.now in
    record {
      made = made_sized s.offer s.name.items s.text_limit _ _ _ _ c.draw_on.ensures.width c.draw_on.ensures.height;
      closed = refl;
      acts = record {
        case = inl (c.in-Ok.ensures.inside, c.told_made.ensures.refused, c.draw_on.ensures.value);
        mere = c.told_made.ensures.mere;
      };
      slots = λ taken. rw c.in-Ok.ensures.value at c.notify_all.ensures.notified;
      does = λ k a b was is e n stands.
          drawn_does s.screen c.draw_on.new.screen s.slots c.notify_all.new.slots one c.in-Ok.ensures.inside
          c.draw_on.ensures.value
          (rw c.in-Ok.ensures.value at c.notify_all.ensures.notified) k a b was is e n stands;
      kept = λ some. absurd (some c.told_made.ensures.refused);
    }
