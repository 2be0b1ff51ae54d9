use Rattle.std.proofs.Common.{inl, inr}
use Rattle.rfb_server.specs.Strokes.{Fill as OneFill, Put as OnePut, Copy as OneCopy, Hint as OneHint}
use Rattle.rfb_session.proofs.HubDrawLemmas.{drawing_steps}
use Rattle.rfb_session.proofs.hub.Hub.happen.Goals as goal

pub returns-in-Fill-clause-steps : goal.returns-in-Fill-clause-steps
returns-in-Fill-clause-steps c =
    let d = c.drawn.ensures in
    drawing_steps c.args.self.now _ _ _ c.drawn.result (OneFill c.in-Fill.rect c.in-Fill.colour) c.in-Fill.is d
    d.acts (λ k taken. d.slots taken k) (λ e n m k step. step) (λ e n k. tt)

pub returns-in-Put-clause-steps : goal.returns-in-Put-clause-steps
returns-in-Put-clause-steps c =
    let d = rw c.deref.ensures.value at c.drawn-in-Put.ensures in
    drawing_steps c.args.self.now _ _ _ c.drawn-in-Put.result
    (OnePut c.in-Put.x c.in-Put.y c.in-Put.row.items) c.in-Put.is d
    d.acts (λ k taken. d.slots taken k) (λ e n m k step. step) (λ e n k. tt)

pub returns-in-Copy-clause-steps : goal.returns-in-Copy-clause-steps
returns-in-Copy-clause-steps c =
    let d = c.drawn-in-Copy.ensures in
    drawing_steps c.args.self.now _ _ _ c.drawn-in-Copy.result
    (OneCopy c.in-Copy.rect c.in-Copy.sx c.in-Copy.sy) c.in-Copy.is d
    d.acts (λ k taken. d.slots taken k) (λ e n m k step. step) (λ e n k. tt)

pub returns-in-Hint-clause-steps : goal.returns-in-Hint-clause-steps
returns-in-Hint-clause-steps c =
    let d = c.drawn-in-Hint.ensures in
    drawing_steps c.args.self.now _ _ _ c.drawn-in-Hint.result
    (OneHint c.in-Hint.rect c.in-Hint.sx c.in-Hint.sy) c.in-Hint.is d
    d.acts (λ k taken. d.slots taken k)
    (λ e n m k step. elim step [ inl made ↦ made.1 | inr refused ↦ refused.1 ]) (λ e n k. tt)
