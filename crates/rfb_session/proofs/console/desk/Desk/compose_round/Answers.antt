use Rattle.std.proofs.Common.{ℕ, subst, arith}
use Rattle.rfb_session.specs.console.Updates.{RoundUpTo}
use Rattle.rfb_session.proofs.DeskRoundLemmas.{round_start, round_next, round_ends, round_done, round_rests}
use Rattle.rfb_session.proofs.console.desk.Desk.compose_round.Goals as goal

pub loop-step-init : goal.loop-step-init
loop-step-init c = round_start c.args.is_busy c.args.self.now c.to_serve-left.result

pub loop-step-preserved : goal.loop-step-preserved
loop-step-preserved c =
    round_next c.without_all-left.result c.args.is_busy c.loop-step-test.true c.after-seat.ensures
    c.to_serve-left.ensures.rests
    c.loop-step.invariant c.has-tries.ensures c.serve-served.ensures.one c.without-others.ensures
    c.without_all-left.ensures (c.serve-served.ensures.small c.if-served.false)

pub returns-then-is_empty : goal.returns-then-is_empty
returns-then-is_empty c =
    let l = c.loop-step in
    round_rests c.args.is_busy c.args.self.now c.to_serve-left.result l.left l.step l.wants l.self
    c.to_serve-left.ensures.rests l.invariant (c.is_empty.ensures c.if-is_empty.true)

pub returns-then-served : goal.returns-then-served
returns-then-served c =
    round_ends c.without_all-left.result c.args.is_busy c.loop-step-test.true c.after-seat.ensures
    c.to_serve-left.ensures.rests
    c.loop-step.invariant c.has-tries.ensures c.serve-served.ensures.one c.without-others.ensures
    c.without_all-left.ensures (c.serve-served.ensures.large c.if-served.true)

pub returns : goal.returns
returns c =
    let l = c.loop-step in
    round_done c.args.is_busy c.args.self.now c.to_serve-left.result l.left l.wants l.self
    (subst (λ (n : ℕ). RoundUpTo n c.args.is_busy c.args.self.now c.to_serve-left.result l.left l.wants l.self)
    (omega (arith, c.loop-step-test.false)) l.invariant)
