use Rattle.std.proofs.Common.{◌≡◌, ◌<◌, ◌&&◌, ℕ, not, nat_eq, arith, subst}
use Rattle.rfb_picture.specs.Places.{has_bit}
use Rattle.rfb_session.specs.console.Updates.{ComposesOne, SharesUpTo}
use Rattle.rfb_session.proofs.DeskShowLemmas.{shares_start, shares_next, shares_done}
use Rattle.rfb_session.proofs.console.desk.Desk.compose.Goals as goal

pub loop-place-init : goal.loop-place-init
loop-place-init c = shares_start c.args.self.now c.to_serve-left.result

pub loop-place-preserved : goal.loop-place-preserved
loop-place-preserved c =
    let l = c.loop-place in
    let is = c.at-seat.ensures in
    let tries = c.has-tries.result in
    let others = c.without-others.result in
    let tried = c.compose_at-tried in
    shares_next {p = l.place} c.without_all-left.result c.loop-place-test.true c.to_serve-left.ensures.rests l.invariant
    (subst (λ (k : ℕ). tries ≡ has_bit l.left k) is c.has-tries.ensures)
    (subst (λ (k : ℕ). ComposesOne l.self k tries tried.result.wants others tried.result.given tried.new.self) is
    tried.ensures)
    (subst (λ (n : ℕ). (k : ℕ) → k < 8 → has_bit others k ≡ (has_bit l.left k && not (nat_eq k n))) is
    c.without-others.ensures)
    c.without_all-left.ensures

pub returns : goal.returns
returns c =
    let l = c.loop-place in
    shares_done c.args.self.now c.to_serve-left.result l.left l.wants l.self
    (subst (λ (n : ℕ). SharesUpTo n c.args.self.now c.to_serve-left.result l.left l.wants l.self)
    (omega (arith, c.loop-place-test.false)) l.invariant)
