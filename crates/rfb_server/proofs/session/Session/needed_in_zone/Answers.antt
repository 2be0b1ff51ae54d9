use Rattle.std.proofs.Common.{ℕ, ◌+◌, ◌∙◌, None, arith, sym, subst}
use Rattle.rfb_server.specs.update.Needs.{IsFirst, needs_of}
use Rattle.rfb_server.proofs.NeedingLemmas.{no_rows, all_rows, row_clear, single_box}
use Rattle.rfb_server.proofs.session.Session.needed_in_zone.Goals as goal

pub loop-y-init : goal.loop-y-init
loop-y-init c = no_rows (needs_of c.args.screen.now c.args.self.now) c.args.zone

pub loop-y-preserved : goal.loop-y-preserved
loop-y-preserved c =
    row_clear (needs_of c.args.screen.now c.args.self.now) c.args.zone c.loop-y.y (omega arith) c.loop-y.invariant
    (subst (λ (k : ℕ). IsFirst (needs_of c.args.screen.now c.args.self.now) c.loop-y.y c.args.zone.x
    (c.args.zone.x + c.args.zone.w) k)
    (omega (arith, c.first_needed-first.ensures.order, c.if-first-end.false)) c.first_needed-first.ensures)

pub returns : goal.returns
returns c =
    all_rows (needs_of c.args.screen.now c.args.self.now) c.args.zone c.loop-y.y None (omega arith) c.loop-y.invariant

pub returns-then-needs : goal.returns-then-needs
returns-then-needs c =
    single_box (needs_of c.args.screen.now c.args.self.now) c.args.zone (omega (arith, c.if-zone-eq1.true))
    (omega (arith, c.if-zone-eq1-2.true)) (sym c.needs.ensures ∙ c.if-needs.true)
