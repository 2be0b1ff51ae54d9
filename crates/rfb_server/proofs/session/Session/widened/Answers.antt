use Rattle.std.proofs.Common.{inl, arith}
use Rattle.rfb_server.specs.update.Needs.{needs_of}
use Rattle.rfb_server.proofs.NeedingLemmas.{wide_top, wide_more, wide_all}
use Rattle.rfb_server.proofs.session.Session.widened.Goals as goal

pub loop-y-init : goal.loop-y-init
loop-y-init c = wide_top (needs_of c.args.screen.now c.args.self.now) c.args.zone c.args.top c.args.bottom c.args.given
    c.requires.rows.1 c.requires.given

pub loop-y-preserved : goal.loop-y-preserved
loop-y-preserved c =
    wide_more (needs_of c.args.screen.now c.args.self.now) c.args.zone c.args.top c.args.bottom c.loop-y.y
    c.wider-columns.result.first c.wider-columns.result.end c.loop-y.columns
    (omega (arith, c.loop-y-test.true)) c.loop-y.invariant c.wider-columns.ensures.first c.wider-columns.ensures.end

pub returns-after-loop-y : goal.returns-after-loop-y
returns-after-loop-y c =
    wide_all (needs_of c.args.screen.now c.args.self.now) c.args.zone c.args.top
    c.args.bottom c.loop-y.y c.loop-y.columns
    (inl (omega (arith, c.loop-y-test.false))) c.loop-y.invariant
