use Rattle.std.proofs.Common.{arith}
use Rattle.rfb_server.specs.update.Needs.{needs_of}
use Rattle.rfb_server.proofs.NeedingBits.{last_between, none_between, none_joined}
use Rattle.rfb_server.proofs.session.Session.needed_end.Goals as goal

pub returns-then-due-ne0 : goal.returns-then-due-ne0
returns-then-due-ne0 c =
    let (few, a, b, here, none) = last_between (needs_of c.args.screen.now c.args.self.now) c.args.y c.max-start.result
    c.loop-end.end c.needed_between-due.result
    c.needed_between-due.ensures (omega (arith, c.max-start.ensures)) (omega (arith, c.if-due-ne0.true))
    c.needed_between-due.type_inv in
    record {
      order = (omega (arith, a, c.max-start.ensures), omega (arith, b, c.loop-end.invariant.order));
      none = none_joined (needs_of c.args.screen.now c.args.self.now) c.args.y _ c.loop-end.end c.args.to none
          c.loop-end.invariant.none;
      here = λ _. here;
    }

pub loop-end-preserved : goal.loop-end-preserved
loop-end-preserved c =
    let clear = none_between (needs_of c.args.screen.now c.args.self.now) c.args.y c.max-start.result c.loop-end.end
    c.needed_between-due.result c.needed_between-due.ensures (omega (arith, c.if-due-ne0.false))
    (omega (arith, c.max-start.ensures)) in
    record {
      order = (omega (arith, c.max-start.ensures), omega (arith, c.max-start.ensures, c.loop-end.invariant.order));
      none = none_joined (needs_of c.args.screen.now c.args.self.now) c.args.y _ c.loop-end.end c.args.to clear
          c.loop-end.invariant.none;
    }
