use Rattle.std.proofs.Common.{arith}
use Rattle.rfb_server.specs.update.Needs.{needs_of}
use Rattle.rfb_server.proofs.NeedingBits.{first_between, none_between, none_joined}
use Rattle.rfb_server.proofs.session.Session.first_needed.Goals as goal

pub returns-then-due-ne0 : goal.returns-then-due-ne0
returns-then-due-ne0 c =
    let (a, b, here, none) = first_between (needs_of c.args.screen.now c.args.self.now) c.args.y c.loop-at.at
    c.min-end.result c.needed_between-due.result
    c.needed_between-due.ensures (omega (arith, c.min-end.ensures)) (omega (arith, c.if-due-ne0.true))
    c.needed_between-due.type_inv in
    record {
      order = (omega (arith, c.loop-at.invariant.order), omega (arith, c.min-end.ensures));
      none = none_joined (needs_of c.args.screen.now c.args.self.now) c.args.y c.args.from c.loop-at.at _
          c.loop-at.invariant.none none;
      here = λ _. here;
    }

pub loop-at-preserved : goal.loop-at-preserved
loop-at-preserved c =
    record {
      order = (omega (arith, c.loop-at.invariant.order, c.min-end.ensures), omega (arith, c.min-end.ensures));
      none = none_joined (needs_of c.args.screen.now c.args.self.now) c.args.y c.args.from c.loop-at.at _
          c.loop-at.invariant.none
          (none_between (needs_of c.args.screen.now c.args.self.now) c.args.y c.loop-at.at c.min-end.result
          c.needed_between-due.result
          c.needed_between-due.ensures (omega (arith, c.if-due-ne0.false)) (omega (arith, c.min-end.ensures)));
    }
