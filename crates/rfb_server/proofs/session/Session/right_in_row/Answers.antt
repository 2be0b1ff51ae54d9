use Rattle.std.proofs.Common.{arith}
use Rattle.rfb_server.proofs.RightRowsLemmas.{before_part, after_part}
use Rattle.rfb_server.proofs.session.Session.right_in_row.Goals as goal

pub loop-x-preserved : goal.loop-x-preserved
loop-x-preserved c =
    let more = c.right_in_part-right in
    record {
      before = before_part c.args.screen.now c.args.self.now c.args.row c.part_of.result c.loop-x.x c.min-next.result
          c.loop-x.before more.result.before (omega arith) (omega arith) c.part_of.ensures more.ensures.few.0
          c.loop-x.invariant.before more.ensures.before;
      after = after_part c.args.screen.now c.args.self.now c.args.row c.part_of.result c.loop-x.x c.min-next.result
          c.loop-x.after more.result.after (omega arith) (omega arith) c.part_of.ensures more.ensures.few.1
          c.loop-x.invariant.after more.ensures.after;
    }
