use Rattle.std.proofs.Common.{arith}
use Rattle.rfb_server.proofs.RightRowsLemmas.{after_part}
use Rattle.rfb_server.proofs.session.Session.after_in_row.Goals as goal

pub loop-x-preserved : goal.loop-x-preserved
loop-x-preserved c =
    let more = c.after_in_part-count in
    after_part c.args.screen.now c.args.self.now c.args.row c.part_of.result c.loop-x.x c.min-next.result c.loop-x.count
    more.result (omega arith) (omega arith) c.part_of.ensures more.ensures.few c.loop-x.invariant more.ensures.value
