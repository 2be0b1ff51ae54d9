use Rattle.std.proofs.Common.{◌≡◌, ◌+◌, ◌-◌, arith}
use Rattle.rfb_pixel.specs.Format.{pixel_of}
use Rattle.rfb_server.proofs.RightRowsLemmas.{before_part}
use Rattle.rfb_server.proofs.WantedLemmas.{wanted_part, may_part}
use Rattle.rfb_server.proofs.session.Session.before_of.Goals as goal

pub before_by-count-requires-clause-copy : goal.before_by-count-requires-clause-copy
before_by-count-requires-clause-copy c =
    let row = c.args.row in
    let l = c.loop-x in
    let next = c.min-next.result in
    rw c.part_of.ensures
    (may_part c.args.self.now.known row l.x next c.requires.copy l.invariant.order.0 (omega arith)
    (omega arith))

pub before_by-count-requires-clause-wanted : goal.before_by-count-requires-clause-wanted
before_by-count-requires-clause-wanted c =
    let to = c.args.row.to in
    let l = c.loop-x in
    let next = c.min-next.result in
    let first : c.from.result ≡ c.loop-x.x - c.args.row.to.x = c.from.ensures in
    let end : c.from-in-loop-x.result ≡ c.min-next.result - c.args.row.to.x =
    c.from-in-loop-x.ensures in
    let column : c.args.row.to.x + (c.loop-x.x - c.args.row.to.x) ≡ c.loop-x.x = omega arith in
    let wide : c.min-next.result - c.args.row.to.x - (c.loop-x.x - c.args.row.to.x)
    ≡ c.min-next.result - c.loop-x.x = omega arith in
    let cut = wanted_part (pixel_of c.args.self.now.format) c.args.screen.now to.x to.y to.w
    (l.x - to.x) (next - to.x) c.args.wanted.now c.requires.wanted (omega arith) (omega arith) in
    rw (c.part_of.ensures, first, end, wide) (rw (column, wide) at cut)

pub loop-x-preserved : goal.loop-x-preserved
loop-x-preserved c =
    let more = c.before_by-count in
    before_part c.args.screen.now c.args.self.now c.args.row c.part_of.result c.loop-x.x c.min-next.result
    c.loop-x.count
    more.result (omega arith) (omega arith) c.part_of.ensures more.ensures.few c.loop-x.invariant more.ensures.value
