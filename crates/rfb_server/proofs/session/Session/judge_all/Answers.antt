use Rattle.std.proofs.Common.{arith}
use Rattle.rfb_picture.specs.Rect.{contains}
use Rattle.rfb_picture.proofs.GridLaws.{contains_row, contains_true}
use Rattle.rfb_server.specs.update.Gains.{right_before, right_after}
use Rattle.rfb_server.proofs.QuietLemmas.{rows_count}
use Rattle.rfb_server.proofs.ClaimedRowLemmas.{first_holds}
use Rattle.rfb_server.proofs.session.Session.judge_all.Goals as goal

pub returns-clause-right : goal.returns-clause-right
returns-clause-right c x y quiet =
    let to = c.args.hint.to in
    let screen = c.args.screen.now in
    let s = c.args.self.now in
    let top = c.rows_right-top in
    let gain = c.has_more_right-gain in
    let above = record to { h = top.result } in
    let here = first_holds (contains above x y) _ quiet in
    let (left, right, first, end) = contains_true above x y here in
    let inside = contains_row to x y left right first (omega (arith, end, top.ensures.within)) in (
      inside,
      c.requires.free.not_whole x y inside,
      rows_count (right_before screen s c.args.hint) (right_after screen s c.args.hint) to top.result
          gain.result top.ensures.within top.ensures.right gain.ensures.no_more
          c.else-not-gain.either x y here,
    )
