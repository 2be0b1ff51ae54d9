use Rattle.rfb_session.proofs.InputLemmas.{part_so, too_long}
use Rattle.rfb_session.proofs.drive.driver.input.Input.upcoming.Goals as goal

pub returns-then-length-gt-LINE_MAX : goal.returns-then-length-gt-LINE_MAX
returns-then-length-gt-LINE_MAX c =
    let line = c.length_of_line-length.ensures in
    too_long c.args.self.now.waiting c.first-bytes.result.now c.len.result c.length_of_line-length.result
    c.first-bytes.ensures c.len.ensures line.bound line.before c.if-length-gt-LINE_MAX.true

pub returns-in-false-default : goal.returns-in-false-default
returns-in-false-default c =
    part_so c.args.self.now.waiting c.first-bytes.result.now c.len.result c.length_of_line-length.result
    c.args.self.now.has_ended c.first-bytes.ensures c.len.ensures c.if-length-bytes.false
    c.length_of_line-length.ensures.before c.if-length-gt-LINE_MAX.false c.in-false-default.is-0
