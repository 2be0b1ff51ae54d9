use Rattle.rfb_session.proofs.InputLemmas.{heard_when}
use Rattle.std.proofs.Common.{◌∙◌}
use Rattle.rfb_session.proofs.drive.driver.Driver.is_heard.Goals as goal

pub returns-then-is_none : goal.returns-then-is_none
returns-then-is_none g c =
    let input = c.args.self.now.input in
    rw c.if-is_none.ensures
    (c.is_partial.ensures ∙ heard_when input.waiting input.has_ended c.upcoming.result c.upcoming.ensures)
