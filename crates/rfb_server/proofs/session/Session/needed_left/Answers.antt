use Rattle.rfb_server.proofs.QuietLemmas.{quiet_rows}
use Rattle.rfb_server.proofs.session.Session.needed_left.Goals as goal

pub returns : goal.returns
returns c =
    let s = c.args.self.now in
    quiet_rows c.args.screen.now s c.args.left c.outside-rows.result c.args.quiet.now _ c.requires.held
    c.outside-rows.ensures.part c.outside-rows.ensures.others c.requires.quiet c.needed_in_zone.ensures
