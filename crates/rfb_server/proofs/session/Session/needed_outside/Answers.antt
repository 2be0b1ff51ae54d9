use Rattle.rfb_server.proofs.QuietLemmas.{quiet_rows}
use Rattle.rfb_server.proofs.session.Session.needed_outside.Goals as goal

pub returns : goal.returns
returns c =
    let s = c.args.self.now in
    quiet_rows c.args.screen.now s c.args.cell c.outside-zone.result c.args.quiet.now _ c.requires.held
    c.outside-zone.ensures.part c.outside-zone.ensures.others c.requires.quiet c.needed_marked.ensures
