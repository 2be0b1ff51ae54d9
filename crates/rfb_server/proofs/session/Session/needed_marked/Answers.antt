use Rattle.rfb_server.proofs.NeedingLemmas.{cell_zone}
use Rattle.rfb_server.proofs.session.Session.needed_marked.Goals as goal

pub returns-in-Some : goal.returns-in-Some
returns-in-Some c =
    cell_zone c.args.screen.now c.args.self.now c.args.zone c.in-Some.left c.needed_left.result c.requires.about
    c.requires.held c.in-Some.ensures c.needed_left.ensures
