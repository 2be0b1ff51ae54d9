use Rattle.rfb_server.proofs.NeedingLemmas.{cell_zone}
use Rattle.rfb_server.proofs.session.Session.needed_in.Goals as goal

pub returns-in-Some : goal.returns-in-Some
returns-in-Some c =
    cell_zone c.args.screen.now c.args.self.now c.args.cell c.in-Some.zone c.needed_in_zone.result c.requires.about
    c.requires.held c.in-Some.ensures c.needed_in_zone.ensures
