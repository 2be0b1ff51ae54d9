use Rattle.rfb_server.specs.update.Needs.{needs_of}
use Rattle.rfb_server.proofs.NeedingLemmas.{first_in_row, row_spans, box_is}
use Rattle.rfb_server.proofs.session.Session.needed_from.Goals as goal

pub last_row-bottom-requires-clause-some : goal.last_row-bottom-requires-clause-some
last_row-bottom-requires-clause-some c =
    first_in_row (needs_of c.args.screen.now c.args.self.now) c.args.zone c.args.top c.args.first
    c.requires.some c.requires.first

pub widened-columns-requires-clause-given : goal.widened-columns-requires-clause-given
widened-columns-requires-clause-given c =
    row_spans (needs_of c.args.screen.now c.args.self.now) c.args.zone c.args.top c.args.first c.needed_end-end.result
    c.requires.some c.requires.first c.needed_end-end.ensures

pub returns : goal.returns
returns c =
    box_is (needs_of c.args.screen.now c.args.self.now) c.args.zone c.args.top c.last_row-bottom.result
    c.widened-columns.result c.requires.row.0
    c.requires.above (first_in_row (needs_of c.args.screen.now c.args.self.now) c.args.zone c.args.top c.args.first
    c.requires.some c.requires.first)
    c.last_row-bottom.ensures c.widened-columns.ensures
