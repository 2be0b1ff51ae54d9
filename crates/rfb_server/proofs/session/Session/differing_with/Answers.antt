use Rattle.rfb_server.proofs.NeededLemmas.{none_told, other_told}
use Rattle.rfb_server.proofs.session.Session.differing_with.Goals as goal

pub returns : goal.returns
returns c =
    other_told c.args.screen.now c.args.self.now.format c.args.self.now.known c.pixels.result.now c.args.y
    c.args.from c.args.to c.differing.result
    c.requires.columns.0 c.requires.cell c.requires.columns.1 c.requires.row c.pixels.ensures.value c.differing.type_inv
    (rw (c.row-known.ensures.value, c.pack_row.ensures.value, c.row.ensures.value) at c.differing.ensures)
    (rw c.row-known.ensures.value at c.row-known.ensures.len) (rw c.row.ensures.value at c.row.ensures.len)

pub returns-then-is_none : goal.returns-then-is_none
returns-then-is_none c =
    none_told c.args.screen.now c.args.self.now.format c.args.self.now.known c.pixels.result.now
    c.args.y c.args.from c.args.to
    c.requires.columns.0 c.requires.cell c.requires.columns.1 c.requires.row c.pixels.ensures.value
    (rw (c.row-known.ensures.value, c.pack_row.ensures.value, c.row.ensures.value)
    at (c.first_diff.ensures.same.0 c.if-is_none.ensures))
    (rw c.row-known.ensures.value at c.row-known.ensures.len) (rw c.row.ensures.value at c.row.ensures.len)
