use Rattle.std.proofs.Common.{◌≡◌, false, sym, ◌∙◌}
use Rattle.rfb_picture.specs.Box.{is_in}
use Rattle.rfb_picture.proofs.OpenedLemmas.{opened_cell}
use Rattle.rfb_picture.proofs.place_set.layers.Layers.open_cell.Goals as goal

pub returns-then-not-has-2 : goal.returns-then-not-has-2
returns-then-not-has-2 c =
    let l = c.args.self.now in
    let no_full : is_in l.full c.args.column c.args.row ≡ false =
    sym c.has.ensures ∙ c.if-not-has.true in
    let no_used : is_in l.used c.args.column c.args.row ≡ false =
    sym c.has-then-not-has.ensures ∙ c.if-not-has-2.true in
    rw (c.add_one.ensures.value, c.clear_cell.ensures)
    (opened_cell l c.args.column c.args.row c.requires.sound c.requires.column c.requires.row
    no_full no_used)
