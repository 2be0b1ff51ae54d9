use Rattle.std.proofs.Common.{◌≡◌, ◌∙◌, sym, true}
use Rattle.rfb_picture.specs.Box.{is_in}
use Rattle.rfb_picture.proofs.TakenLemmas.{spread_full, cell_part}
use Rattle.rfb_picture.proofs.place_set.layers.Layers.spread_cell.Goals as goal

pub returns-then-has : goal.returns-then-has
returns-then-has c =
    let l = c.args.self.now in
    let full : is_in l.full c.args.column c.args.row ≡ true = sym c.has.ensures ∙ c.if-has.true in
    let part = cell_part l.places.width l.places.height c.args.column c.args.row in
    rw (c.remove.ensures.value, c.add_one.ensures.value, c.mark.ensures, c.zone_of-zone.ensures)
    (spread_full c.args.column c.args.row l _ c.requires.sound c.requires.column c.requires.row full
    part)
