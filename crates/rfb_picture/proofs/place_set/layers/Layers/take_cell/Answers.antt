use Rattle.std.proofs.Common.{◌≡◌, ◌∙◌, sym, true, false, arith}
use Rattle.rfb_picture.specs.Box.{is_in}
use Rattle.rfb_picture.proofs.TakenLemmas.{cell_lost}
use Rattle.rfb_picture.proofs.place_set.layers.Layers.take_cell.Goals as goal

pub returns-then-has-2 : goal.returns-then-has-2
returns-then-has-2 c =
    let no_full : is_in c.args.other.now.full c.args.column c.args.row ≡ false =
    sym c.has.ensures ∙ c.if-has.false in
    let own : is_in c.spread_cell.new.self.used c.args.column c.args.row ≡ true =
    sym c.has-2.ensures ∙ c.if-has-2.true in
    rw c.take_cell.ensures.value
    (cell_lost c.args.column c.args.row c.args.other.now c.args.self.now c.spread_cell.new.self
    c.requires.sound_other c.requires.alike c.spread_cell.ensures no_full c.requires.used own)

pub returns-else-has-2 : goal.returns-else-has-2
returns-else-has-2 c = grind arith
