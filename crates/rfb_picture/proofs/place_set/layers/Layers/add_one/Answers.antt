use Rattle.std.proofs.Common.{sym, ◌∙◌}
use Rattle.rfb_picture.proofs.OnePlaceLemmas.{layered-one, layered-same, sound-one}
use Rattle.rfb_picture.proofs.place_set.layers.Layers.add_one.Goals as goal

pub returns-then-not-has-clause-sound : goal.returns-then-not-has-clause-sound
returns-then-not-has-clause-sound c =
    rw (c.add_one-then-not-has.ensures.value, c.add_one.ensures.value)
    (sound-one c.open_cell.new.self c.args.x c.args.y c.open_cell.ensures.sound)

pub returns-then-not-has-clause-value : goal.returns-then-not-has-clause-value
returns-then-not-has-clause-value c =
    rw c.add_one-then-not-has.ensures.value
    (layered-one c.args.self.now c.open_cell.new.self c.args.x c.args.y c.requires.sound c.open_cell.ensures)

pub returns-else-not-has-clause-value : goal.returns-else-not-has-clause-value
returns-else-not-has-clause-value c =
    layered-same c.args.self.now c.args.x c.args.y (sym c.has.ensures ∙ c.if-not-has.false)
