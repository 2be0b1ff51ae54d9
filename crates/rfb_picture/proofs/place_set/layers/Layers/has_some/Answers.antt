use Rattle.std.proofs.Common.{arith}
use Rattle.rfb_picture.specs.layout.PlaceSet.{in_set}
use Rattle.rfb_picture.proofs.NextCellLemmas.{place_in_cell, none_in_cell}
use Rattle.rfb_picture.proofs.place_set.layers.Layers.has_some.Goals as goal

pub returns-in-None-clause-none : goal.returns-in-None-clause-none
returns-in-None-clause-none c =
    let l = c.args.self.now in
    let none = rw (c.zone_of.ensures, c.from-across.ensures, c.width.ensures.value) at c.in-None.ensures in
    none_in_cell (in_set l) l.places.width l.places.height l.full.width c.args.cell c.requires.sound.full_wide none

pub returns-in-Some-clause-some : goal.returns-in-Some-clause-some
returns-in-Some-clause-some c =
    let l = c.args.self.now in
    let edges = rw (c.zone_of.ensures, c.from-across.ensures, c.width.ensures.value) at c.in-Some.ensures in
    place_in_cell (in_set l) l.places.width l.places.height l.full.width c.args.cell
    c.in-Some.field-0 c.requires.sound.full_wide edges

pub overflow_cast-row : goal.overflow_cast-row
overflow_cast-row c = grind arith
