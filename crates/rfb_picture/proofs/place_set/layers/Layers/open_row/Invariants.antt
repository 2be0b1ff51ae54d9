use Rattle.std.proofs.Common.{◌-◌}
use Rattle.rfb_picture.specs.layout.PlaceSet.{IsOpened}
use Rattle.rfb_picture.proofs.place_set.layers.Layers.open_row.Given as goal

-- the cells so far are open
abbrev pub invariant-loop-column : goal.invariant-loop-column
invariant-loop-column l =
    IsOpened (record { x = l.fn.from; y = l.row; w = l.column - l.fn.from; h = 1 }) l.initial.self
    l.self
