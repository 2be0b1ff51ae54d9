use Rattle.std.proofs.Common.{◌-◌}
use Rattle.rfb_picture.specs.layout.PlaceSet.{IsOpened}
use Rattle.rfb_picture.proofs.place_set.layers.Layers.open_cells.Given as goal

-- the rows so far are open
abbrev pub invariant-loop-row : goal.invariant-loop-row
invariant-loop-row l =
    IsOpened (record { x = l.cells.x; y = l.cells.y; w = l.cells.w; h = l.row - l.cells.y })
    l.initial.self l.self
