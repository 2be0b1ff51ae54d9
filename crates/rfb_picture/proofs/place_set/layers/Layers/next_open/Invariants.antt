use Rattle.std.proofs.Common.{◌≡◌, ◌⊎◌, ◌+◌, ◌-◌, ◌*◌, ◌≤◌}
use Rattle.rfb_picture.specs.layout.PlaceSet.{NoneOpen}
use Rattle.rfb_picture.proofs.place_set.layers.Layers.next_open.Given as goal

-- the rows so far have no open cell; the search goes on where it was to begin, or at a row's start
abbrev pub invariant-loop-row : goal.invariant-loop-row
invariant-loop-row l = record {
  within : l.start ≤ l.across;
  reached : l.from ≤ l.row * l.across + l.start;
  begins : (l.start ≡ 0) ⊎ (l.row * l.across + l.start ≡ l.from);
  none : NoneOpen l.self l.from (l.row * l.across);
}

abbrev pub decreases-loop-row : goal.decreases-loop-row
decreases-loop-row l = l.self.full.height - l.row
