use Rattle.std.proofs.Common.{◌-◌, ◌≤◌}
use Rattle.rfb_picture.specs.Places.{NoneInRow}
use Rattle.rfb_server.specs.update.Needs.{needs_of}
use Rattle.rfb_server.proofs.session.Session.first_needed.Given as goal

-- none was found so far
abbrev pub invariant-loop-at : goal.invariant-loop-at
invariant-loop-at l = record {
  order : (l.from ≤ l.at) × (l.at ≤ l.to);
  none : NoneInRow (needs_of l.screen l.self) l.y l.from l.at;
}

abbrev pub decreases-loop-at : goal.decreases-loop-at
decreases-loop-at l = l.to - l.at
