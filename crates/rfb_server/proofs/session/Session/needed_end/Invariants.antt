use Rattle.std.proofs.Common.{◌≤◌, ◌-◌}
use Rattle.rfb_picture.specs.Places.{NoneInRow}
use Rattle.rfb_server.specs.update.Needs.{needs_of}
use Rattle.rfb_server.proofs.session.Session.needed_end.Given as goal

-- none was found after the column
abbrev pub invariant-loop-end : goal.invariant-loop-end
invariant-loop-end l = record {
  order : (l.from ≤ l.end) × (l.end ≤ l.to);
  none : NoneInRow (needs_of l.screen l.self) l.y l.end l.to;
}

abbrev pub decreases-loop-end : goal.decreases-loop-end
decreases-loop-end l = l.end - l.from
