use Rattle.std.proofs.Common.{◌+◌, ◌-◌, ◌<◌, ◌≤◌}
use Rattle.rfb_picture.specs.Box.{IsClear}
use Rattle.rfb_server.specs.update.Needs.{needs_of}
use Rattle.rfb_server.proofs.session.Session.last_row.Given as goal

-- no row below has such a place
abbrev pub invariant-loop-last : goal.invariant-loop-last
invariant-loop-last l = record {
  order : (l.top ≤ l.last) × (l.last < l.zone.y + l.zone.h);
  below : IsClear (needs_of l.screen l.self) l.zone.x (l.zone.x + l.zone.w) (l.last + 1) (l.zone.y + l.zone.h);
}

abbrev pub decreases-loop-last : goal.decreases-loop-last
decreases-loop-last l = l.last - l.top
