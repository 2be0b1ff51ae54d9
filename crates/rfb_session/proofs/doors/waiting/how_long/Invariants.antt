-- None of the doors so far is both ready and wanted.
use Rattle.std.proofs.Common.{ℕ, ◌<◌}
use Rattle.rfb_session.specs.doors.Wants.{IsWanted}
use Rattle.rfb_session.proofs.doors.waiting.how_long.Given as goal

abbrev pub invariant-loop-door : goal.invariant-loop-door
invariant-loop-door g l =
    (d : ℕ) → d < l.door →
    IsWanted g.C.Core.space g.C.Core.waiting g.K.Clock.readable g.K.Clock.writable l.core l.clock d → ⊥
