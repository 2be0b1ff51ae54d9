-- The pieces so far are the pieces that came.
use Rattle.std.proofs.Common.{◌≡◌}
use Rattle.rfb_session.proofs.language.parting.pieces.Given as goal

abbrev pub invariant-loop-piece : goal.invariant-loop-piece
invariant-loop-piece l = l.pieces.items ≡ l.yielded
