-- The copies so far are told.
use Rattle.std.proofs.Common.{take}
use Rattle.rfb_session.specs.ShareMoves.{GetsMoves}
use Rattle.rfb_session.proofs.share.mirroring.telling.tell_moves.Given as goal

abbrev pub invariant-loop-copy : goal.invariant-loop-copy
invariant-loop-copy l = GetsMoves l.picture (take l.copy-index l.moves) l.fn.seat l.seat
