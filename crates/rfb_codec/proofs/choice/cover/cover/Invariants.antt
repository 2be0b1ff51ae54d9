use Rattle.std.proofs.Common.{◌+◌, ◌^◌, ◌<◌, ◌≤◌}
use Rattle.arrayvec.specs.ArrayVec.{array_vec_len}
use Rattle.rfb_codec.specs.encoder.Cover.{TellsLeft}
use Rattle.rfb_codec.proofs.RuleLemmas.{Chosen, TellRows}
use Rattle.rfb_codec.proofs.choice.cover.cover.Given as goal

-- the rows from this one on have their bits
abbrev pub invariant-loop-y : goal.invariant-loop-y
invariant-loop-y g l = record {
  chosen : Chosen l.width l.height l.y l.pixels l.background l.subs.items;
  tell : TellRows l.width l.height l.y l.pixels l.background l.subs.items l.rows;
  few : array_vec_len l.subs ≤ l.limit;
}

-- and this one's are apart
abbrev pub invariant-loop-left : goal.invariant-loop-left
invariant-loop-left g l = record {
  chosen : Chosen l.width l.height l.y l.pixels l.background l.subs.items;
  tells : TellsLeft l.width l.pixels l.background l.subs.items l.y l.left;
  tell : TellRows l.width l.height (l.y + 1) l.pixels l.background l.subs.items l.rows;
  few : array_vec_len l.subs ≤ l.limit;
  fits : l.left < 2 ^ 64;
}

abbrev pub decreases-loop-left : goal.decreases-loop-left
decreases-loop-left g l = l.left
