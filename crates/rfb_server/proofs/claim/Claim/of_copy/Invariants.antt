use Rattle.std.proofs.Common.{◌≡◌, ◌≤◌, ◌<◌, ◌+◌, ◌-◌, ℕ, true, false}
use Rattle.rfb_picture.specs.Rect.{contains}
use Rattle.rfb_picture.specs.Box.{is_in}
use Rattle.rfb_server.specs.Claims.{is_stale}
use Rattle.rfb_server.proofs.claim.Claim.of_copy.Given as goal

-- of the rows so far those that are not stale have sources without a mark
abbrev pub invariant-loop-row : goal.invariant-loop-row
invariant-loop-row l = record {
  within : l.row ≤ l.copy.to.h;
  unmarked : (x y : ℕ) → contains l.copy.to x y ≡ true → y < l.copy.to.y + l.row →
      is_stale l.stale y ≡ false →
      is_in l.marks (l.copy.sx + (x - l.copy.to.x)) (l.copy.sy + (y - l.copy.to.y)) ≡ false;
}

abbrev pub decreases-loop-row : goal.decreases-loop-row
decreases-loop-row l = l.copy.to.h - l.row
