use Rattle.std.proofs.Common.{◌≡◌, ◌<◌, ◌+◌, ℕ, false, take}
use Rattle.std.specs.List.{list_any}
use Rattle.rfb_server.specs.Claims.{has_row, is_stale}
use Rattle.rfb_server.proofs.claim.stale.Stale.moved.Given as goal

-- the runs so far were moved
abbrev pub invariant-loop-i : goal.invariant-loop-i
invariant-loop-i l = (s y : ℕ) → y + l.from ≡ s + l.to → y < 65535 → is_stale l.stale y ≡ false →
    list_any (λ rows. has_row rows s) (take l.i l.self.runs) ≡ false
