use Rattle.std.proofs.Common.{◌≡◌, ◌≤◌, ◌<◌, ℕ, false, take}
use Rattle.std.specs.List.{list_any}
use Rattle.rfb_server.specs.Claims.{has_row}
use Rattle.rfb_server.proofs.claim.stale.Stale.first_from.Given as goal

-- no run so far has a row before that one
abbrev pub invariant-loop-i : goal.invariant-loop-i
invariant-loop-i l = record {
  order : (l.y ≤ l.first) × (l.first ≤ l.end);
  fresh : (z : ℕ) → l.y ≤ z → z < l.first → list_any (λ rows. has_row rows z) (take l.i l.self.runs) ≡ false;
}
