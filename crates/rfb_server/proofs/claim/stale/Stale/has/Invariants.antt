use Rattle.std.proofs.Common.{◌≡◌, false, take}
use Rattle.std.specs.List.{list_any}
use Rattle.rfb_server.specs.Claims.{has_row}
use Rattle.rfb_server.proofs.claim.stale.Stale.has.Given as goal

abbrev pub invariant-loop-i : goal.invariant-loop-i
invariant-loop-i l = list_any (λ rows. has_row rows l.y) (take l.i l.self.runs) ≡ false
