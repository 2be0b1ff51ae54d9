use Rattle.std.proofs.Common.{◌≡◌, ◌<◌, ℕ, true}
use Rattle.rfb_session.specs.Slots.{seat_at, is_taken}
use Rattle.rfb_session.proofs.slots.first_empty.Given as goal

abbrev pub invariant-loop-k : goal.invariant-loop-k
invariant-loop-k g l = (j : ℕ) → j < l.k → is_taken (seat_at j l.slots) ≡ true
