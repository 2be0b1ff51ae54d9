-- Of the seats so far it is known for whom bytes wait for too long, and no other is in the set.
use Rattle.std.proofs.Common.{◌≡◌, ◌<◌, ◌≤◌, ℕ, false}
use Rattle.rfb_picture.specs.Places.{has_bit}
use Rattle.rfb_session.specs.console.Desk.{guest_at}
use Rattle.rfb_session.specs.console.Time.{is_stuck}
use Rattle.rfb_session.proofs.console.desk.Desk.stuck.Given as goal

abbrev pub invariant-loop-place : goal.invariant-loop-place
invariant-loop-place l = record {
  stuck : (k : ℕ) → k < l.place → has_bit l.stuck k ≡ is_stuck l.self.rules l.now (guest_at l.self k);
  later : (k : ℕ) → l.place ≤ k → has_bit l.stuck k ≡ false;
}
