-- A turn is wanted in time for the seats so far, for the hold, where memory was wanting, and where seats are left.
use Rattle.std.proofs.Common.{◌≡◌, ◌<◌, ◌+◌, ℕ, true}
use Rattle.rfb_session.specs.console.Desk.{guest_at}
use Rattle.rfb_session.specs.console.Time.{IsBy, IsByEnd}
use Rattle.rfb_session.specs.console.Turns.{WakesFor, WakesAt, WakesAfter}
use Rattle.rfb_session.proofs.console.desk.Desk.due.Given as goal

abbrev pub invariant-loop-place : goal.invariant-loop-place
invariant-loop-place l = record {
  guests : (k : ℕ) → k < l.place → WakesFor l.self.rules (guest_at l.self k) l.next;
  hold : WakesAt l.self.rules.hold l.self.hold l.next;
  again : l.fn.round.wants ≡ true → IsBy (l.now + 100) l.next;
  left : WakesAfter l.now l.fn.round.last l.next;
  later : l.fn.is_busy ≡ true → IsByEnd 100 l.self.large l.next;
}
