-- Nobody at the seats so far waits.
use Rattle.std.proofs.Common.{◌<◌, ℕ}
use Rattle.rfb_session.specs.Share.{seat_in}
use Rattle.rfb_session.specs.ShareWaiters.{HasAskedIn}
use Rattle.rfb_session.proofs.share.Share.is_asked.Given as goal

abbrev pub invariant-loop-place : goal.invariant-loop-place
invariant-loop-place l = (k : ℕ) → k < l.place → HasAskedIn (seat_in l.self k) → ⊥
