use Rattle.std.proofs.Common.{◌≡◌, ℕ, true}
use Rattle.rfb_picture.specs.Places.{has_bit}
use Rattle.rfb_session.specs.ShareKin.{KnowAs}
use Rattle.rfb_session.proofs.share.meeting.alike_in.Given as goal

abbrev pub invariant-loop-place : goal.invariant-loop-place
invariant-loop-place l = (k : ℕ) → has_bit l.alike k ≡ true → KnowAs l.slots l.own k
