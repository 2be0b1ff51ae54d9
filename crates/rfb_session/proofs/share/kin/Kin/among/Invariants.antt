-- The seats so far that are kin are some of the others.
use Rattle.std.proofs.Common.{◌≡◌, ℕ, true}
use Rattle.rfb_picture.specs.Places.{has_bit}
use Rattle.rfb_session.proofs.share.kin.Kin.among.Given as goal

abbrev pub invariant-loop-place : goal.invariant-loop-place
invariant-loop-place l = (k : ℕ) → has_bit l.kin k ≡ true → has_bit l.others k ≡ true
