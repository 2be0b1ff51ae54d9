-- The seats so far have their new numbers, and the others what they had.
use Rattle.std.proofs.Common.{◌≡◌, ◌<◌, ◌≤◌, ℕ, length, if◌then◌else◌, slice_index_or}
use Rattle.rfb_session.specs.ShareKin.{is_met}
use Rattle.rfb_session.proofs.share.kin.Kin.renumbered.Given as goal

abbrev pub invariant-loop-place : goal.invariant-loop-place
invariant-loop-place l = record {
  size : length l.new ≡ length l.numbers;
  done : (k : ℕ) → k < l.place → slice_index_or l.new k 0 ≡
      (if is_met l.own l.others k then l.number else slice_index_or l.numbers k 0);
  left : (k : ℕ) → l.place ≤ k → slice_index_or l.new k 0 ≡ slice_index_or l.numbers k 0;
}
