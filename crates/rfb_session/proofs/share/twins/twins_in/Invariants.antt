use Rattle.std.proofs.Common.{◌≡◌, ℕ, true}
use Rattle.rfb_picture.specs.Places.{has_bit}
use Rattle.rfb_session.specs.ShareTwins.{IsTwinIn}
use Rattle.rfb_session.proofs.share.twins.twins_in.Given as goal

abbrev pub invariant-loop-place : goal.invariant-loop-place
invariant-loop-place l = record {
  twins : (k : ℕ) → has_bit l.twins k ≡ true → IsTwinIn l.slots l.own k;
  within : (k : ℕ) → has_bit l.twins k ≡ true → has_bit l.others k ≡ true;
}
