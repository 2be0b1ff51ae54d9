use Rattle.rfb_session.proofs.HopLifeLemmas.{told_lives, made_lives}
use Rattle.rfb_session.proofs.HopSeatLemmas.{keeps_copies, keeps_told}
use Rattle.rfb_session.proofs.law.seats.a_seat_lives_on_as_a_picture_changes.Goals as goal

pub returns : goal.returns
returns c = record {
  fed = λ serving old new bytes told k heard taken feeds lives.
      told_lives serving old new k heard taken (keeps_copies old feeds.mid new k feeds.relays) lives;
  failed = λ serving old new bytes fault k heard taken fails lives.
      told_lives serving old new k heard taken (keeps_copies old fails.mid new k fails.relays) lives;
  shown = λ serving old new other k heard taken shows lives.
      told_lives serving old new k heard taken (keeps_told old other new k shows) lives;
  called = λ serving old new was call before result after k heard taken makes lives.
      made_lives serving old new was call before result after k heard taken makes lives;
}
