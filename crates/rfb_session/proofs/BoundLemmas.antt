-- How many bytes wait at most.
use Rattle.std.proofs.Common.{◌≡◌, ◌≤◌, ℕ, false, length, drop, length-drop, Option, Some, None, arith}
use Rattle.rfb_session.specs.declared.share.Share.{Share}
use Rattle.rfb_session.specs.declared.share.seat.ShareSeat.{ShareSeat}
use Rattle.rfb_session.specs.declared.share.waiting.Waiting.{Waiting}
use Rattle.rfb_session.specs.declared.share.waiting.Waiting.TheVariants.{Answers, Update, Shared}
use Rattle.rfb_session.specs.Share.{seat_in, waits_at, waiting_for, is_update_at, update_for}
use Rattle.rfb_session.specs.ShareRoom.{kept_in, answers_in}
use Rattle.rfb_session.specs.ShareSeats.{holds_update}

-- answers, where it is no update
few_kept : (waiting : Waiting) (written : ℕ) → answers_in waiting ≤ 297 → holds_update waiting ≡ false →
    length (drop written (kept_in waiting)) ≤ 297
few_kept (Answers answers) written few none = omega (arith, few, length-drop written answers.items)
few_kept (Update bytes) written few none = cc
few_kept (Shared bytes) written few none = cc

few_in : (o : Option ShareSeat) → update_for o ≡ false → length (waiting_for o) ≤ 297
few_in None none = omega arith
few_in (Some seat) none = few_kept seat.waiting seat.written seat.few none

pub few_answers : (share : Share) (k : ℕ) → is_update_at share k ≡ false → length (waits_at share k) ≤ 297
few_answers share k none = few_in (seat_in share k) none
