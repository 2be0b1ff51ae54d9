use Rattle.std.proofs.Common.{◌∙◌, sym, ap, ℕ}
use Rattle.rfb_picture.specs.Places.{has_bit}
use Rattle.rfb_session.proofs.KinLemmas.{alike_more}
use Rattle.rfb_session.proofs.share.meeting.alike_in.Goals as goal
use Rattle.rfb_session.proofs.share.meeting.alike_in.Goals.{then-are_alike, else-are_alike}

pub loop-place-preserved : goal.loop-place-preserved
loop-place-preserved c = λ k e.
    let l = c.loop-place in
    elim c.if-are_alike.branch [
      | then-are_alike w ↦ alike_more c.args.slots.now c.args.own l.place l.alike w.with-alike.result w.at.result
          w.at.ensures w.with-alike.ensures w.if-are_alike.ensures l.invariant k
          (ap (λ (n : ℕ). has_bit n k) (sym w.alike-is) ∙ e)
      | else-are_alike w ↦ l.invariant k (ap (λ (n : ℕ). has_bit n k) (sym w.alike-is) ∙ e)
    ]
