use Rattle.std.proofs.Common.{◌≡◌, ◌∙◌, ap, arith, cond}
use Rattle.std.specs.Prelude.{ℕ, Bool}
use Rattle.rfb_session.proofs.NearLemmas.{far_more, far_none, one_at_most, one_unless}
use Rattle.rfb_session.proofs.drive.near.count_far.Goals as goal

pub loop-place-init : goal.loop-place-init
loop-place-init c = record { counted = far_none c.args.within; few = omega arith }

pub loop-place-preserved : goal.loop-place-preserved
loop-place-preserved c =
    let l = c.loop-place in
    let a = c.args.row.now in
    let b = c.args.expected.now in
    let more = far_more c.args.within a b l.place (record { r = 0; g = 0; b = 0 }) (omega arith) (omega arith) in
    let one : c.from-count.result ≡ cond c.is_near.result 0 1 = c.from-count.ensures ∙ one_unless c.is_near.result in
    let same = ap {B = ℕ} (λ (near : Bool). cond near 0 1) c.is_near.ensures in
    record {
      counted = omega (arith, l.invariant.counted, one, same, more);
      few = omega (arith, l.invariant.few, one, one_at_most c.is_near.result);
    }
