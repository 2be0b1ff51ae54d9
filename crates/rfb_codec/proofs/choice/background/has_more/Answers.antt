use Rattle.std.proofs.Common.{ℕ, ◌%◌, ◌<◌, length, arith, ap, ◌∙◌}
use Rattle.std.proofs.lemmas.List.{length-set}
use Rattle.rfb_codec.specs.encoder.Background.{slot_of}
use Rattle.rfb_codec.proofs.StepLemmas.{claimed_more, more_than_allowed}
use Rattle.rfb_codec.proofs.choice.background.has_more.Goals as goal
use Rattle.rfb_codec.proofs.choice.background.has_more.Goals.{then-taken-slot-eq0+else-free-eq0, else-taken-slot-eq0}

pub returns-then-free-eq0 : goal.returns-then-free-eq0
returns-then-free-eq0 g c =
    let e = ap (λ (h : ℕ). h % g.row.SLOTS) c.hash-slot.ensures in
    let l = c.loop-place in
    more_than_allowed (slot_of g.row.SLOTS) c.args.pixels.now l.taken l.place c.args.most c.loop-place-test.true
    (rw e at c.if-taken-slot-eq0.true) (rw c.if-free-eq0.true at l.invariant.claimed)

pub loop-place-preserved : goal.loop-place-preserved
loop-place-preserved g c =
    let e = ap (λ (h : ℕ). h % g.row.SLOTS) c.hash-slot.ensures in
    let l = c.loop-place in
    let at = c.hash-slot.result % g.row.SLOTS in
    let below : at < g.row.SLOTS = omega (arith, c.requires.slots.0) in
    let fits : at < length l.taken = omega (arith, l.invariant.sized, below) in
    elim c.if-taken-slot-eq0.branch [
      | then-taken-slot-eq0+else-free-eq0 w ↦
          rw (w.taken-is, w.free-is) (record {
            sized = length-set l.taken at 1 ∙ l.invariant.sized;
            claimed = rw e (claimed_more (slot_of g.row.SLOTS) c.args.pixels.now l.taken l.place l.free c.args.most 1
                c.loop-place-test.true (rw e at fits) (rw e at w.if-taken-slot-eq0.true) w.if-free-eq0.false
                (omega arith) l.invariant.claimed);
          })
      | else-taken-slot-eq0 w ↦ rw (w.taken-is, w.free-is) l.invariant
    ]
