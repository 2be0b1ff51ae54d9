use Rattle.std.proofs.Common.{◌≡◌, ℕ, ◌%◌, [], length, arith, ap}
use Rattle.std.proofs.lemmas.Grind.{common_steps}
use Rattle.std.proofs.lemmas.List.{nil_from_length}
use Rattle.std.proofs.lemmas.Bool.Decides.{nat_tests}
use Rattle.rfb_codec.specs.encoder.Background.{slot_of}
use Rattle.rfb_codec.proofs.CountLemmas.{background_found, led_alone}
use Rattle.rfb_codec.proofs.StepLemmas.{Settled, count_fits, counted_after, counted_aside, counted_first}
use Rattle.rfb_codec.proofs.StepLemmas.{more_than_allowed, slot_settled}
use Rattle.rfb_codec.proofs.choice.background.tally.Given.{Over}
use Rattle.rfb_codec.proofs.choice.background.tally.Goals.{In-Some}
use Rattle.rfb_codec.proofs.choice.background.tally.Goals as goal

-- the slot of the run belongs to a pixel
settled : (g : Over) (c : In-Some g) → Settled (slot_of g.row.SLOTS) g.row.SLOTS c.args.pixels.now c.claim.new.firsts
    c.loop-start.counts c.loop-start.aside.items c.loop-start.start c.loop-start.better c.loop-start.most
    c.claim.new.free c.args.free c.in-Some.first (c.hash-slot.result % g.row.SLOTS)
settled g c =
    slot_settled (ap (λ (h : ℕ). h % g.row.SLOTS) c.hash-slot.ensures) c.loop-start-test.true
    (omega (arith, c.requires.slots.0)) c.in-Some.ensures.some c.loop-start.invariant

pub returns-in_default-clause-stopped : goal.returns-in_default-clause-stopped
returns-in_default-clause-stopped g c =
    let e = ap (λ (h : ℕ). h % g.row.SLOTS) c.hash-slot.ensures in
    more_than_allowed (slot_of g.row.SLOTS) c.args.pixels.now c.loop-start.firsts c.loop-start.start c.args.free
    c.loop-start-test.true (rw e at c.in_default.ensures.none.0)
    (rw c.in_default.ensures.none.1 at c.loop-start.invariant.claimed)

pub overflow_add-count : goal.overflow_add-count
overflow_add-count g c =
    let fits = count_fits (settled g (goal.at.overflow_add-count g c).In-Some) c.run_end-end.ensures.some
    c.run_end-end.ensures.within c.run_end-end.ensures.run c.if-pixels-first.true in
    omega (arith, fits, c.requires.few)

pub loop-start-preserved-then-leads : goal.loop-start-preserved-then-leads
loop-start-preserved-then-leads g c =
    counted_first (settled g (goal.at.loop-start-preserved-then-leads g c).In-Some) c.run_end-end.ensures.some
    c.run_end-end.ensures.within c.run_end-end.ensures.run c.if-pixels-first.true
    (rw (← c.from.ensures, ← c.from-then-pixels-first.ensures) c.if-leads.ensures.yes)

pub loop-start-preserved-else-leads : goal.loop-start-preserved-else-leads
loop-start-preserved-else-leads g c =
    counted_after (settled g (goal.at.loop-start-preserved-else-leads g c).In-Some) c.run_end-end.ensures.some
    c.run_end-end.ensures.within c.run_end-end.ensures.run c.if-pixels-first.true
    (rw (← c.from.ensures, ← c.from-then-pixels-first.ensures) c.if-leads.ensures.no)

pub loop-start-preserved : goal.loop-start-preserved
loop-start-preserved g c =
    rw c.if-not-put_aside.ensures.all (counted_aside (settled g (goal.at.loop-start-preserved g c).In-Some)
    c.run_end-end.ensures.some c.run_end-end.ensures.within c.run_end-end.ensures.run c.if-pixels-first.false)

pub returns-then-is_empty-clause-found : goal.returns-then-is_empty-clause-found
returns-then-is_empty-clause-found g c =
    let l = c.loop-start in
    let zero_left : length l.aside.items ≡ 0 = grind (arith, nat_tests, c.if-is_empty.ensures) in
    let none : l.aside.items ≡ [] = nil_from_length l.aside.items zero_left in
    background_found (slot_of g.row.SLOTS) c.args.pixels.now l.firsts l.counts [] l.start l.better l.most
    l.better c.loop-start-test.false (rw none at l.invariant.tallied) (led_alone l.better l.most)

pub returns-clause-found : goal.returns-clause-found
returns-clause-found g c =
    let l = c.loop-start in
    background_found (slot_of g.row.SLOTS) c.args.pixels.now l.firsts l.counts l.aside.items
    l.start l.better l.most c.with_aside.result c.loop-start-test.false l.invariant.tallied
    (rw (← c.from-2.ensures) c.with_aside.ensures)

pub loop-start-init : goal.loop-start-init
loop-start-init g c = grind (arith, common_steps)
