use Rattle.std.proofs.Common.{◌≡◌, ℕ, ◌≤◌, ◌<◌, length, get_or, take, ap, ◌∙◌}
use Rattle.std.proofs.lemmas.List.{take_all}
use Rattle.std.proofs.lemmas.List.Sorted.{IsNonDecreasingBy-from_sort}
use Rattle.rfb_codec.specs.Choice.{places_of}
use Rattle.rfb_codec.proofs.PlacesLemmas.{places-sorted}
use Rattle.rfb_codec.proofs.TallyLemmas.{led_all, passed_after, passed_first, sort_left}
use Rattle.rfb_codec.proofs.choice.background.with_aside.Given.{Over}
use Rattle.rfb_codec.proofs.choice.background.with_aside.Goals.{After-as_slice-sorted}
use Rattle.rfb_codec.proofs.choice.background.with_aside.Goals as goal

-- the places are those that the sort left
left : (g : Over) (c : After-as_slice-sorted g) → c.as_slice-sorted.result.now ≡ c.sort_unstable.new.self
left g c = sort_left c.args.aside.now.items c.as_slice-sorted.result.now c.sort_unstable.new.self
    (c.sort_unstable.ensures.len ∙ ap length c.as_mut_slice.ensures.value) c.as_slice-sorted.ensures.value

-- so they rise
rise : (g : Over) (c : After-as_slice-sorted g) →
    (i j : ℕ) → i ≤ j → j < length c.as_slice-sorted.result.now →
    get_or c.as_slice-sorted.result.now i 0 ≤ get_or c.as_slice-sorted.result.now j 0
rise g c =
    let order = IsNonDecreasingBy-from_sort (λ (x : ℕ). x) c.sort_unstable.new.self c.sort_unstable.ensures.sorted in
    rw (left g c) (λ i j from below. order i j 0 from below)

pub loop-start-preserved-then-leads : goal.loop-start-preserved-then-leads
loop-start-preserved-then-leads g c =
    let run = c.run_end-end.ensures in
    passed_first c.loop-start-test.true run.some run.within run.run run.other
    (rise g (goal.at.loop-start-preserved-then-leads g c).After-as_slice-sorted) c.loop-start.invariant
    c.if-leads.ensures.yes

pub loop-start-preserved : goal.loop-start-preserved
loop-start-preserved g c =
    passed_after c.loop-start-test.true c.run_end-end.ensures.some c.run_end-end.ensures.within
    c.run_end-end.ensures.run c.run_end-end.ensures.other
    (rise g (goal.at.loop-start-preserved g c).After-as_slice-sorted) c.loop-start.invariant c.if-leads.ensures.no

pub returns : goal.returns
returns g c =
    let sorted = c.as_slice-sorted.result.now in
    let same : (p : ℕ) → places_of p sorted ≡ places_of p c.args.aside.now.items =
    λ p. rw (left g (goal.at.returns g c).After-as_slice-sorted, ← c.as_mut_slice.ensures.value)
    (places-sorted p c.as_mut_slice.result.now c.sort_unstable.new.self c.sort_unstable.ensures.permutation) in
    let all : take c.loop-start.start sorted ≡ sorted = take_all c.loop-start.start sorted (c.loop-start-test.false) in
    led_all c.args.aside.now.items sorted c.args.better c.args.most c.loop-start.better c.loop-start.most same
    (rw all at c.loop-start.invariant.led)
