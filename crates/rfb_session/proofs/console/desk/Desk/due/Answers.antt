use Rattle.std.proofs.Common.{ℕ, ◌+◌, sym, subst, arith, inl, inr}
use Rattle.std.proofs.lemmas.Bool.Decides.{eqb_tells}
use Rattle.rfb_session.specs.console.Desk.{guest_at}
use Rattle.rfb_session.specs.console.Turns.{WakesFor}
use Rattle.rfb_session.proofs.WakeLemmas.{end_sooner, wakes_sooner, hold_sooner, left_sooner, wakes_read}
use Rattle.rfb_session.proofs.console.desk.Desk.due.Goals as goal

pub loop-place-init : goal.loop-place-init
loop-place-init c =
    let desk = c.args.self.now in
    record {
      guests = λ k none. absurd (omega (arith, none));
      hold = hold_sooner c.hold_ends.result c.sooner-next.result
          (λ limit by. c.sooner-next.ensures.first limit (c.sooner-ends.ensures.first limit by))
          desk.rules.hold desk.hold c.hold_ends.ensures;
      again = λ wants. c.sooner-next.ensures.second (c.args.now + 100) (c.goes_on.ensures.again wants);
      left = left_sooner c.goes_on.result c.sooner-next.result c.sooner-next.ensures.second c.args.now
          c.args.round.last c.goes_on.ensures.left;
      later = λ busy. end_sooner c.busy_ends.result c.sooner-next.result
          (λ limit by. c.sooner-next.ensures.first limit (c.sooner-ends.ensures.second limit by))
          100 desk.large (c.busy_ends.ensures busy);
    }

pub loop-place-preserved : goal.loop-place-preserved
loop-place-preserved c =
    let desk = c.args.self.now in
    let place = c.loop-place.place in
    let before = c.loop-place.invariant in
    let next = c.sooner-next-in-loop-place in
    record {
      guests = λ k within. elim (eqb_tells k place) [
        | inl same ↦
            subst (λ (n : ℕ). WakesFor desk.rules (guest_at desk n) next.result) (sym same.1)
            (wakes_sooner c.due.result next.result next.ensures.second desk.rules (guest_at desk place)
            (wakes_read desk.rules desk.guests place _ c.due.result
            (omega (arith, c.loop-place-test.true, desk.eight)) c.due.ensures))
        | inr other ↦
            wakes_sooner c.loop-place.next next.result next.ensures.first desk.rules (guest_at desk k)
            (before.guests k (omega (arith, within, other.1)))
      ];
      hold = hold_sooner c.loop-place.next next.result next.ensures.first desk.rules.hold desk.hold before.hold;
      again = λ wants. next.ensures.first (c.args.now + 100) (before.again wants);
      left = left_sooner c.loop-place.next next.result next.ensures.first c.args.now c.args.round.last before.left;
      later = λ busy. end_sooner c.loop-place.next next.result next.ensures.first 100 desk.large (before.later busy);
    }
