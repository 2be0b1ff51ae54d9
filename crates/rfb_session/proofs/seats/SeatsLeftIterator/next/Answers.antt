use Rattle.std.proofs.Common.{◌≡◌, ◌/◌, ◌^◌, true, false, nat_eq, bit_and, length, sym, ap, ◌∙◌, rules, arith}
use Rattle.std.proofs.lemmas.Bool.Decides.{nat_tests}
use Rattle.rfb_session.proofs.SeatsLemmas.{seat_next, seat_skipped, none_left, bit_is}
use Rattle.rfb_session.proofs.seats.SeatsLeftIterator.next.Goals as goal

pub returns-then-self-number-eq1-clause-steps : goal.returns-then-self-number-eq1-clause-steps
returns-then-self-number-eq1-clause-steps c =
    let s = c.loop-self.self in
    let set : nat_eq (bit_and (s.bits / 2 ^ s.at) 1) 1 ≡ true = rw c.if-self-number-eq1.true (search rules) in
    rw c.at.ensures (sym c.loop-self.invariant
    ∙ seat_next s.bits s.at c.loop-self-test.true (bit_is s.bits s.at true set))

pub returns-then-self-number-eq1-clause-goes : goal.returns-then-self-number-eq1-clause-goes
returns-then-self-number-eq1-clause-goes c =
    let s = c.loop-self.self in
    let set : nat_eq (bit_and (s.bits / 2 ^ s.at) 1) 1 ≡ true = rw c.if-self-number-eq1.true (search rules) in
    let fewer = ap (λ xs. length xs) (sym c.loop-self.invariant
    ∙ seat_next s.bits s.at c.loop-self-test.true (bit_is s.bits s.at true set)) in
    record { on = λ finite. (tt, tt, omega (arith, fewer)); keeps = tt; rests = λ finite. tt }

pub loop-self-preserved : goal.loop-self-preserved
loop-self-preserved c =
    let s = c.loop-self.self in
    let clear : nat_eq (bit_and (s.bits / 2 ^ s.at) 1) 1 ≡ false =
    grind (arith, nat_tests, c.if-self-number-eq1.false) in
    sym (seat_skipped s.bits s.at c.loop-self-test.true (bit_is s.bits s.at false clear))
    ∙ c.loop-self.invariant

pub returns-clause-steps : goal.returns-clause-steps
returns-clause-steps c =
    let s = c.loop-self.self in
    let none = none_left s.bits s.at (λ below. absurd (omega (arith, below, c.loop-self-test.false))) in
    (sym c.loop-self.invariant ∙ none, none)
