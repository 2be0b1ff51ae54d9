use Rattle.std.proofs.Common.{◌≡◌, ◌*◌, ◌%◌, ◌^◌, sym, ◌∙◌, arith}
use Rattle.std.proofs.lemmas.Bool.Decides.{nat_tests}
use Rattle.std.proofs.lemmas.Nat.{one_shl}
use Rattle.rfb_session.proofs.SlotLemmas.{one_bit}
use Rattle.rfb_session.proofs.slots.end.Goals as goal

pub returns-clause-bit : goal.returns-clause-bit
returns-clause-bit g c = λ j.
    let e : 1 * 2 ^ c.args.k % 256 ≡ 2 ^ c.args.k = one_shl c.args.k 8 c.requires in
    let taken = sym c.empty.ensures.taken ∙ c.if-not-empty.false in
    rw (e, one_bit c.args.k j, taken) (grind (arith, nat_tests, c.if-k-own.false))
