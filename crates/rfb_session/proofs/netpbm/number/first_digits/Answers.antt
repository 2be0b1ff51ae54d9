use Rattle.std.proofs.Common.{List, ℕ, get_or, sym, subst, take, arith}
use Rattle.std.proofs.lemmas.List.{take_more}
use Rattle.rfb_session.specs.netpbm.Number.{AreDigits}
use Rattle.rfb_session.proofs.NetpbmNumberLemmas.{digits_more}
use Rattle.rfb_session.proofs.netpbm.number.first_digits.Goals as goal

pub loop-count-preserved : goal.loop-count-preserved
loop-count-preserved c =
    let bytes = c.args.bytes.now in
    let i = c.loop-count.count in
    let more = take_more bytes i 0 (omega arith) in
    subst (λ (l : List ℕ). AreDigits l) (sym more)
    (digits_more (take i bytes) (get_or bytes i 0) c.loop-count.invariant c.if-not-is_ascii_digit.ensures.cases)
