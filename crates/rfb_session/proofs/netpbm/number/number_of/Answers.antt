use Rattle.std.proofs.Common.{◌+◌, get_or, take, arith}
use Rattle.std.proofs.lemmas.List.{take_more}
use Rattle.rfb_session.proofs.NetpbmNumberLemmas.{digit_at, value_more}
use Rattle.rfb_session.proofs.netpbm.number.number_of.Goals as goal

pub overflow_sub-digit : goal.overflow_sub-digit
overflow_sub-digit c = (digit_at c.args.digits.now c.loop-digit.digit-index c.requires (omega arith)).0

pub loop-digit-preserved : goal.loop-digit-preserved
loop-digit-preserved c =
    let digits = c.args.digits.now in
    let i = c.loop-digit.digit-index in
    let more = take_more digits i 0 (omega arith) in
    let value = value_more (take i digits) (take (i + 1) digits) (get_or digits i 0) more in
    omega (arith, value, c.loop-digit.invariant, c.from.ensures, c.min-number.ensures)
