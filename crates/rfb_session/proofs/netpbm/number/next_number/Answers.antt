use Rattle.rfb_session.proofs.NetpbmNumberLemmas.{next_found, next_missing, none_there, some_there}
use Rattle.rfb_session.proofs.netpbm.number.next_number.Goals as goal

pub returns-then-is_empty : goal.returns-then-is_empty
returns-then-is_empty c =
    next_missing c.args.bytes.now c.after_gap.result.now c.first_digits.result.0.now c.first_digits.result.1.now
    c.after_gap.ensures c.first_digits.ensures
    (none_there _ c.is_empty.result c.is_empty.ensures c.if-is_empty.true)

pub returns : goal.returns
returns c =
    next_found c.args.bytes.now c.after_gap.result.now c.first_digits.result.0.now c.first_digits.result.1.now
    c.after_gap.ensures c.first_digits.ensures
    (some_there _ c.is_empty.result c.is_empty.ensures c.if-is_empty.false)
