-- `decode_sized` answers `Ok` to twelve hexadecimal digits alone.
use Rattle.std.proofs.Common.{true, false}
use Rattle.rfb_session.proofs.NumberLemmas.{are_components, found_decoded}
use Rattle.rfb_session.proofs.language.words.read_components.Goals as goal

pub returns-in_err-r-clause-found : goal.returns-in_err-r-clause-found
returns-in_err-r-clause-found c =
    rw c.from_residual.ensures (found_decoded _ 6 _ false c.from_hex.ensures c.in_err-r.ensures.variant)

pub returns-clause-found : goal.returns-clause-found
returns-clause-found c = found_decoded _ 6 _ true c.from_hex.ensures c.in_ok-r.ensures.variant

pub returns-clause-value : goal.returns-clause-value
returns-clause-value c =
    are_components c.args.word.now c.in_ok-r.field-0 c.from_hex.result
    (record { r = c.component.result; g = c.component-2.result; b = c.component-3.result })
    c.from_hex.ensures c.in_ok-r.ensures.value c.component.ensures c.component-2.ensures c.component-3.ensures
