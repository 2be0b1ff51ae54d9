-- `decode_sized` answers `Ok` to six hexadecimal digits alone.
use Rattle.std.proofs.Common.{true, false}
use Rattle.rfb_session.proofs.NumberLemmas.{found_decoded}
use Rattle.rfb_session.proofs.language.words.read_bytes.Goals as goal

pub returns-in_err-r-clause-found : goal.returns-in_err-r-clause-found
returns-in_err-r-clause-found c =
    rw c.from_residual.ensures (found_decoded _ 3 _ false c.from_hex.ensures c.in_err-r.ensures.variant)

pub returns-clause-found : goal.returns-clause-found
returns-clause-found c = found_decoded _ 3 _ true c.from_hex.ensures c.in_ok-r.ensures.variant
