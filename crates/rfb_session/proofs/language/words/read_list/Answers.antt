use Rattle.std.proofs.Common.{arith}
use Rattle.rfb_session.proofs.EncodingLemmas.{too_many_parts}
use Rattle.rfb_session.proofs.language.words.read_list.Goals as goal

pub returns-in_err-pieces : goal.returns-in_err-pieces
returns-in_err-pieces c = rw c.from_residual.ensures (too_many_parts _ (omega (arith, c.in_err-pieces.ensures)))

pub returns : goal.returns
returns c = rw (← c.in_ok-pieces.ensures, ← c.as_slice.ensures.value) c.read_encodings.ensures
