use Rattle.std.proofs.Common.{arith, sym}
use Rattle.rfb_session.proofs.KeyLemmas.{all_keys, unknown_name}
use Rattle.rfb_session.proofs.drive.keys.keys_of.Goals as goal

pub returns-in_err-key_of : goal.returns-in_err-key_of
returns-in_err-key_of c =
    rw c.from_residual.ensures (unknown_name c.args.names.now c.loop-name.name-index _ (omega arith)
    (sym c.in_err-key_of.ensures))

pub returns : goal.returns
returns c = (all_keys c.args.names.now c.loop-name.name-index _ (omega arith) c.loop-name.invariant.named, omega arith)
