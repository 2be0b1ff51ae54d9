use Rattle.std.proofs.Common.{arith}
use Rattle.rfb_session.proofs.ArgumentLaws.{no_size, not_size}
use Rattle.rfb_session.proofs.language.arguments.read_size.Goals as goal

pub returns-in_err-read_side : goal.returns-in_err-read_side
returns-in_err-read_side c =
    rw c.from_residual.ensures (no_size c.args.words.now _ (omega arith)
    (λ wide high. let bad = c.in_err-read_side.ensures.found.1 wide in cc))

pub returns-in_err-read_side-2 : goal.returns-in_err-read_side-2
returns-in_err-read_side-2 c =
    rw c.from_residual-in_err-read_side-2.ensures (no_size c.args.words.now _ (omega arith)
    (λ wide high. let bad = c.in_err-read_side-2.ensures.found.1 high in cc))

pub returns-in_default : goal.returns-in_default
returns-in_default c = not_size c.args.words.now (λ e. omega (arith, e))

pub returns-in_default-2 : goal.returns-in_default-2
returns-in_default-2 c = not_size c.args.words.now (λ e. omega (arith, e))
