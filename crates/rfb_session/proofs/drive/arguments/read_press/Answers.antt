use Rattle.std.proofs.Common.{arith}
use Rattle.rfb_session.proofs.DriveArgumentLemmas.{no_press_three, no_press_two}
use Rattle.rfb_session.proofs.drive.arguments.read_press.Goals as goal

pub returns-in_err-read_at-in-len2 : goal.returns-in_err-read_at-in-len2
returns-in_err-read_at-in-len2 c =
    rw c.from_residual-in_err-read_at-in-len2.ensures
    (no_press_two c.args.words.now _ (omega arith) c.in_err-read_at-in-len2.ensures)

pub returns-in_err-read_at-in-len3 : goal.returns-in_err-read_at-in-len3
returns-in_err-read_at-in-len3 c =
    rw c.from_residual-in_err-read_at-in-len3.ensures
    (no_press_three c.args.words.now _ (omega arith) c.in_err-read_at-in-len3.ensures)
