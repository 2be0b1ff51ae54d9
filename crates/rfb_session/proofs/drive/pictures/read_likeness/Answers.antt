use Rattle.std.proofs.Common.{arith, inl, inr}
use Rattle.rfb_session.proofs.DriveArgumentLemmas.{no_likeness, none_within_five}
use Rattle.rfb_session.proofs.drive.pictures.read_likeness.Goals as goal

pub returns-in_err-read_after_at-in-len3 : goal.returns-in_err-read_after_at-in-len3
returns-in_err-read_after_at-in-len3 c =
    rw c.from_residual-in_err-read_after_at-in-len3.ensures
    (no_likeness c.args.words.now _ (inl (omega arith)) c.in_err-read_after_at-in-len3.ensures)

pub returns-in_err-read_after_at-in-len5 : goal.returns-in_err-read_after_at-in-len5
returns-in_err-read_after_at-in-len5 c =
    rw c.from_residual-in_err-read_after_at-in-len5.ensures
    (no_likeness c.args.words.now _ (inr (omega arith)) c.in_err-read_after_at-in-len5.ensures)

pub returns-in_err-read_within-in-len5 : goal.returns-in_err-read_within-in-len5
returns-in_err-read_within-in-len5 c =
    rw c.from_residual-in_err-read_within-in-len5.ensures
    (none_within_five c.args.words.now _ (omega arith) c.in_err-read_within-in-len5.ensures)
