use Rattle.std.proofs.Common.{arith}
use Rattle.rfb_session.proofs.ArgumentLaws.{is_move, no_move, no_rect, not_move}
use Rattle.rfb_session.proofs.language.arguments.read_move.Goals as goal

pub returns-in_err-read_rect : goal.returns-in_err-read_rect
returns-in_err-read_rect c =
    rw c.from_residual.ensures (no_move c.args.words.now _ (omega arith)
    (λ rect are column row. no_rect c.in_err-read_rect.ensures.found are))

pub returns-in_err-read_number : goal.returns-in_err-read_number
returns-in_err-read_number c =
    rw c.from_residual-in_err-read_number.ensures (no_move c.args.words.now _ (omega arith)
    (λ rect are column row. c.in_err-read_number.ensures column))

pub returns-in_err-read_number-2 : goal.returns-in_err-read_number-2
returns-in_err-read_number-2 c =
    rw c.from_residual-in_err-read_number-2.ensures (no_move c.args.words.now _ (omega arith)
    (λ rect are column row. c.in_err-read_number-2.ensures row))

pub returns : goal.returns
returns c =
    is_move c.args.words.now _ (omega arith) _ _ _ c.in_ok-read_rect.ensures.value c.in_ok-read_number.ensures
    c.in_ok-read_number-2.ensures

pub returns-in_default : goal.returns-in_default
returns-in_default c = not_move c.args.words.now (λ e. omega (arith, e))

pub returns-in_default-2 : goal.returns-in_default-2
returns-in_default-2 c = not_move c.args.words.now (λ e. omega (arith, e))
