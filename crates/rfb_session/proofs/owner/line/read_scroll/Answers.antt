use Rattle.std.proofs.Common.{arith}
use Rattle.rfb_session.proofs.ArgumentLaws.{no_rect}
use Rattle.rfb_session.proofs.OwnerLineLemmas.{is_scroll, no_scroll, not_scroll}
use Rattle.rfb_session.proofs.owner.line.read_scroll.Goals as goal

pub returns-in_err-read_shift : goal.returns-in_err-read_shift
returns-in_err-read_shift c =
    rw c.from_residual-in_err-read_shift.ensures (no_scroll c.args.words.now _ (omega arith)
    (λ rect dx dy are columns rows. c.in_err-read_shift.ensures dx columns))

pub returns-in_err-read_shift-2 : goal.returns-in_err-read_shift-2
returns-in_err-read_shift-2 c =
    rw c.from_residual-in_err-read_shift-2.ensures (no_scroll c.args.words.now _ (omega arith)
    (λ rect dx dy are columns rows. c.in_err-read_shift-2.ensures dy rows))

pub returns : goal.returns
returns c =
    is_scroll c.args.words.now _ (omega arith) _ _ _ c.in_ok-read_rect.ensures.value c.in_ok-read_shift.ensures
    c.in_ok-read_shift-2.ensures

pub returns-in_err-read_rect : goal.returns-in_err-read_rect
returns-in_err-read_rect c =
    rw c.from_residual.ensures (no_scroll c.args.words.now _ (omega arith)
    (λ rect dx dy are columns rows. no_rect c.in_err-read_rect.ensures.found are))

pub returns-in_default : goal.returns-in_default
returns-in_default c = not_scroll c.args.words.now (λ e. omega (arith, e))

pub returns-in_default-2 : goal.returns-in_default-2
returns-in_default-2 c = not_scroll c.args.words.now (λ e. omega (arith, e))
