use Rattle.std.proofs.Common.{arith, refl}
use Rattle.rfb_session.proofs.ArgumentLaws.{is_fill, no_fill, no_rect, not_fill}
use Rattle.rfb_session.proofs.language.arguments.read_fill.Goals as goal

pub returns-in_err-read_rect : goal.returns-in_err-read_rect
returns-in_err-read_rect c =
    rw c.from_residual.ensures (no_fill c.args.words.now _ (omega arith)
    (λ rect colour are is. no_rect c.in_err-read_rect.ensures.found are))

pub returns-in_err-read_colour : goal.returns-in_err-read_colour
returns-in_err-read_colour c =
    rw c.from_residual-in_err-read_colour.ensures (no_fill c.args.words.now _ (omega arith)
    (λ rect colour are is. let bad = c.in_err-read_colour.ensures.found.1 is.0 in cc))

pub returns : goal.returns
returns c =
    is_fill c.args.words.now _ (omega arith) _ _ c.in_ok-read_rect.ensures.value
    (c.in_ok-read_colour.ensures.found.0 refl) c.in_ok-read_colour.ensures.value

pub returns-in_default : goal.returns-in_default
returns-in_default c = not_fill c.args.words.now (λ e. omega (arith, e))

pub returns-in_default-2 : goal.returns-in_default-2
returns-in_default-2 c = not_fill c.args.words.now (λ e. omega (arith, e))
