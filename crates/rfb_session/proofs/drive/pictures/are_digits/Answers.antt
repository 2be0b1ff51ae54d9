use Rattle.std.proofs.Common.{◌<◌, refl, subst, arith, ℕ}
use Rattle.std.specs.Char.{digit_value}
use Rattle.rfb_session.proofs.DriveArgumentLemmas.{no_digit}
use Rattle.rfb_session.proofs.KeyLemmas.{hex_all, hex_more, hex_not}
use Rattle.rfb_session.proofs.drive.pictures.are_digits.Goals as goal

pub returns-then-not-is_digit : goal.returns-then-not-is_digit
returns-then-not-is_digit c =
    let none = hex_not c.args.word.now c.loop-byte.byte-index (omega arith)
    (subst (λ (b : ℕ). ¬ (digit_value b < 16)) c.from.ensures (no_digit _ c.if-not-is_digit.ensures.value)) in
    rw none refl

pub loop-byte-preserved : goal.loop-byte-preserved
loop-byte-preserved c =
    hex_more c.args.word.now c.loop-byte.byte-index (omega arith) c.loop-byte.invariant
    (subst (λ (b : ℕ). digit_value b < 16) c.from.ensures c.if-not-is_digit.ensures.cases.0)

pub returns : goal.returns
returns c = rw (hex_all c.args.word.now c.loop-byte.byte-index (omega arith) c.loop-byte.invariant) refl
