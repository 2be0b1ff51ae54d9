use Rattle.std.proofs.Common.{◌≡◌, ◌∙◌, ◌<◌, sym, ap, subst, arith, get_or, ℕ}
use Rattle.std.proofs.lemmas.Int.Digits.{digits_value_more}
use Rattle.std.specs.Char.{digit_value}
use Rattle.rfb_session.proofs.KeyLemmas.{hex_all, hex_below, hex_more, hex_none, hex_not, hex_some}
use Rattle.rfb_session.proofs.WordLaws.{some_of}
use Rattle.rfb_session.proofs.drive.keys.read_hex.Goals as goal

pub returns-in_err-digit : goal.returns-in_err-digit
returns-in_err-digit c =
    let none = hex_none c.args.digits.now (hex_not c.args.digits.now c.loop-byte.byte-index (omega arith)
    (subst (λ (b : ℕ). ¬ (digit_value b < 16)) c.from.ensures c.in_err-digit.ensures.value)) in
    c.from_residual.ensures ∙ sym none

pub overflow_mul-value : goal.overflow_mul-value
overflow_mul-value c =
    omega (
      arith,
      c.loop-byte.invariant.value,
      hex_below c.args.digits.now c.loop-byte.byte-index c.loop-byte.invariant.digits (omega arith),
    )

pub overflow_add-value : goal.overflow_add-value
overflow_add-value c =
    let digit = c.in_ok-digit.ensures.value in
    omega (
      arith,
      c.loop-byte.invariant.value,
      digit.0,
      digit.1,
      hex_below c.args.digits.now c.loop-byte.byte-index c.loop-byte.invariant.digits (omega arith),
    )

pub loop-byte-preserved : goal.loop-byte-preserved
loop-byte-preserved c =
    let digits = c.args.digits.now in
    let i = c.loop-byte.byte-index in
    let digit = c.in_ok-digit.ensures.value in
    let e : digit_value c.from.result ≡ digit_value (get_or digits i 0) =
    ap (λ (b : ℕ). digit_value b) c.from.ensures in
    record {
      digits = hex_more digits i (omega arith) c.loop-byte.invariant.digits (omega (arith, digit.0, e));
      value = omega (arith, digits_value_more 16 digits i (omega arith), c.loop-byte.invariant.value, digit.1, e);
    }

pub returns : goal.returns
returns c =
    let some = some_of _ _ c.is_empty.ensures c.if-is_empty.false in
    hex_some c.args.digits.now c.loop-byte.byte-index c.loop-byte.value (omega (arith, some)) (omega arith)
    (hex_all c.args.digits.now c.loop-byte.byte-index (omega arith) c.loop-byte.invariant.digits)
    c.loop-byte.invariant.value (omega arith)
