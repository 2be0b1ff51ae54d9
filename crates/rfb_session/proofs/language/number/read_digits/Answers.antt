use Rattle.std.proofs.Common.{◌∙◌, List, ℕ, ap, refl, sym, subst, slice_index_or, take, arith}
use Rattle.std.proofs.lemmas.List.{take_all, take_more}
use Rattle.std.specs.Str.Parse.{AllDigits, digits_value}
use Rattle.rfb_session.proofs.NumberLemmas.{all_more, below, digits, not_none, value_more}
use Rattle.rfb_session.proofs.language.number.read_digits.Goals as goal

pub loop-byte-init : goal.loop-byte-init
loop-byte-init c = record { digits = tt; value = refl }

pub overflow_mul-value : goal.overflow_mul-value
overflow_mul-value c =
    omega (
      arith,
      c.loop-byte.invariant.value,
      below c.args.word.now c.loop-byte.byte-index c.loop-byte.invariant.digits
          (omega arith),
    )

pub overflow_add-value : goal.overflow_add-value
overflow_add-value c =
    omega (
      arith,
      c.from.ensures,
      c.if-not-is_ascii_digit.ensures.cases,
      c.loop-byte.invariant.value,
      below c.args.word.now c.loop-byte.byte-index c.loop-byte.invariant.digits (omega arith),
    )

pub loop-byte-preserved : goal.loop-byte-preserved
loop-byte-preserved c =
    let word = c.args.word.now in
    let i = c.loop-byte.byte-index in
    let more = take_more word i 0 (omega arith) in
    record {
      digits = subst (λ (l : List ℕ). AllDigits 10 l) (sym more)
          (all_more (take i word) (slice_index_or word i 0) c.loop-byte.invariant.digits
          c.if-not-is_ascii_digit.ensures.cases);
      value = value_more word (take i word) i (slice_index_or word i 0) c.loop-byte.value c.from.result more
          c.loop-byte.invariant.value c.if-not-is_ascii_digit.ensures.cases c.from.ensures;
    }

pub returns : goal.returns
returns c =
    let all = take_all c.loop-byte.byte-index c.args.word.now (omega arith) in (
      (
        digits.from c.args.word.now (subst (λ (l : List ℕ). AllDigits 10 l) all c.loop-byte.invariant.digits),
        not_none _ c.is_empty.result c.is_empty.ensures c.if-is_empty.false,
        omega arith,
      ),
      c.loop-byte.invariant.value ∙ ap (λ (l : List ℕ). digits_value 10 l) all,
    )
