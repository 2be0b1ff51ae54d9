use Rattle.std.proofs.Common.{◌≡◌, ◌∙◌, ◌+◌, ◌-◌, ap, sym, arith, length, slice_index, inl, inr}
use Rattle.std.proofs.lemmas.Bool.{cases_lt}
use Rattle.std.proofs.lemmas.Simd.{get_or-chunk}
use Rattle.rfb_codec.proofs.choice.background.run_end.Goals as goal

pub returns-clause-run : goal.returns-clause-run
returns-clause-run c = λ k from below.
    let pixels = c.args.pixels.now in
    let next = c.args.start + 1 in
    elim (cases_lt c.args.start k) [
      | inl later ↦
          let place : next + (k - next) ≡ k = omega (arith, later) in
          ap (λ i. slice_index pixels i) (sym place)
          ∙ sym (get_or-chunk next (length pixels - next) pixels (k - next) 0 (omega (arith, later)))
          ∙ c.run_of.ensures.run (k - next) (omega (arith, later))
      | inr first ↦ ap (λ i. slice_index pixels i) (omega (arith, from, first))
    ]
