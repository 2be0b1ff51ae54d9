use Rattle.std.proofs.Common.{◌≡◌, ◌∙◌, ℕ, ap, inl, inr, sym, slice_index_or, arith}
use Rattle.std.proofs.lemmas.Bool.{cases_lt}
use Rattle.std.proofs.lemmas.List.{get_or_default}
use Rattle.clap.specs.Words.{Shape}
use Rattle.rfb.specs.declared.commands.Verb.TheVariants.{Script}
use Rattle.rfb.specs.command.Program.{name_of}
use Rattle.rfb_session.proofs.WordLaws.{other_word}
use Rattle.rfb.proofs.commands.verb_named.Goals as goal

pub loop-verb-init : goal.loop-verb-init
loop-verb-init c = λ k d less. absurd omega (arith, less)

pub loop-verb-preserved : goal.loop-verb-preserved
loop-verb-preserved c = λ k d less. elim (cases_lt k c.loop-verb.verb-index) [
  | inl before ↦ c.loop-verb.invariant k d before
  | inr at ↦
      let verbs = c.args.verbs.now in
      let i = c.loop-verb.verb-index in
      let here : k ≡ i = omega (arith, less, at) in
      let any : slice_index_or verbs i Script ≡ slice_index_or verbs k d =
      get_or_default verbs i Script d c.loop-verb-test.true ∙ ap (λ (j : ℕ). slice_index_or verbs j d) (sym here) in
      let named = ap (λ (s : Shape). s.name) c.usage.ensures ∙ ap name_of any in
      λ is. other_word c.args.name.now c.usage.result.now.name.now (sym c.eq.ensures ∙ c.if-eq.false)
      (is ∙ sym named)
]

pub returns-clause-none : goal.returns-clause-none
returns-clause-none c = λ _ k d less. c.loop-verb.invariant k d (omega (arith, less, c.loop-verb-test.false))
