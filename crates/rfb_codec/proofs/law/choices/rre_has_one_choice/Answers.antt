use Rattle.std.proofs.Common.{ℕ, List, ◌∙◌, ap, sym}
use Rattle.rfb_codec.specs.declared.subrect.Subrect.{Subrect}
use Rattle.rfb_codec.specs.Choice.{rre_bytes}
use Rattle.rfb_codec.proofs.ChoiceLaws.{some_choice, one_choice}
use Rattle.rfb_codec.proofs.law.choices.rre_has_one_choice.Goals as goal

pub returns-clause-some : goal.returns-clause-some
returns-clause-some c = some_choice

pub returns-clause-one : goal.returns-clause-one
returns-clause-one c = one_choice

pub returns-clause-bytes : goal.returns-clause-bytes
returns-clause-bytes c = λ f block bytes others first second.
    let (background, subs) = one_choice block _ _ _ _ first.choice second.choice in
    first.bytes_are ∙ ap (λ (colour : ℕ). rre_bytes f colour first.stands.subs) background
    ∙ ap (λ (all : List Subrect). rre_bytes f second.stands.background all) subs ∙ sym second.bytes_are
