use Rattle.std.proofs.Common.{◌∙◌, sym, subst, ap, ℕ, List, ◌∷◌}
use Rattle.rfb_wire.specs.ClientMessage.{SpellsFormatMessage}
use Rattle.rfb_viewer.proofs.SendingLaws.{format_spelled}
use Rattle.rfb_viewer.proofs.client_messages.spell_format.Goals as goal

pub returns-clause-spelled : goal.returns-clause-spelled
returns-clause-spelled c =
    let message = c.spell.ensures.value ∙ ap (λ (bytes : List ℕ). 0 ∷ 0 ∷ 0 ∷ 0 ∷ bytes) c.write.ensures.value in
    subst (λ (bytes : List ℕ). SpellsFormatMessage c.args.format bytes) (sym message)
    (format_spelled c.args.format c.write.ensures.format)
