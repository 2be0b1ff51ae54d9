use Rattle.std.proofs.Common.{◌∙◌, [], ◌∷◌, sym, append-nil}
use Rattle.rfb_session.specs.drive.driver.Acts.{OfPointer, act_bytes, spelled}
use Rattle.rfb_session.proofs.SendingLemmas.{grown}
use Rattle.rfb_session.proofs.drive.driver.sending.spell_pointer.Goals as goal

pub returns : goal.returns
returns c =
    grown c.extend_from_slice.result _ _ _ (spelled (OfPointer c.args.buttons c.args.at ∷ []))
    c.extend_from_slice.ensures.items
    (c.as_slice.ensures.value ∙ c.spell.ensures.value
    ∙ sym (append-nil (act_bytes (OfPointer c.args.buttons c.args.at))))
