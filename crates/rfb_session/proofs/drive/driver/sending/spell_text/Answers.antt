use Rattle.std.proofs.Common.{◌∙◌, ◌++◌, [], ◌∷◌, List, ℕ, ap, sym, append-nil}
use Rattle.rfb_session.specs.drive.driver.Acts.{OfText, act_bytes, spelled}
use Rattle.rfb_session.proofs.SendingLemmas.{grown_on}
use Rattle.rfb_session.proofs.drive.driver.sending.spell_text.Goals as goal

pub returns : goal.returns
returns c =
    grown_on c.extend_from_slice-2.result _ _ _ _ _ (spelled (OfText c.args.text.now ∷ []))
    c.in_ok-extend_from_slice.ensures.items c.extend_from_slice-2.ensures.items
    (ap (λ (l : List ℕ). l ++ c.args.text.now) (c.as_slice.ensures.value ∙ c.spell.ensures.value)
    ∙ sym (append-nil (act_bytes (OfText c.args.text.now))))
