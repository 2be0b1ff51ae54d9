use Rattle.std.proofs.Common.{◌∙◌, ◌++◌, [], ◌∷◌, List, ℕ, refl, sym, ap, subst}
use Rattle.rfb_session.specs.drive.driver.LineRun.{LetsSend, NoRoomForText, NoText, Pasted}
use Rattle.rfb_session.specs.drive.driver.Acts.{OfText, spelled}
use Rattle.rfb_session.proofs.DriverLemmas.{went}
use Rattle.rfb_session.proofs.drive.driver.Driver.paste_file.Goals as goal

pub returns-in-Err : goal.returns-in-Err
returns-in-Err g c = NoText c.text.new.self c.in-Err.fault c.in-Err.ensures.steps c.fail_for.ensures

pub returns-then-is_err : goal.returns-then-is_err
returns-then-is_err g c = NoRoomForText c.text.new.self c.in-Ok.text c.in-Ok.ensures.steps c.end.ensures

pub returns : goal.returns
returns g c =
    let old = c.args.self.now in
    let text = c.in-Ok.text.items in
    let bytes = c.as_slice-2.ensures.value
    ∙ went c.spell_text.result _ (sym c.if-is_err.ensures.value) c.spell_text.ensures
    ∙ ap (λ (l : List ℕ). l ++ spelled (OfText c.as_slice.result.now ∷ [])) c.new-bytes.ensures.items
    ∙ ap (λ (l : List ℕ). spelled (OfText l ∷ [])) c.as_slice.ensures.value in
    Pasted c.text.new.self text c.in-Ok.text refl c.in-Ok.ensures.steps
    (subst (λ (l : List ℕ). LetsSend l old.pace.at (record old { rig = c.text.new.self }) c.let_send.new.self) bytes
    c.let_send.ensures)
