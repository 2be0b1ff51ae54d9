use Rattle.std.proofs.Common.{◌∙◌, ◌++◌, List, ℕ, sym, ap, subst}
use Rattle.rfb_session.specs.declared.drive.words.Place.{Place}
use Rattle.rfb_session.specs.drive.driver.LineRun.{LetsSend, Off, On}
use Rattle.rfb_session.specs.drive.driver.Acts.{acts_of, place_or, spelled}
use Rattle.rfb_session.proofs.DriverLemmas.{place_is, went}
use Rattle.rfb_session.proofs.drive.driver.Driver.send_line.Goals as goal

pub returns-in-Some : goal.returns-in-Some
returns-in-Some g c =
    Off c.in-Some.place (cc (c.place_off.ensures, c.place_named-named.ensures, c.screen-screen.ensures, c.in-Some.is))
    c.refuse.ensures

pub returns : goal.returns
returns g c =
    let old = c.args.self.now in
    let said = c.args.said.now in
    let bytes = c.as_slice.ensures.value
    ∙ went c.spell_line.result _ (sym c.if-is_err.ensures.value) c.spell_line.ensures
    ∙ ap (λ (l : List ℕ). l ++ spelled (acts_of old.pace.at said)) c.new-bytes.ensures.items in
    let at = c.unwrap_or-at.ensures ∙ place_is c.place_named-named.result old.pace.at
    ∙ ap (λ named. place_or named old.pace.at) c.place_named-named.ensures in
    On (cc (c.place_off.ensures, c.place_named-named.ensures, c.screen-screen.ensures, c.in_default.is))
    (subst (λ (place : Place). LetsSend (spelled (acts_of old.pace.at said)) place old c.let_send.new.self) at
    (subst (λ (l : List ℕ). LetsSend l c.unwrap_or-at.result old c.let_send.new.self) bytes c.let_send.ensures))
