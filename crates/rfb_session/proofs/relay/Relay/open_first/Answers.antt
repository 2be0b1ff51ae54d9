use Rattle.std.proofs.Common.{◌∙◌, List, ℕ, refl, sym, ap, subst}
use Rattle.rfb_session.specs.declared.share.Share.{Share}
use Rattle.rfb_session.specs.relay.Desk.{IsOver, IsShareOf}
use Rattle.rfb_session.specs.relay.Server.{NoPicture, Opened}
use Rattle.rfb_session.specs.relay.Setup.{name_by}
use Rattle.rfb_session.proofs.RelayShowLemmas.{share_named, still_here}
use Rattle.rfb_session.proofs.RelayStepLemmas.{server_same}
use Rattle.rfb_session.proofs.relay.Relay.open_first.Goals as goal

pub returns-in-Err-clause-opens : goal.returns-in-Err-clause-opens
returns-in-Err-clause-opens g c =
    NoPicture _ _ (still_here _ _ refl (server_same refl refl refl refl refl)) c.lose_server.ensures.loses

pub returns-in-Ok-over-clause-opens : goal.returns-in-Ok-over-clause-opens
returns-in-Ok-over-clause-opens g c =
    let over = c.in-Ok-over.ensures in
    let share = c.in-Ok.ensures in
    let desk = c.in-Ok-over.desk in
    let rules = c.args.self.now.console.rules in
    let told = c.as_slice-told.ensures.value in
    let given = c.args.self.now.given in
    let name = name_by given c.args.self.now.server_name.items in
    Opened desk c.requires.none c.seat_in.ensures
    (subst (λ (s : Share). IsShareOf c.args.viewer name rules.text_limit s) (sym over.share_is)
    (share_named c.args.viewer _ name rules.text_limit c.in-Ok.share share.viewer share.empty share.made
    (c.name-name.ensures.value ∙ ap (λ (l : List ℕ). name_by given l) told)))
    (subst (λ (s : Share). IsOver s rules c.args.self.now.server_name.items desk) (sym over.share_is)
    (subst (λ (l : List ℕ). IsOver c.in-Ok.share rules l desk) told over)) refl
    (record { noted = record { coming = refl; name = refl; passed = refl }; waits = refl })
