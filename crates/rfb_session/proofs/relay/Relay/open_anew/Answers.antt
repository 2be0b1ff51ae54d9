use Rattle.std.proofs.Common.{◌∙◌, List, ℕ, refl, ap}
use Rattle.rfb_session.specs.relay.Server.{NoPicture, OpenedOther}
use Rattle.rfb_session.specs.relay.Setup.{name_by}
use Rattle.rfb_session.proofs.RelayShowLemmas.{anew_kept, share_named, still_here}
use Rattle.rfb_session.proofs.RelayStepLemmas.{server_same}
use Rattle.rfb_session.proofs.relay.Relay.open_anew.Goals as goal

pub returns-in-Err-clause-opens : goal.returns-in-Err-clause-opens
returns-in-Err-clause-opens g c =
    NoPicture _ _ (still_here _ _ refl (server_same refl refl refl refl refl)) c.lose_server.ensures.loses

pub returns-in-Ok-clause-opens : goal.returns-in-Ok-clause-opens
returns-in-Ok-clause-opens g c =
    let share = c.in-Ok.ensures in
    OpenedOther c.in-Ok.share
    (share_named c.args.viewer _ _ _ c.in-Ok.share share.viewer share.empty share.made
    (c.name-name.ensures.value ∙ ap (λ (l : List ℕ). name_by c.args.self.now.given l) c.as_slice.ensures.value))
    (anew_kept c.args.self.now _ c.in-Ok.share c.begin_anew.new.self
    (still_here _ _ refl (server_same refl refl refl refl refl)) c.begin_anew.ensures.opens)
