use Rattle.std.proofs.Common.{◌∙◌, Some, refl, sym, ap, subst}
use Rattle.rfb_viewer.specs.declared.viewer.Viewer.{Viewer}
use Rattle.rfb_session.specs.Mirrors.{StandsOrFailed}
use Rattle.rfb_session.specs.declared.console.desk.Desk.{Desk}
use Rattle.rfb_session.specs.relay.Server.{NoRoomToShow, OpenedAgain, Opens}
use Rattle.rfb_session.proofs.RelayShowLemmas.{opens_kept, ups_so}
use Rattle.rfb_session.proofs.RelayStepLemmas.{server_same, side_same}
use Rattle.rfb_session.proofs.relay.Relay.open.Goals as goal

pub open_anew-requires-clause-stands : goal.open_anew-requires-clause-stands
open_anew-requires-clause-stands g c =
    subst (λ (v : Viewer). ∥ StandsOrFailed v ∥₁) (sym c.in-Err.ensures.refused.0) c.requires.stands

pub returns-in-None-clause-opens : goal.returns-in-None-clause-opens
returns-in-None-clause-opens g c =
    opens_kept c.args.self.now _ c.args.viewer c.open_first.new.self (record {
      desk = refl;
      outcome = refl;
      side = side_same _ _ refl refl refl refl refl (λ was. was);
      server = server_same refl refl refl refl refl;
    }) refl c.open_first.ensures.opens

pub returns-in-Ok-clause-opens : goal.returns-in-Ok-clause-opens
returns-in-Ok-clause-opens g c =
    let ups = c.tell_up.ensures.tells in
    ups_so c.args.self.now _ c.show_again.new.self c.tell_up.new.self refl refl
    (record { noted = record { coming = refl; name = refl; passed = refl }; waits = refl }) ups
    (λ b at tells goes kept.
    OpenedAgain c.in-Some.desk c.show_again.new.self b c.in-Some.is c.in-Ok.ensures.shown tells at goes ups.presence
    kept) (λ ran. NoRoomToShow ran)

pub returns-in-Err-clause-opens : goal.returns-in-Err-clause-opens
returns-in-Err-clause-opens g c =
    let refused = c.in-Err.ensures.refused in
    subst (λ (v : Viewer). Opens c.args.self.now v c.open_anew.new.self) refused.0
    (opens_kept c.args.self.now _ c.in-Err.viewer c.open_anew.new.self (record {
      desk = ap (λ (d : Desk). Some d) refused.1 ∙ sym c.in-Some.is;
      outcome = refl;
      side = side_same _ _ refl refl refl refl refl (λ was. was);
      server = server_same refl refl refl refl refl;
    }) refl c.open_anew.ensures.opens)
