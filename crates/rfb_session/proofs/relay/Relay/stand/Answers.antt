use Rattle.std.proofs.Common.{◌∙◌, subst, sym}
use Rattle.rfb_viewer.specs.declared.viewer.Viewer.{Viewer}
use Rattle.rfb_session.specs.Mirrors.{StandsOrFailed}
use Rattle.rfb_session.proofs.RelayStepLemmas.{same_value}
use Rattle.rfb_session.proofs.relay.Relay.stand.Goals as goal

pub invariant_of-self : goal.invariant_of-self
invariant_of-self g c = record {
  eight = c.send.new.self.eight;
  stands = λ x is. subst (λ (v : Viewer). ∥ StandsOrFailed v ∥₁)
      (sym (same_value c.args.viewer x (sym c.seat_in.ensures ∙ is))) c.requires.stands;
}
