use Rattle.std.proofs.Common.{[], refl, subst}
use Rattle.rfb_viewer.specs.declared.setup.ViewerSetup.{ViewerSetup}
use Rattle.rfb_viewer.specs.Model.{StandsFor}
use Rattle.rfb_viewer.specs.Viewer.{first_viewer}
use Rattle.rfb_session.specs.relay.Setup.{viewing_by}
use Rattle.rfb_session.proofs.relay.Relay.new.Goals as goal

pub returns : goal.returns
returns g c = record {
  console = c.new.ensures.fresh;
  rules = c.new.ensures.rules;
  coming = c.next_viewer-viewer.result;
  coming_is = refl;
  stands = subst (λ (s : ViewerSetup). StandsFor (viewing_by s) c.next_viewer-viewer.result first_viewer [])
      c.of-given.ensures c.next_viewer-viewer.ensures;
  given = c.of-given.ensures;
  waits = c.new-3.ensures;
  presence = refl;
}
