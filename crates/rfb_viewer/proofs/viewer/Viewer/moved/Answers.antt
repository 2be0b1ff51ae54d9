use Rattle.std.proofs.Common.{refl}
use Rattle.rfb_viewer.proofs.StepLemmas.{made_so}
use Rattle.rfb_viewer.proofs.CallLemmas.{same_stands}
use Rattle.rfb_viewer.proofs.viewer.Viewer.moved.Goals as goal

pub returns-clause-stands : goal.returns-clause-stands
returns-clause-stands c = λ viewing s prefix stands.
    same_stands viewing c.args.self.now _ s prefix
    (made_so refl refl refl refl) stands
