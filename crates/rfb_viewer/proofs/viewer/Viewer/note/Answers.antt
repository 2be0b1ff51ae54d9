use Rattle.std.proofs.Common.{refl}
use Rattle.rfb_viewer.proofs.StepLemmas.{made_so}
use Rattle.rfb_viewer.proofs.CallLemmas.{requested_stands}
use Rattle.rfb_viewer.proofs.viewer.Viewer.note.Goals as goal

pub returns-in-Request-clause-stands : goal.returns-in-Request-clause-stands
returns-in-Request-clause-stands c = λ viewing s prefix stands. rw c.in-Request.is
    (requested_stands viewing c.args.self.now _ s prefix
    (made_so refl refl refl refl)
    stands)
