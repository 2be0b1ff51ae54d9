use Rattle.std.proofs.Common.{◌∙◌, ap}
use Rattle.rfb_hello.specs.KeptText.{KeptText}
use Rattle.rfb_viewer.proofs.LendLemmas.{unreasoned_at}
use Rattle.rfb_viewer.proofs.viewer.Viewer.reason.Goals as goal

pub returns-clause-none : goal.returns-clause-none
returns-clause-none c = λ viewing s prefix now.
    let v = c.args.self.now in
    c.reason.ensures
    ∙ ap (λ (k : KeptText). k.bytes) (unreasoned_at viewing v v.progress s.point s.picture prefix now.progress_is)
