use Rattle.std.proofs.Common.{◌∙◌}
use Rattle.rfb_viewer.proofs.LendLemmas.{idle_is, failed_idle}
use Rattle.rfb_viewer.proofs.viewer.Viewer.between.Goals as goal

pub returns-clause-value : goal.returns-clause-value
returns-clause-value c = λ viewing s prefix now.
    let v = c.args.self.now in
    c.is_idle.ensures ∙ idle_is viewing v v.progress s.point s.picture prefix now.progress_is

pub returns-clause-failed : goal.returns-clause-failed
returns-clause-failed c = λ not. c.is_idle.ensures ∙ failed_idle c.args.self.now.progress not
