use Rattle.std.proofs.Common.{◌∙◌}
use Rattle.rfb_server.proofs.SliceLemmas.{idle_is, failed_idle}
use Rattle.rfb_server.proofs.session.Session.between.Goals as goal

pub returns-clause-value : goal.returns-clause-value
returns-clause-value c = λ serving screen s prefix now.
    c.is_idle.ensures ∙ idle_is serving c.args.self.now.hello c.args.self.now.progress s.point prefix now.progress_is

pub returns-clause-failed : goal.returns-clause-failed
returns-clause-failed c = λ not. c.is_idle.ensures ∙ failed_idle c.args.self.now.progress not
