use Rattle.std.proofs.Common.{◌∙◌, ap, arith}
use Rattle.rfb_hello.specs.TypesSoFar.{TypesSoFar}
use Rattle.rfb_hello.specs.declared.viewer_hello.progress.Progress.TheVariants.{Types}
use Rattle.rfb_hello.proofs.ViewerReasonLemmas.{count_of_none}
use Rattle.rfb_hello.proofs.ViewerSecurityLemmas.{count_of_types}
use Rattle.rfb_hello.proofs.viewer_hello.ViewerHello.take_count.Goals.{in-None, in-Some}
use Rattle.rfb_hello.proofs.viewer_hello.ViewerHello.take_count.Goals as goal

pub returns-clause-steps : goal.returns-clause-steps
returns-clause-steps c = λ setup. elim c.match-checked_sub.branch [
  | in-None w ↦ count_of_none setup c.args.self.now c.args.version c.args.count _ c.requires
      (omega (arith, w.in-None.ensures)) (w.t-7-is ∙ w.before_reason.ensures)
  | in-Some w ↦ count_of_types setup c.args.self.now c.args.version c.args.count w.in-Some.more _ c.requires
      (omega (arith, w.in-Some.ensures)) (w.t-7-is ∙ ap (λ (l : TypesSoFar). Types c.args.version l) w.new.ensures)
]
