use Rattle.rfb.specs.declared.script.line.Line.TheVariants.{Step}
use Rattle.rfb.proofs.script.read.read_step.Goals as goal

pub returns-in_err-step : goal.returns-in_err-step
returns-in_err-step c = rw c.from_residual.ensures (λ asks. c.in_err-step.ensures (Step asks.0) asks.1)
