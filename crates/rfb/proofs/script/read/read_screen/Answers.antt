use Rattle.rfb.specs.declared.script.line.Line.TheVariants.{Screen}
use Rattle.rfb.proofs.script.read.read_screen.Goals as goal

pub returns-in_err-size : goal.returns-in_err-size
returns-in_err-size c = rw c.from_residual.ensures (λ gives. c.in_err-size.ensures (Screen gives.0) gives.1)
