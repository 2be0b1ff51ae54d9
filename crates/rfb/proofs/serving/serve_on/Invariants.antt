-- There is a line for each connection so far.
use Rattle.rfb.specs.Service.{ServesSo}
use Rattle.rfb.proofs.serving.serve_on.Given as goal

abbrev pub invariant-loop-connection : goal.invariant-loop-connection
invariant-loop-connection g l =
    ServesSo l.screen l._connection (g.W.Write.contents l.initial.output) (g.W.Write.contents l.output)
