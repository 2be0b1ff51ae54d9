use Rattle.rfb.proofs.ServingLemmas.{read_as}
use Rattle.rfb.proofs.serving.screen.read_picture.Goals as goal

pub returns-in-Err-clause-refused : goal.returns-in-Err-clause-refused
returns-in-Err-clause-refused g c =
    read_as (g.R.Read.remaining c.args.input.now) c.in-Err.error c.failure_of.result
    c.in-Err.ensures.refused c.failure_of.ensures
