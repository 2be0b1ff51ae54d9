use Rattle.std.proofs.Common.{arith}
use Rattle.rfb_session.proofs.link.opening.Goals as goal

pub returns-clause-greeting : goal.returns-clause-greeting
returns-clause-greeting c = λ serving screen s prefix stands.
    let is = c.greeting.ensures serving screen s prefix stands in
    grind (arith, is)
