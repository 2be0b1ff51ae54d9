use Rattle.std.proofs.Common.{sym, ◌∙◌}
use Rattle.rfb_server.proofs.server.Server.recorded.Goals as goal

pub returns-clause-value : goal.returns-clause-value
returns-clause-value c = λ serving s prefix stands. rw (stands.known_is) c.recorded.ensures.value

pub returns-clause-columns : goal.returns-clause-columns
returns-clause-columns c = c.recorded.ensures.columns ∙ sym c.args.self.now.follows.alike.columns

pub returns-clause-rows : goal.returns-clause-rows
returns-clause-rows c = c.recorded.ensures.rows ∙ sym c.args.self.now.follows.alike.rows
