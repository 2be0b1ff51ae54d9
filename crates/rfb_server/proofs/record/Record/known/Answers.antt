use Rattle.rfb_server.proofs.RecordLemmas.{known_told, width-record_of, height-record_of}
use Rattle.rfb_server.proofs.record.Record.known.Goals as goal

pub returns-clause-value : goal.returns-clause-value
returns-clause-value c = rw (← c.self.view_is) (known_told c.self.inside.pixels c.self.inside.known)

pub returns-clause-columns : goal.returns-clause-columns
returns-clause-columns c = rw (← c.self.view_is, width-record_of) c.self.invariant.wide

pub returns-clause-rows : goal.returns-clause-rows
returns-clause-rows c = rw (← c.self.view_is, height-record_of) c.self.invariant.high
