use Rattle.rfb_server.proofs.RecordLemmas.{width-record_of, whole-record_of}
use Rattle.rfb_server.proofs.record.Record.width.Goals as goal

pub returns-clause-value : goal.returns-clause-value
returns-clause-value c = rw (← c.self.view_is, width-record_of) c.width.ensures.value

pub returns-clause-whole : goal.returns-clause-whole
returns-clause-whole c =
    rw (← c.self.view_is) (whole-record_of c.self.inside.pixels c.self.inside.known.asked)
