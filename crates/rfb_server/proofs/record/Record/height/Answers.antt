use Rattle.rfb_server.proofs.RecordLemmas.{height-record_of}
use Rattle.rfb_server.proofs.record.Record.height.Goals as goal

pub returns : goal.returns
returns c = rw (← c.self.view_is, height-record_of) c.height.ensures
