use Rattle.std.proofs.Common.{refl}
use Rattle.rfb_server.proofs.RecordLemmas.{pixels_shown, width-record_of, height-record_of}
use Rattle.rfb_server.proofs.record.Record.pixels.Goals as goal

pub returns-clause-value : goal.returns-clause-value
returns-clause-value c = rw (← c.self.view_is) (pixels_shown c.self.inside.pixels c.self.inside.known.asked)

pub returns-clause-columns : goal.returns-clause-columns
returns-clause-columns c = rw (← c.self.view_is, width-record_of) refl

pub returns-clause-rows : goal.returns-clause-rows
returns-clause-rows c = rw (← c.self.view_is, height-record_of) refl
