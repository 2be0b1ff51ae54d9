use Rattle.rfb.proofs.ScriptLemmas.{no_other_event}
use Rattle.rfb.proofs.script.read.event_of.Goals as goal

pub returns-in_err-slot_event_of-in-None : goal.returns-in_err-slot_event_of-in-None
returns-in_err-slot_event_of-in-None c =
    rw c.from_residual.ensures
    (no_other_event c.args.keyword.now _ c.in-None.ensures c.in_err-slot_event_of-in-None.ensures)
