-- The lines so far are empty.
use Rattle.rfb.specs.Lines.{AreEmpty}
use Rattle.rfb_session.specs.language.Words.{texts}
use Rattle.rfb.proofs.script.hub.begins_hub.Given as goal

abbrev pub invariant-loop-line : goal.invariant-loop-line
invariant-loop-line l = AreEmpty (texts l.yielded)
