use Rattle.rfb.proofs.ScriptLemmas.{too_many_words}
use Rattle.rfb.proofs.script.read.read_line.Goals as goal

pub returns-in_err-parted : goal.returns-in_err-parted
returns-in_err-parted c = rw c.from_residual.ensures (too_many_words _ c.in_err-parted.ensures)

pub returns : goal.returns
returns c = rw (← c.in_ok-parted.ensures, ← c.as_slice.ensures.value) c.line_of.ensures
