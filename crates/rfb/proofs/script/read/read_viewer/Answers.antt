use Rattle.rfb.specs.declared.script.line.Line.TheVariants.{Viewer}
use Rattle.rfb.proofs.ScriptLemmas.{no_viewer_words, too_many_words, viewer_words}
use Rattle.rfb.proofs.script.read.read_viewer.Goals as goal

pub returns-in_err-words : goal.returns-in_err-words
returns-in_err-words c =
    rw c.from_residual.ensures (λ gives. too_many_words _ c.in_err-words.ensures (Viewer gives.0) gives.1)

pub returns-in_err-words_after : goal.returns-in_err-words_after
returns-in_err-words_after c =
    rw c.from_residual-in_err-words_after.ensures
    (no_viewer_words _ (rw (← c.in_ok-words.ensures, ← c.as_slice.ensures.value) c.in_err-words_after.ensures))

pub returns : goal.returns
returns c =
    viewer_words _ c.in_ok-words_after.field-0.now
    (rw (← c.in_ok-words.ensures, ← c.as_slice.ensures.value) c.in_ok-words_after.ensures)
    c.read_wants.result c.read_wants.ensures
