use Rattle.std.proofs.Common.{codes}
use Rattle.rfb_session.specs.language.Words.{IsSlotAlone, words_of}
use Rattle.rfb.proofs.HubStepLemmas.{too_many_for_show}
use Rattle.rfb.proofs.ScriptLemmas.{begins_otherwise, read_after}
use Rattle.rfb.proofs.script.hub.hub_line.read_show.Goals as goal

pub returns-in_err-words : goal.returns-in_err-words
returns-in_err-words c =
    rw c.from_residual.ensures (λ gives. too_many_for_show _ c.in_err-words.ensures gives.0 gives.1)

pub returns-in_err-words_after : goal.returns-in_err-words_after
returns-in_err-words_after c =
    rw c.from_residual-in_err-words_after.ensures
    (begins_otherwise (codes "show") IsSlotAlone (words_of c.args.line.now)
    (rw (← c.in_ok-words.ensures, ← c.as_slice.ensures.value) c.in_err-words_after.ensures))

pub returns : goal.returns
returns c =
    read_after (codes "show") IsSlotAlone (words_of c.args.line.now) c.in_ok-words_after.field-0.now
    c.read_only_slot.result (rw (← c.in_ok-words.ensures, ← c.as_slice.ensures.value) c.in_ok-words_after.ensures)
    c.read_only_slot.ensures
