use Rattle.std.proofs.Common.{◌∙◌, sym, arith, codes}
use Rattle.std.proofs.lemmas.Grind.{common_steps}
use Rattle.rfb.proofs.ScriptLemmas.{alone, no_event_of, only_request, only_format, only_toviewer, only_toserver}
use Rattle.rfb_session.proofs.WordLaws.{begins_with, empty_of}
use Rattle.rfb.proofs.script.read.slot_event_of.Goals as goal

pub returns-in_err-incremental : goal.returns-in_err-incremental
returns-in_err-incremental c =
    rw c.from_residual.ensures (no_event_of c.args.keyword.now (codes "request") _
    (sym c.eq.ensures ∙ c.if-eq.true) (only_request _ c.in_err-incremental.ensures))

pub returns-in_err-read_only_format : goal.returns-in_err-read_only_format
returns-in_err-read_only_format c =
    rw c.from_residual-in_err-read_only_format.ensures (no_event_of c.args.keyword.now (codes "format") _
    (sym c.eq-2.ensures ∙ c.if-eq-2.true) (only_format _ c.in_err-read_only_format.ensures))

pub returns-in_err-read_bytes : goal.returns-in_err-read_bytes
returns-in_err-read_bytes c =
    rw c.from_residual-in_err-read_bytes.ensures (no_event_of c.args.keyword.now (codes "toviewer") _
    (sym c.eq-3.ensures ∙ c.if-eq-3.true) (only_toviewer _ c.in_err-read_bytes.ensures))

pub returns-in_err-read_bytes-2 : goal.returns-in_err-read_bytes-2
returns-in_err-read_bytes-2 c =
    rw c.from_residual-in_err-read_bytes-2.ensures (no_event_of c.args.keyword.now (codes "toserver") _
    (sym c.eq-4.ensures ∙ c.if-eq-4.true) (only_toserver _ c.in_err-read_bytes-2.ensures))

pub returns-then-is_empty : goal.returns-then-is_empty
returns-then-is_empty c =
    alone c.args.keyword.now (codes "compose") c.args.rest.now (sym c.eq-5.ensures ∙ c.if-eq-5.true)
    (empty_of _ _ c.is_empty.ensures c.if-is_empty.true)

pub returns-then-eq : goal.returns-then-eq
returns-then-eq c =
    begins_with _ _ _ _ (sym c.eq.ensures ∙ c.if-eq.true) c.in_ok-incremental.ensures

pub returns-then-eq-2 : goal.returns-then-eq-2
returns-then-eq-2 c =
    begins_with _ _ _ _ (sym c.eq-2.ensures ∙ c.if-eq-2.true) c.in_ok-read_only_format.ensures

pub returns-then-eq-3 : goal.returns-then-eq-3
returns-then-eq-3 c =
    begins_with _ _ _ _ (sym c.eq-3.ensures ∙ c.if-eq-3.true) c.in_ok-read_bytes.ensures

pub returns-then-eq-4 : goal.returns-then-eq-4
returns-then-eq-4 c =
    begins_with _ _ _ _ (sym c.eq-4.ensures ∙ c.if-eq-4.true) c.in_ok-read_bytes-2.ensures

pub returns : goal.returns
returns c = grind (arith, common_steps)
