use Rattle.std.proofs.lemmas.Result.{err_from_is_err_and}
use Rattle.rfb.specs.Script.{AreScript, StopsReading, lines_of}
use Rattle.rfb.proofs.HubScriptingLemmas.{fails_plain}
use Rattle.rfb.proofs.LoopbackLemmas.{some_script}
use Rattle.rfb.proofs.loopback.script_through_loopback.Goals as goal

pub returns-clause-done : goal.returns-clause-done
returns-clause-done g c =
    let script = c.in_ok-script.script in
    let said : AreScript (lines_of c.read_to_end.new.buf.items) script.screen script.wants script.steps.items =
    rw c.deref.ensures.value at c.in_ok-script.ensures.read in
    record {
      is_script = some_script (g.R.Read.remaining c.args.context.now.input.now) c.new-text.result.items
          c.read_to_end.new.buf.items script.screen script.wants script.steps.items
          c.new-text.ensures.items c.in_ok-read_to_end.ensures.bytes said;
      written = c.in_ok-run.ensures.done;
    }

pub returns-in_err-script-clause-stopped : goal.returns-in_err-script-clause-stopped
returns-in_err-script-clause-stopped g c =
    let stops : StopsReading (lines_of c.read_to_end.new.buf.items) c.in_err-script.field-0.0 =
    rw c.deref.ensures.value at c.in_err-script.ensures.stopped in
    let p = err_from_is_err_and c.from_residual-in_err-script.result c.from_residual-in_err-script.ensures.1 in
    rw (p.1, p.2)
    (fails_plain (g.R.Read.remaining c.args.context.now.input.now) c.new-text.result.items
    c.read_to_end.new.buf.items c.in_err-script.field-0.0
    c.new-text.ensures.items c.in_ok-read_to_end.ensures.bytes stops)
