use Rattle.std.proofs.lemmas.Result.{err_from_is_err_and}
use Rattle.clap.specs.Words.{found_of, rows_of}
use Rattle.rfb.proofs.OptionLemmas.{bad_always}
use Rattle.rfb.proofs.commands.view_task_in.Goals as goal

pub returns-in_err-follow_options_in : goal.returns-in_err-follow_options_in
returns-in_err-follow_options_in c =
    let p = err_from_is_err_and c.from_residual.result c.from_residual.ensures.1 in
    rw p.1 (bad_always (rows_of (found_of c.args.given.now)) c.is_given.result c.is_given.ensures c.if-is_given.true
    c.in_err-follow_options_in.ensures)
