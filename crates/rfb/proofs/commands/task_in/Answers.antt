use Rattle.std.proofs.Common.{ap, inl, inr}
use Rattle.std.proofs.lemmas.Result.{err_from_is_err_and}
use Rattle.rfb.specs.command.Program.{name_of}
use Rattle.rfb.proofs.commands.task_in.Goals as goal

pub returns-in_err-task-in-View : goal.returns-in_err-task-in-View
returns-in_err-task-in-View c =
    let p = err_from_is_err_and c.from_residual-in_err-task-in-View.result
    c.from_residual-in_err-task-in-View.ensures.1 in
    rw p.1 (inr (inr (inl (ap name_of c.in-View.is, c.in_err-task-in-View.ensures))))
