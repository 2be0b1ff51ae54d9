use Rattle.rfb.specs.command.Program.{Does, Leaves}
use Rattle.rfb.proofs.ThroughLemmas.{into_file, on_err, on_ok, or_other, through}
use Rattle.rfb.proofs.working.work_through.Goals as goal

pub returns-in-Standard-clause-done : goal.returns-in-Standard-clause-done
returns-in-Standard-clause-done g c =
    on_ok c.work_into.result _ _
    (λ acts. through c.args.order.paths.input _ c.args.order.paths.output (Does g.row.P.Denot c.args.order.task)
    (g.R.Read.remaining c.args.context.now.input.now) _ _ c.in-Standard.is acts)
    c.work_into.ensures.done

pub returns-in-Lines-clause-done : goal.returns-in-Lines-clause-done
returns-in-Lines-clause-done g c =
    on_ok c.work_into-in-Lines.result _ _
    (λ acts. through c.args.order.paths.input _ c.args.order.paths.output (Does g.row.P.Denot c.args.order.task)
    (g.R.Read.remaining c.args.context.now.input.now) _ _ c.in-Lines.is (rw c.as_slice-lines.ensures.value at acts))
    c.work_into-in-Lines.ensures.done

pub returns-in-Lines-clause-left : goal.returns-in-Lines-clause-left
returns-in-Lines-clause-left g c =
    on_err c.work_into-in-Lines.result _ _
    (or_other _ _ _ (λ acts. through c.args.order.paths.input _ c.args.order.paths.output
    (Leaves g.row.P.Denot c.args.order.task) (g.R.Read.remaining c.args.context.now.input.now) _ _ c.in-Lines.is
    (rw c.as_slice-lines.ensures.value at acts)))
    c.work_into-in-Lines.ensures.left

pub returns-in-File-clause-done : goal.returns-in-File-clause-done
returns-in-File-clause-done g c =
    on_ok c.work_from.result _ _
    (λ acts. through c.args.order.paths.input _ c.args.order.paths.output (Does g.row.P.Denot c.args.order.task)
    (g.R.Read.remaining c.args.context.now.input.now) _ _ c.in-File.is
    (into_file c.args.order.paths.output (Does g.row.P.Denot c.args.order.task acts.0) _ _ _
    (λ before after does. (acts.0, does)) acts.1))
    c.work_from.ensures.done

pub returns-in-File-clause-left : goal.returns-in-File-clause-left
returns-in-File-clause-left g c =
    on_err c.work_from.result _ _
    (or_other _ _ _ (λ acts. through c.args.order.paths.input _ c.args.order.paths.output
    (Leaves g.row.P.Denot c.args.order.task)
    (g.R.Read.remaining c.args.context.now.input.now) _ _ c.in-File.is
    (into_file c.args.order.paths.output (Leaves g.row.P.Denot c.args.order.task acts.0) _ _ _
    (λ before after leaves. (acts.0, leaves)) acts.1)))
    c.work_from.ensures.left
