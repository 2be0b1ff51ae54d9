use Rattle.rfb.proofs.ThroughLemmas.{on_err, on_ok, or_other}
use Rattle.rfb.proofs.working.work_from.Goals as goal

pub returns-in-Ok-clause-done : goal.returns-in-Ok-clause-done
returns-in-Ok-clause-done g c =
    on_ok c.work_into-done.result _ _ (λ acts. (_, acts)) c.work_into-done.ensures.done

pub returns-in-Ok-clause-left : goal.returns-in-Ok-clause-left
returns-in-Ok-clause-left g c =
    on_err c.work_into-done.result _ _ (or_other _ _ _ (λ acts. (_, acts))) c.work_into-done.ensures.left
