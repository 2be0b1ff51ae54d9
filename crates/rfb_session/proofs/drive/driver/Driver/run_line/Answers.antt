use Rattle.std.proofs.Common.{◌∙◌, List, ℕ, ap, sym, subst, take}
use Rattle.rfb_session.specs.declared.drive.driver.input.Input.{Input}
use Rattle.rfb_session.specs.drive.driver.Input.{is_skipped}
use Rattle.rfb_session.specs.drive.driver.LineRun.{Ran, RunsRead}
use Rattle.rfb_session.proofs.drive.driver.Driver.run_line.Goals as goal

pub returns : goal.returns
returns g c =
    let old = c.args.self.now in
    let line = take c.args.count old.input.waiting in
    let new = c.run_read.new.self in
    Ran
    (sym (c.if-is_skipped.ensures
    ∙ ap (λ (l : List ℕ). is_skipped l) (c.as_slice.ensures.value ∙ c.in-Ok.ensures.line)))
    (subst (λ (input : Input). RunsRead g.R.Rig.steps line c.args.now (record old { input = input }) new)
    c.in-Ok.ensures.taken
    (subst (λ (l : List ℕ). RunsRead g.R.Rig.steps l c.args.now (record old { input = c.take.new.self }) new)
    (c.as_slice-2.ensures.value ∙ c.in-Ok.ensures.line) c.run_read.ensures))
