use Rattle.std.proofs.Common.{List, ℕ, subst}
use Rattle.rfb_session.specs.drive.driver.Driver.{Readies}
use Rattle.rfb_session.proofs.drive.driver.Driver.meet.Goals as goal

pub returns-in-Some-Ready : goal.returns-in-Some-Ready
returns-in-Some-Ready g c =
    let e = c.in-Some-Ready in
    rw (e.is, e.field-0-is)
    (subst (λ (l : List ℕ). Readies l e.width e.height (record c.args.self.now { name = e.name }) c.ready.new.self)
    c.as_slice-in-Some-Ready.ensures.value c.ready.ensures)
