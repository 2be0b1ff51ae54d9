use Rattle.std.proofs.Common.{ℕ, Bool, inr, subst}
use Rattle.rfb_session.specs.owner.ShareLines.{leave_line}
use Rattle.rfb_session.specs.console.Viewers.{LetsGo}
use Rattle.rfb_session.specs.console.Console.{OnDesk}
use Rattle.rfb_session.proofs.console.Console.end_seat.Goals as goal

pub returns-in-Some-clause-lets_go : goal.returns-in-Some-clause-lets_go
returns-in-Some-clause-lets_go g c =
    inr (subst (λ (k : ℕ). OnDesk (λ a b. (taken : Bool) × LetsGo a k taken (leave_line k) b)
    c.args.self.now.desk c.args.self.now.outcome c.let_seat_go.new.self.desk c.let_seat_go.new.self.outcome)
    c.in-Some.ensures.value c.let_seat_go.ensures.leaves.desk)
