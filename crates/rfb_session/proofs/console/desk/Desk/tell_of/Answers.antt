use Rattle.std.proofs.Common.{List, ℕ, length, subst}
use Rattle.rfb_session.specs.console.Viewers.{CountsTold}
use Rattle.rfb_session.proofs.DeskLemmas.{tells_of_is}
use Rattle.rfb_session.proofs.console.desk.Desk.tell_of.Goals as goal

pub returns : goal.returns
returns c =
    tells_of_is c.args.self.now c.part.new.self c.tell_event.new.self c.count_told.new.self c.args.seat
    c.args.heard.now c.in_ok-part.ensures c.in_ok-tell_event.ensures
    (subst (λ (l : List ℕ). CountsTold c.tell_event.new.self c.args.seat (length l) c.count_told.new.self)
    c.lines-before.ensures c.count_told.ensures)
