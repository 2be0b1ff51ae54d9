use Rattle.std.proofs.Common.{ℕ, min, sym, ap, ◌∙◌, subst}
use Rattle.rfb_session.specs.LinkBytes.{TellsSole}
use Rattle.rfb_session.proofs.LeavingLemmas.{arrives, to_session}
use Rattle.rfb_session.proofs.ReachingLemmas.{heard_reaches, heard_tells, deaf_sole}
use Rattle.rfb_session.proofs.link.Link.deliver_to_session.Goals as goal

pub returns-clause-arrives : goal.returns-clause-arrives
returns-clause-arrives c =
    arrives to_session c.args.count c.min-moved.result
    (c.min-moved.ensures ∙ ap (λ (k : ℕ). min k c.args.count) c.len.ensures) c.of_moved.ensures.moved
    c.of_moved.ensures.refused c.of_moved.ensures.composed
    (heard_reaches c.args.self.now c.deliver_to_server.new.self c.min-moved.result c.in_ok-sole.sole
    c.in_ok-sole.ensures.reached)
    c.in_ok-sole.ensures.delivered c.in_ok-sole.ensures.lost

pub returns-clause-sole : goal.returns-clause-sole
returns-clause-sole c =
    subst (λ (k : ℕ). TellsSole c.args.self.now k c.in_ok-sole.sole c.deliver_to_server.new.self)
    (sym c.of_moved.ensures.moved)
    (heard_tells c.args.self.now c.deliver_to_server.new.self c.min-moved.result c.in_ok-sole.sole
    c.in_ok-sole.ensures.reached)

pub returns-clause-failed : goal.returns-clause-failed
returns-clause-failed c = λ some.
    deaf_sole c.args.self.now c.deliver_to_server.new.self c.min-moved.result c.in_ok-sole.sole
    (heard_tells c.args.self.now c.deliver_to_server.new.self c.min-moved.result c.in_ok-sole.sole
    c.in_ok-sole.ensures.reached)
    some
