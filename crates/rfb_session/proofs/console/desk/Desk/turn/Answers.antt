use Rattle.rfb_session.proofs.DeskTurnLemmas.{turns_so}
use Rattle.rfb_session.proofs.console.desk.Desk.turn.Goals as goal

pub returns : goal.returns
returns c =
    turns_so c.args.self.now c.release_all.new.self c.stamp.new.self c.let_all_go.new.self c.still-is_held.new.self
    c.args.now c.late-late.result.slow c.late-late.result.stuck c.or.result c.still-is_held.result
    c.release_all.ensures c.stamp.ensures c.late-late.ensures.slow c.late-late.ensures.stuck c.or.ensures
    c.in_ok-let_all_go.ensures c.still-is_held.ensures c.compose_unless-round.new.self c.go_round.new.self
    c.plan_next.new.self c.is_busy-is_busy.result c.compose_unless-round.result.wants c.compose_unless-round.result.last
    c.is_busy-is_busy.ensures c.compose_unless-round.ensures.held c.compose_unless-round.ensures.none
    c.compose_unless-round.ensures.composes c.go_round.ensures c.plan_next.ensures.share
    c.plan_next.ensures.beside c.plan_next.ensures.wakes
