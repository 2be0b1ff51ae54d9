use Rattle.rfb_session.proofs.WakeLemmas.{end_sooner, limit_sooner}
use Rattle.rfb_session.proofs.console.guest.Guest.due.Goals as goal

pub returns : goal.returns
returns c = record {
  slow = end_sooner c.slow_at.result c.sooner.result c.sooner.ensures.first c.args.rules.now.handshake
      c.args.self.now.since c.slow_at.ensures;
  stuck = limit_sooner c.stuck_at.result c.sooner.result c.sooner.ensures.second c.args.rules.now.timeout
      c.args.self.now.idle c.stuck_at.ensures;
}
