use Rattle.rfb_server.specs.Late.{session_of_stage}
use Rattle.rfb_server.proofs.UpdatingLemmas.{keeps_session}
use Rattle.rfb_server.proofs.late.LateSession.feed.Goals as goal

pub returns-clause-takes : goal.returns-clause-takes
returns-clause-takes c =
    let keeps = keeps_session (session_of_stage c.self.inside.stage)
    (session_of_stage c.enter_for.new.self) c.enter_for.ensures.moved.same in
    record {
      taken = c.in_ok-fed.ensures.takes.taken;
      fed = λ serving screen s prefix stands.
          c.in_ok-fed.ensures.takes.fed serving screen s prefix
          (keeps.stands serving screen s prefix (rw (← c.self.view_is) at stands));
    }
