use Rattle.std.proofs.Common.{◌∙◌, refl, sym}
use Rattle.rfb_session.proofs.relay.Relay.begin_again.Goals as goal

pub returns-clause-begins : goal.returns-clause-begins
returns-clause-begins g c =
    let forgets = c.forget_server.ensures.forgets in
    let opens = c.open_server.ensures in
    record {
      presence = opens.keeps.server.presence;
      coming = c.next_viewer-viewer.result;
      coming_is = opens.keeps.server.beside.noted.coming ∙ c.seat_in.ensures;
      stands = rw (sym c.forget_server.ensures.given) c.next_viewer-viewer.ensures;
      waits = opens.keeps.server.beside.waits ∙ forgets.waits;
      passed = λ k within. rw opens.keeps.server.beside.noted.passed (forgets.passed k within);
      room = opens.room ∙ sym (rw (opens.keeps.server.presence, opens.keeps.console.outcome) refl);
      console = rw (sym forgets.console) opens.keeps.console;
    }
