use Rattle.std.proofs.Common.{◌∙◌, refl, sym}
use Rattle.rfb_session.specs.relay.Server.{NoRoomForLines, OpenedAnew}
use Rattle.rfb_session.proofs.RelayShowLemmas.{ups_so}
use Rattle.rfb_session.proofs.relay.Relay.begin_anew.Goals as goal

pub returns-in-Ok-clause-opens : goal.returns-in-Ok-clause-opens
returns-in-Ok-clause-opens g c =
    let noted = c.note_new_size.ensures in
    let desk = c.in-Some.desk in
    let ups = c.tell_up.ensures.tells in
    ups_so c.args.self.now _ c.begin_anew.new.self c.tell_up.new.self refl noted.notes.outcome (record {
      noted = record {
        coming = noted.server.beside.noted.coming;
        name = noted.server.beside.noted.name;
        passed = noted.server.beside.noted.passed;
      };
      waits = noted.server.beside.waits;
    }) ups (λ b at tells goes kept.
    OpenedAnew desk c.begin_anew.new.self b (sym noted.notes.desk ∙ c.in-Some.is) c.in-Ok.ensures tells at goes
    ups.presence kept) (λ ran. NoRoomForLines ran)
