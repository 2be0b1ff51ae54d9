use Rattle.rfb_session.proofs.console.Console.hear_seat.Goals as goal
use Rattle.rfb_session.specs.console.Console.{Done}

pub returns-in-Ok-clause-hears : goal.returns-in-Ok-clause-hears
returns-in-Ok-clause-hears g c = record {
  desk = Done _ _ c.in-Some.is c.note_heard.ensures.desk (c.in-Ok.heard.ended, c.in-Ok.ensures.hears);
  owner = record {
    reader = c.note_heard.ensures.side.owner.reader;
    input = c.note_heard.ensures.side.owner.input;
  };
}
