use Rattle.std.proofs.Common.{◌∙◌}
use Rattle.rfb_session.specs.console.Console.{Done}
use Rattle.rfb_session.proofs.console.Console.turn_desk.Goals as goal

pub returns-in-Ok-clause-turns : goal.returns-in-Ok-clause-turns
returns-in-Ok-clause-turns g c = record {
  desk = Done _ _ c.in-Some.is (c.end_if_idle.ensures.desk ∙ c.note_late.ensures.desk)
      (c.in-Ok.late.slow, c.in-Ok.late.stuck, c.in-Ok.ensures);
  owner = record {
    reader = c.end_if_idle.ensures.side.owner.reader ∙ c.note_late.ensures.side.owner.reader;
    input = c.end_if_idle.ensures.side.owner.input ∙ c.note_late.ensures.side.owner.input;
  };
}
