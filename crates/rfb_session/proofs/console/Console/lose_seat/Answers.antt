use Rattle.std.proofs.Common.{refl}
use Rattle.rfb_session.specs.console.Console.{Done}
use Rattle.rfb_session.proofs.console.Console.lose_seat.Goals as goal

pub returns-in-Ok-true-clause-loses : goal.returns-in-Ok-true-clause-loses
returns-in-Ok-true-clause-loses g c = record {
  desk = Done _ _ c.in-Some.is c.note_left.ensures.desk (c.in-Ok-true.field-0, c.in-Ok-true.ensures);
  owner = record {
    reader = c.note_left.ensures.side.owner.reader;
    input = c.note_left.ensures.side.owner.input;
  };
}

pub returns-in-Ok-false-clause-loses : goal.returns-in-Ok-false-clause-loses
returns-in-Ok-false-clause-loses g c = record {
  desk = Done _ _ c.in-Some.is refl (c.in-Ok-false.field-0, c.in-Ok-false.ensures);
  owner = record { reader = refl; input = refl };
}
