use Rattle.std.proofs.Common.{ℕ, ◌+◌, ◌∙◌, Option, ap, subst, arith}
use Rattle.rfb_session.specs.console.Console.{IsFull}
use Rattle.rfb_session.specs.console.Viewers.{Admits}
use Rattle.rfb_session.proofs.console.hosting.ConsoleHost.opened.Goals as goal

pub returns-in_err-admission-clause-none : goal.returns-in_err-admission-clause-none
returns-in_err-admission-clause-none g c = λ none.
    let side = c.note_gave_way.ensures.side in
    record {
      declines = IsFull c.in-Some.desk c.admit.new.self c.in-Some.is c.note_gave_way.ensures.desk
          c.in-Ok.admission.left
          (subst (λ (seat : Option ℕ). Admits c.in-Some.desk c.args.from.now seat c.in-Ok.admission.left
          c.admit.new.self) c.in_err-admission.was c.in-Ok.ensures)
          (record { reader = side.owner.reader; input = side.owner.input });
      stays = record { rules = side.stays.rules; name = side.stays.name; ended = side.stays.ended };
    }

pub returns-clause-some : goal.returns-clause-some
returns-clause-some g c =
    let side = c.note_gave_way.ensures.side in (
      omega (arith, c.if-doors-lt-READ.false, c.place-door.ensures.below),
      record {
        was = c.in-Some.desk;
        now = c.admit.new.self;
        was_there = c.in-Some.is;
        is_there = c.open_room.ensures.keeps.desk ∙ c.note_gave_way.ensures.desk;
        seat = c.in_ok-admission.field-0;
        door_is = ap (λ (n : ℕ). n + 1) c.place-door.ensures.value;
        left = c.in-Ok.admission.left;
        admits = subst (λ (seat : Option ℕ). Admits c.in-Some.desk c.args.from.now seat c.in-Ok.admission.left
            c.admit.new.self) c.in_ok-admission.was c.in-Ok.ensures;
        owner = record {
          reader = c.open_room.ensures.keeps.owner.reader ∙ side.owner.reader;
          input = c.open_room.ensures.keeps.owner.input ∙ side.owner.input;
        };
        stays = record {
          rules = c.open_room.ensures.keeps.stays.rules ∙ side.stays.rules;
          name = c.open_room.ensures.keeps.stays.name ∙ side.stays.name;
          ended = λ was. c.open_room.ensures.keeps.stays.ended (side.stays.ended was);
        };
      },
    )
