use Rattle.std.proofs.Common.{refl, subst, ℕ}
use Rattle.rfb_session.specs.console.Console.{Done, waiting_at}
use Rattle.rfb_session.specs.console.Turns.{WritesLines, WritesSeat}
use Rattle.rfb_session.proofs.ConsoleLemmas.{by_lines, by_seat, many, wrote_so}
use Rattle.rfb_session.proofs.console.entrances.ConsoleCore.written.Goals as goal

pub returns-then-door-eq-LINES-clause-steps : goal.returns-then-door-eq-LINES-clause-steps
returns-then-door-eq-LINES-clause-steps g c =
    wrote_so c.args.self.now _ c.args.door c.args.count c.requires.bound
    (by_lines c.args.door _ _ _ _ c.if-door-eq-LINES.true (record {
      desk = Done _ _ c.in-Some.is refl
          (subst (λ (n : ℕ). WritesLines c.in-Some.desk n c.written_lines.new.self)
          (many c.args.count (waiting_at c.args.self.now c.args.door) c.requires.bound) c.written_lines.ensures);
      owner = record { reader = refl; input = refl };
    })) refl (record { rules = refl; name = refl; ended = λ was. was })

pub returns-in-Some-seat_at-clause-steps : goal.returns-in-Some-seat_at-clause-steps
returns-in-Some-seat_at-clause-steps g c =
    wrote_so c.args.self.now _ c.args.door c.args.count c.requires.bound
    (by_seat c.args.door _ _ _ _ c.in-Some-seat_at.seat c.in-Some-seat_at.ensures.some.1
    c.in-Some-seat_at.ensures.some.0 (record {
      desk = Done _ _ c.in-Some.is refl
          (subst (λ (n : ℕ). WritesSeat c.in-Some.desk c.in-Some-seat_at.seat n c.written.new.self)
          (many c.args.count (waiting_at c.args.self.now c.args.door) c.requires.bound) c.written.ensures);
      owner = record { reader = refl; input = refl };
    })) refl (record { rules = refl; name = refl; ended = λ was. was })
