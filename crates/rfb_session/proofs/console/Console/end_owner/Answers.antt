use Rattle.std.proofs.Common.{Some, None, sym, ap, subst, ◌∙◌}
use Rattle.rfb_session.specs.declared.console.Console.{Console}
use Rattle.rfb_session.specs.console.Console.{EndsNow, Stays}
use Rattle.rfb_session.proofs.ConsoleLemmas.{stays_then}
use Rattle.rfb_session.proofs.console.Console.end_owner.Goals.{in-Some, in_default}
use Rattle.rfb_session.proofs.console.Console.end_owner.Goals as goal

pub returns-clause-ends : goal.returns-clause-ends
returns-clause-ends g c =
    let C = Console g.row.S.Denot in
    let last = c.end_without_screen.ensures in
    elim c.match-end.branch [
      | in-Some w ↦
          let side = w.follow_last.ensures.side in
          EndsNow (Some w.in-Some.order)
          (rw (last.side.owner.reader ∙ ap (λ (s : C). s.reader) w.self-is ∙ side.owner.reader)
          w.in-Some.ensures)
          w.follow_last.new.self.outcome
          (rw (last.desk ∙ ap (λ (s : C). s.desk) w.self-is) w.follow_last.ensures.obeys)
          (λ some. last.outcome (λ none. some (sym (ap (λ (s : C). s.outcome) w.self-is) ∙ none))
          ∙ ap (λ (s : C). s.outcome) w.self-is)
          (last.side.owner.input ∙ ap (λ (s : C). s.has_input_ended) w.self-is ∙ side.owner.input)
      | in_default w ↦
          EndsNow None
          (rw (last.side.owner.reader ∙ ap (λ (s : C). s.reader) w.self-is, sym w.in_default.is) c.end.ensures)
          c.args.self.now.outcome
          (last.desk ∙ ap (λ (s : C). s.desk) w.self-is)
          (λ some. last.outcome (λ none. some (sym (ap (λ (s : C). s.outcome) w.self-is) ∙ none))
          ∙ ap (λ (s : C). s.outcome) w.self-is)
          (last.side.owner.input ∙ ap (λ (s : C). s.has_input_ended) w.self-is)
    ]

pub returns-clause-stays : goal.returns-clause-stays
returns-clause-stays g c =
    let new = c.end_without_screen.new.self in
    let after = λ (s : Console g.row.S.Denot). Stays s new in
    let last = c.end_without_screen.ensures.side.stays in
    elim c.match-end.branch [
      | in-Some w ↦
          let one = stays_then _ w.follow_last.new.self new w.follow_last.ensures.side.stays
          (subst after w.self-is last) in
          record { rules = one.rules; name = one.name; ended = one.ended }
      | in_default w ↦
          let one = subst after w.self-is last in
          record { rules = one.rules; name = one.name; ended = one.ended }
    ]
