use Rattle.std.proofs.Common.{◌≡◌, Some, None, ◌∙◌, inl, inr}
use Rattle.rfb_session.specs.declared.console.Outcome.{Outcome}
use Rattle.rfb_session.proofs.ConsoleLemmas.{by_owner, by_seat, by_lines, by_notes, by_none, does_then, kept_by}
use Rattle.rfb_session.proofs.ConsoleLemmas.{at_owner_fails, rooms_kept, stays_then}
use Rattle.rfb_session.proofs.console.entrances.ConsoleCore.failed.Goals.{then-door-eq-OWNER}
use Rattle.rfb_session.proofs.console.entrances.ConsoleCore.failed.Goals.{else-door-eq-OWNER+then-door-eq-LINES}
use Rattle.rfb_session.proofs.console.entrances.ConsoleCore.failed.Goals.{
  else-door-eq-OWNER+else-door-eq-LINES+then-door-eq-NOTES,
}
use Rattle.rfb_session.proofs.console.entrances.ConsoleCore.failed.Goals.{
  else-door-eq-OWNER+else-door-eq-LINES+else-door-eq-NOTES+in-Some,
}
use Rattle.rfb_session.proofs.console.entrances.ConsoleCore.failed.Goals.{
  else-door-eq-OWNER+else-door-eq-LINES+else-door-eq-NOTES+in_default,
}
use Rattle.rfb_session.proofs.console.entrances.ConsoleCore.failed.Goals as goal

some_none : (ends : Outcome) → Some ends ≡ None → ⊥
some_none ends same = cc

pub returns : goal.returns
returns g c =
    let old = c.args.self.now in
    let new = c.close_room.new.self in
    elim c.if-door-eq-OWNER.branch [
      | then-door-eq-OWNER w ↦
          let keeps = rooms_kept w.self-is c.close_room.ensures.keeps in
          record {
            does = by_owner c.args.door _ _ _ _ w.if-door-eq-OWNER.true (record {
              desk = keeps.desk ∙ w.lose_owner.ensures.loses.desk;
              reader = keeps.owner.reader ∙ w.lose_owner.ensures.loses.reader;
              input = keeps.owner.input ∙ w.lose_owner.ensures.loses.input;
            });
            ends = rw (keeps.desk, keeps.outcome) (at_owner_fails c.args.door w.if-door-eq-OWNER.true
                w.lose_owner.ensures.ends);
            left = tt;
            stays = stays_then old w.lose_owner.new.self new w.lose_owner.ensures.stays keeps.stays;
          }
      | else-door-eq-OWNER+then-door-eq-LINES w ↦
          let keeps = rooms_kept w.self-is c.close_room.ensures.keeps in
          record {
            does = by_lines c.args.door _ _ _ _ w.if-door-eq-LINES.true (
              record {
                desk = keeps.desk;
                owner = record { reader = keeps.owner.reader; input = keeps.owner.input };
              },
              keeps.outcome,
            );
            ends = inr (inr (w.if-door-eq-LINES.true, keeps.outcome));
            left = tt;
            stays = record {
              rules = keeps.stays.rules;
              name = keeps.stays.name;
              ended = λ was. keeps.stays.ended (some_none _);
            };
          }
      | else-door-eq-OWNER+else-door-eq-LINES+then-door-eq-NOTES w ↦
          let keeps = rooms_kept w.self-is c.close_room.ensures.keeps in
          let loses = w.lose_notes.ensures in
          record {
            does = by_notes c.args.door _ _ _ _ w.if-door-eq-NOTES.true (record {
              desk = keeps.desk ∙ loses.desk;
              owner = record {
                reader = keeps.owner.reader ∙ loses.side.owner.reader;
                input = keeps.owner.input ∙ loses.side.owner.input;
              };
            });
            ends = inl (inl (keeps.outcome ∙ loses.outcome));
            left = tt;
            stays = stays_then old w.lose_notes.new.self new loses.side.stays keeps.stays;
          }
      | else-door-eq-OWNER+else-door-eq-LINES+else-door-eq-NOTES+in-Some w ↦
          let keeps = rooms_kept w.self-is c.close_room.ensures.keeps in
          record {
            does = by_seat c.args.door _ _ _ _ w.in-Some.seat w.in-Some.ensures.some.1 w.in-Some.ensures.some.0
                (does_then _ old w.lose_seat.new.self new w.lose_seat.ensures.loses keeps.desk keeps.outcome
                keeps.owner);
            ends = inl (rw keeps.outcome w.lose_seat.ensures.ends);
            left = tt;
            stays = stays_then old w.lose_seat.new.self new w.lose_seat.ensures.side.stays keeps.stays;
          }
      | else-door-eq-OWNER+else-door-eq-LINES+else-door-eq-NOTES+in_default w ↦
          let keeps = rooms_kept w.self-is c.close_room.ensures.keeps in
          record {
            does = by_none c.args.door _ _ _ _ (w.seat_at.ensures.none w.in_default.is)
                (λ is. absurd (w.if-door-eq-OWNER.false is)) (λ is. absurd (w.if-door-eq-LINES.false is))
                (kept_by _ _ keeps);
            ends = inl (inl keeps.outcome);
            left = tt;
            stays = keeps.stays;
          }
    ]
