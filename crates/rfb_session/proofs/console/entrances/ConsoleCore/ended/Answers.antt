use Rattle.std.proofs.Common.{inl}
use Rattle.rfb_session.proofs.ConsoleLemmas.{by_owner, by_seat, by_none, does_then, ends_then, kept_by, rooms_kept}
use Rattle.rfb_session.proofs.ConsoleLemmas.{at_owner_ends, stays_then}
use Rattle.rfb_session.proofs.console.entrances.ConsoleCore.ended.Goals.{then-door-eq-OWNER}
use Rattle.rfb_session.proofs.console.entrances.ConsoleCore.ended.Goals.{else-door-eq-OWNER+in-Some}
use Rattle.rfb_session.proofs.console.entrances.ConsoleCore.ended.Goals.{else-door-eq-OWNER+in_default}
use Rattle.rfb_session.proofs.console.entrances.ConsoleCore.ended.Goals as goal

pub returns : goal.returns
returns g c =
    let new = c.close_room.new.self in
    elim c.if-door-eq-OWNER.branch [
      | then-door-eq-OWNER w ↦
          let keeps = rooms_kept w.self-is c.close_room.ensures.keeps in
          record {
            does = by_owner c.args.door _ _ _ _ w.if-door-eq-OWNER.true
                (ends_then c.args.self.now w.end_owner.new.self new w.end_owner.ensures.ends keeps);
            ends = rw (keeps.desk, keeps.outcome) (at_owner_ends c.args.door w.if-door-eq-OWNER.true
                w.end_owner.ensures.outcome);
            left = tt;
            stays = stays_then c.args.self.now w.end_owner.new.self new w.end_owner.ensures.stays keeps.stays;
          }
      | else-door-eq-OWNER+in-Some w ↦
          let keeps = rooms_kept w.self-is c.close_room.ensures.keeps in
          record {
            does = by_seat c.args.door _ _ _ _ w.in-Some.seat w.in-Some.ensures.some.1 w.in-Some.ensures.some.0
                (does_then _ c.args.self.now w.let_seat_go.new.self new w.let_seat_go.ensures.leaves
                keeps.desk keeps.outcome keeps.owner);
            ends = inl (rw keeps.outcome w.let_seat_go.ensures.ends);
            left = tt;
            stays = stays_then c.args.self.now w.let_seat_go.new.self new w.let_seat_go.ensures.side.stays
                keeps.stays;
          }
      | else-door-eq-OWNER+in_default w ↦
          let keeps = rooms_kept w.self-is c.close_room.ensures.keeps in
          record {
            does = by_none c.args.door _ _ _ _ (w.seat_at.ensures.none w.in_default.is)
                (λ is. absurd (w.if-door-eq-OWNER.false is)) (λ is. kept_by _ _ keeps) (kept_by _ _ keeps);
            ends = inl (inl keeps.outcome);
            left = tt;
            stays = keeps.stays;
          }
    ]
