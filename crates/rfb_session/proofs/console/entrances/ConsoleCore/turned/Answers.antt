use Rattle.std.proofs.Common.{◌∙◌, sym}
use Rattle.rfb_session.proofs.ConsoleLemmas.{does_then, stays_then}
use Rattle.rfb_session.proofs.console.entrances.ConsoleCore.turned.Goals as goal

pub returns-clause-steps : goal.returns-clause-steps
returns-clause-steps g c =
    let ends = c.end_turn.ensures in
    let turns = c.turn_desk.ensures in
    record {
      does = (
        does_then _ c.args.self.now c.turn_desk.new.self c.end_turn.new.self turns.turns
            ends.desk ends.outcome ends.owner,
        λ going desk is. let was = sym ends.outcome ∙ going in
            ends.next was ∙ turns.next was desk (sym ends.desk ∙ is),
        ends.rooms,
      );
      ends = rw (ends.desk, ends.outcome) turns.ends;
      left = tt;
      stays = stays_then c.args.self.now c.turn_desk.new.self c.end_turn.new.self turns.side.stays ends.stays;
    }
