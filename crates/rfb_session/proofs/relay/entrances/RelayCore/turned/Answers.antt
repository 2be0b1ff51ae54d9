use Rattle.std.proofs.Common.{◌∙◌, sym}
use Rattle.rfb_session.proofs.ConsoleLemmas.{stays_then}
use Rattle.rfb_session.proofs.RelayStepLemmas.{asks_on, planned_gone, rooms_planned, rooms_so}
use Rattle.rfb_session.proofs.relay.entrances.RelayCore.turned.Goals as goal

pub returns-clause-steps : goal.returns-clause-steps
returns-clause-steps g c =
    let turns = c.turn_desk.ensures in
    let first = c.ask.ensures in
    let asks = c.ask-2.ensures in
    let ends = c.end_turn.ensures in
    let opens = c.open_server.ensures in
    let spares = c.spare_seats.ensures.spares in
    let plans = c.plan_call.ensures.plans in
    let presence = spares.keeps.server.presence ∙ opens.keeps.server.presence ∙ asks.keeps.server.presence
    ∙ first.keeps.server.presence in
    record {
      does = record {
        asked = c.ask.new.self;
        asks_first = first.asks;
        keeps = first.keeps;
        mid = c.turn_desk.new.self;
        turns = turns.turns;
        ends = turns.ends;
        stays = turns.side.stays;
        asks = rw (
          ← first.keeps.server.presence,
          plans.console.desk ∙ spares.keeps.console.desk ∙ opens.keeps.console.desk ∙ ends.desk,
          plans.beside.waits ∙ spares.keeps.server.beside.waits ∙ opens.keeps.server.beside.waits,
          plans.console.outcome ∙ spares.keeps.console.outcome ∙ opens.keeps.console.outcome ∙ ends.outcome,
        ) asks.asks;
        coming = plans.beside.noted.coming ∙ spares.keeps.server.beside.noted.coming
            ∙ opens.keeps.server.beside.noted.coming ∙ asks.keeps.server.noted.coming
            ∙ first.keeps.server.noted.coming;
        presence = rw (plans.console.side.stays.rules, plans.console.outcome, ← presence) plans.presence;
        wakes = rw (plans.console.side.stays.rules, plans.console.outcome) plans.wakes;
        sooner = λ going desk is limit by.
            let was = sym (plans.console.outcome ∙ spares.keeps.console.outcome ∙ opens.keeps.console.outcome
            ∙ ends.outcome) ∙ going in
            plans.sooner limit (rw (
              spares.keeps.console.next,
              opens.keeps.console.next,
              ends.next was,
              asks.keeps.next,
              turns.next (asks_on asks.keeps.goes_on was) desk is,
            ) by);
        rooms = rooms_planned c.spare_seats.new.self c.args.now c.plan_call.new.self plans
            (rooms_so _ c.open_server.new.self c.spare_seats.new.self ends.rooms opens.keeps opens.room opens.others
            spares) (rw plans.presence (planned_gone _ _ _ _));
      };
      stays = stays_then c.args.self.now.console c.ask.new.self.console c.plan_call.new.self.console
          first.keeps.side.stays
          (stays_then c.ask.new.self.console c.turn_desk.new.self c.plan_call.new.self.console turns.side.stays
          (stays_then c.turn_desk.new.self c.ask-2.new.self.console c.plan_call.new.self.console asks.keeps.side.stays
          (stays_then c.ask-2.new.self.console c.end_turn.new.self c.plan_call.new.self.console ends.stays
          (stays_then c.end_turn.new.self c.open_server.new.self.console c.plan_call.new.self.console
          opens.keeps.console.stays
          (stays_then c.open_server.new.self.console c.spare_seats.new.self.console c.plan_call.new.self.console
          spares.keeps.console.stays plans.console.side.stays)))));
      given = c.plan_call.ensures.given ∙ c.spare_seats.ensures.given ∙ opens.given ∙ asks.given ∙ first.given;
    }
