-- The turns so far led to this hub, and their answers are these.
use Rattle.rfb.specs.HubRun.{LeadsHub, TellsLine, deliveries_in}
use Rattle.rfb.proofs.script.hub_steps.settle.Given as goal

abbrev pub invariant-loop-turn : goal.invariant-loop-turn
invariant-loop-turn l = record {
  leads : LeadsHub l.initial.hub (deliveries_in l.slot l._turn) l.hub;
  told : TellsLine l.initial.hub (deliveries_in l.slot l._turn) l.all l.hub;
}
