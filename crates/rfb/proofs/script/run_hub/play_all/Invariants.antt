-- The steps so far led to this hub.
use Rattle.std.proofs.Common.{take}
use Rattle.rfb.specs.HubRun.{LeadsHub, hub_events}
use Rattle.rfb.proofs.script.run_hub.play_all.Given as goal

abbrev pub invariant-loop-numbered : goal.invariant-loop-numbered
invariant-loop-numbered g l = LeadsHub l.initial.hub (hub_events (take l.numbered-index l.steps)) l.hub
