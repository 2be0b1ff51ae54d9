-- What a step of a hub answers.
use Rattle.std.specs.Prelude.{◌≡◌, false, Option, Some, None}
use Rattle.rfb_session.specs.declared.hub.event.HubFault.{HubFault}
use Rattle.rfb_session.specs.declared.hub.event.HubFault.TheVariants.{Outside as HubOutside}
use Rattle.rfb_session.specs.declared.hub.event.HubFault.TheVariants.{NotReady as HubNotReady}
use Rattle.rfb_session.specs.declared.hub.event.HubFault.TheVariants.{Busy as HubBusy}
use Rattle.rfb_session.specs.declared.hub.event.HubFault.TheVariants.{AreaOutside as HubAreaOutside}
use Rattle.rfb_session.specs.declared.hub.event.HubTold.{HubTold}
use Rattle.rfb_session.specs.declared.told.Refused.{Refused}
use Rattle.rfb_session.specs.declared.told.Refused.TheVariants.{Outside, NotReady, Busy}
use Rattle.rfb_session.specs.declared.told.Refused.TheVariants.{AreaOutside}
use Rattle.rfb_session.specs.declared.told.Told.{Told}

-- no bytes were moved, no update was composed, and no slot was emptied
pub record IsMere (told : HubTold) : Type 0 where
  pub moved : told.moved ≡ 0
  pub composed : told.composed ≡ false
  pub ended : told.ended ≡ 0

-- the refusal of an event of one slot, as a hub's
abbrev pub hub_refusal : Option Refused → Option HubFault
hub_refusal None = None
hub_refusal (Some Outside) = Some HubOutside
hub_refusal (Some NotReady) = Some HubNotReady
hub_refusal (Some Busy) = Some HubBusy
hub_refusal (Some AreaOutside) = Some HubAreaOutside

-- what became of an event in its slot, as a hub reports it
pub record TellsFor (told : Told) (all : HubTold) : Type 0 where
  pub moved : all.moved ≡ told.moved
  pub refused : all.refused ≡ hub_refusal told.refused
  pub composed : all.composed ≡ told.composed
