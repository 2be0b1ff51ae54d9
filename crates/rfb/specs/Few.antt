-- The premise of an event, for a step.
use Rattle.std.specs.Prelude.{◌≤◌, ℕ, length}
use Rattle.rfb_session.specs.declared.event.Event.{Event}
use Rattle.rfb_session.specs.declared.event.Event.TheVariants.{CutText}
use Rattle.rfb_session.specs.declared.hub.event.HubEvent.{HubEvent}
use Rattle.rfb_session.specs.declared.hub.event.HubEvent.TheVariants.{Of, Foreign}
use Rattle.rfb_session.specs.declared.hub.event.SlotEvent.{SlotEvent}
use Rattle.rfb_session.specs.declared.hub.event.SlotEvent.TheVariants.{CutText as SlotText}
use Rattle.rfb.specs.declared.script.hub.hub_step.HubStep.{HubStep}
use Rattle.rfb.specs.declared.script.hub.hub_step.HubStep.TheVariants.{Event as HubOneEvent, Settle as HubSettle}
use Rattle.rfb.specs.declared.script.line.Step.{Step as ScriptStep}
use Rattle.rfb.specs.declared.script.line.Step.TheVariants.{Event as OneEvent, Settle}

-- how many bytes of text an event cuts
abbrev pub cut_by : Event → ℕ
cut_by (CutText text) = length text.items
cut_by event = 0

-- the same of a step
abbrev pub cut_length : ScriptStep → ℕ
cut_length (OneEvent event) = cut_by event
cut_length Settle = 0

-- a text that a step cuts has at most 1,048,576 bytes
abbrev pub HasFew : ScriptStep → Type 0
HasFew step = cut_length step ≤ 1048576

-- how many bytes of text an event of a slot cuts
abbrev pub cut_in_slot : SlotEvent → ℕ
cut_in_slot (SlotText text) = length text.items
cut_in_slot event = 0

-- how many bytes of text a hub's event cuts, or of foreign bytes it has
abbrev pub bytes_in_hub : HubEvent → ℕ
bytes_in_hub (Of slot event) = cut_in_slot event
bytes_in_hub (Foreign slot bytes) = length bytes.items
bytes_in_hub event = 0

-- the same of a step of a hub's script
abbrev pub length_in_hub : HubStep → ℕ
length_in_hub (HubOneEvent event) = bytes_in_hub event
length_in_hub (HubSettle slot) = 0

-- they are at most 1,048,576 bytes
abbrev pub HasFewInHub : HubStep → Type 0
HasFewInHub step = length_in_hub step ≤ 1048576
