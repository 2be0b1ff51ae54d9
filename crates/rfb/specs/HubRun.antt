-- What a hub's script does: the events of its steps, and the hub that they lead to.
use Rattle.std.specs.Prelude.{◌≡◌, ℕ, zero, suc, List, [], ◌∷◌, Option, Some, None, bit_or, flat_map}
use Rattle.rfb_session.specs.declared.hub.Hub.{Hub}
use Rattle.rfb_session.specs.declared.hub.event.HubEvent.{HubEvent}
use Rattle.rfb_session.specs.declared.hub.event.HubEvent.TheVariants.{Of}
use Rattle.rfb_session.specs.declared.hub.event.HubFault.{HubFault}
use Rattle.rfb_session.specs.declared.hub.event.HubTold.{HubTold}
use Rattle.rfb_session.specs.declared.hub.event.SlotEvent.TheVariants.{ToServer, ToViewer}
use Rattle.rfb_session.specs.Hub.{HubStands}
use Rattle.rfb_session.specs.HubSteps.{HubSteps, RunsHub}
use Rattle.rfb.specs.declared.script.hub_steps.LineTold.{LineTold}
use Rattle.rfb.specs.declared.script.hub.hub_step.HubNumbered.{HubNumbered}
use Rattle.rfb.specs.declared.script.hub.hub_step.HubStep.{HubStep}
use Rattle.rfb.specs.declared.script.hub.hub_step.HubStep.TheVariants.{Event, Settle}

-- ---- the events of steps

-- in a slot all bytes reach the session, and then all the viewer, the given number of times
abbrev pub deliveries_in : ℕ → ℕ → List HubEvent
deliveries_in slot zero = []
deliveries_in slot (suc n) =
    Of slot (ToServer 4294967295) ∷ Of slot (ToViewer 4294967295) ∷ deliveries_in slot n

-- a settle is sixteen deliveries
abbrev pub hub_events_of : HubStep → List HubEvent
hub_events_of (Event event) = event ∷ []
hub_events_of (Settle slot) = deliveries_in slot 8

-- the events of all steps, in order
abbrev pub hub_events : List HubNumbered → List HubEvent
hub_events steps = flat_map (λ (s : HubNumbered). hub_events_of s.step) steps

-- ---- what they lead to

-- the events led there, and the answers of their steps are these, in order
abbrev pub RunsTelling : Hub → List HubEvent → List HubTold → Hub → Type 0
RunsTelling old [] [] new = new ≡ old
RunsTelling old (event ∷ events) (told ∷ all) new =
    (mid : Hub) × HubSteps old event told mid × RunsTelling mid events all new
RunsTelling old events all new = ⊥

-- the first of two refusals
abbrev pub or_refusal : Option HubFault → Option HubFault → Option HubFault
or_refusal None later = later
or_refusal (Some fault) later = Some fault

-- the first refusal, and all slots that are reported as emptied, with those of later answers
abbrev pub refusal_with : Option HubFault → List HubTold → Option HubFault
refusal_with first [] = first
refusal_with first (told ∷ all) = refusal_with (or_refusal first told.refused) all

abbrev pub ended_with : ℕ → List HubTold → ℕ
ended_with ended [] = ended
ended_with ended (told ∷ all) = ended_with (bit_or ended told.ended) all

-- what is reported of a line, by the answers of its events
pub record TellsLine (old : Hub) (events : List HubEvent) (told : LineTold) (new : Hub)
    : Type 0 where
  pub all : List HubTold
  pub runs : RunsTelling old events all new
  pub refused : told.refused ≡ refusal_with None all
  pub ended : told.ended ≡ ended_with 0 all

-- the events led there, and if the hub's slots stood for networks, they do
pub record LeadsHub (old : Hub) (events : List HubEvent) (new : Hub) : Type 0 where
  pub runs : RunsHub old events new
  pub stands : HubStands old → HubStands new
