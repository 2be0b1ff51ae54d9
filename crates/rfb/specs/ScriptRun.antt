-- What a script does: the events of its steps, and the world that they lead to.
use Rattle.std.specs.Prelude.{◌≡◌, ℕ, zero, suc, true, List, [], ◌∷◌, Option, Some, None, flat_map}
use Rattle.rfb_pixel.specs.Format.{PixelFormat, rgb888}
use Rattle.rfb_picture.specs.Grid.{uniform}
use Rattle.rfb_wire.specs.declared.encoding.Encoding.{Encoding}
use Rattle.rfb_wire.specs.declared.encoding.Encoding.TheVariants.{Raw}
use Rattle.rfb_hello.specs.declared.version.Version.TheVariants.{V38}
use Rattle.rfb_server.specs.declared.server.Server.{Server}
use Rattle.rfb_server.specs.Server.{Serving, black, first_server}
use Rattle.rfb_server.specs.Model.{StandsFor as ServerStandsFor, serving_with}
use Rattle.rfb_viewer.specs.Model.{viewing_with}
use Rattle.rfb_session.specs.declared.event.Event.{Event}
use Rattle.rfb_session.specs.declared.event.Event.TheVariants.{ToServer, ToViewer}
use Rattle.rfb_session.specs.declared.world.World.{World}
use Rattle.rfb_session.specs.Headline.{IsHeadline}
use Rattle.rfb_session.specs.Link.{Ends}
use Rattle.rfb_session.specs.InFlight.{AreMade}
use Rattle.rfb_session.specs.Network.{IsReached, Network, StepsAll}
use Rattle.rfb_session.specs.Told.{RefusesAs}
use Rattle.rfb_session.specs.declared.told.Refused.{Refused}
use Rattle.rfb_session.specs.World.{StandsFor, NeitherFailed, Reaches, first_network}
use Rattle.rfb.specs.declared.script.line.Numbered.{Numbered}
use Rattle.rfb_session.specs.declared.language.screen.Screen.{Screen as Size}
use Rattle.rfb.specs.declared.script.line.Wants.{Wants}
use Rattle.rfb.specs.declared.script.line.Step.{Step as ScriptStep}
use Rattle.rfb.specs.declared.script.line.Step.TheVariants.{Event as OneEvent, Settle}

-- ---- the events of steps

-- all bytes reach the server, and then all the viewer, the given number of times
abbrev pub deliveries : ℕ → List Event
deliveries zero = []
deliveries (suc n) = ToServer 4294967295 ∷ ToViewer 4294967295 ∷ deliveries n

-- a settle is sixteen deliveries
abbrev pub events_of : ScriptStep → List Event
events_of (OneEvent event) = event ∷ []
events_of Settle = deliveries 8

-- the events of all steps, in order
abbrev pub all_events : List Numbered → List Event
all_events steps = flat_map (λ (s : Numbered). events_of s.step) steps

-- ---- the ends

-- the viewer wants Raw at rgb888 where nothing else is said
abbrev pub format_of : Option Wants → PixelFormat
format_of None = rgb888
format_of (Some wants) = wants.format

abbrev pub encodings_of : Option Wants → List Encoding
encodings_of None = Raw ∷ []
encodings_of (Some wants) = wants.encodings.items

-- the screen's name
abbrev pub name : List ℕ
name = 114 ∷ 102 ∷ 98 ∷ []

-- what a server is made with
abbrev pub serving_of : Size → Serving
serving_of size = serving_with V38 size.width size.height name 1024

-- what both ends are made with
abbrev pub ends_of : Size → Option Wants → Ends
ends_of size wants = record {
  serving = serving_of size;
  viewing = viewing_with (format_of wants) (encodings_of wants) V38 true 16777216 1024;
}

-- a server that was fed nothing
abbrev pub IsFreshServer : Size → Server → Type 0
IsFreshServer size server =
    ServerStandsFor (serving_of size) server (first_server (serving_of size)) []

-- the network of both ends before anything happened
abbrev pub first_of : Size → Option Wants → Network
first_of size wants = first_network (ends_of size wants) (uniform size.width size.height black)

-- ---- worlds

-- a world stands for it
abbrev pub StandsFresh : Size → Option Wants → World → Type 0
StandsFresh size wants world = StandsFor (ends_of size wants) world (first_of size wants)

-- whatever network the world stood for, the step's events lead to one that it then stands for
abbrev pub TakesStep : World → ScriptStep → World → Type 0
TakesStep old step new = Reaches old (events_of step) new (λ e n. Unit {0})

-- the same of all steps, in order
abbrev pub TakesAll : World → List Numbered → World → Type 0
TakesAll old steps new = Reaches old (all_events steps) new (λ e n. Unit {0})

-- a step is refused as its event is, whatever network the world stood for; deliveries never are
abbrev pub TellsRefusal : World → ScriptStep → Option Refused → Type 0
TellsRefusal old (OneEvent event) refused =
    (e : Ends) (n : Network) → AreMade e → IsReached e n → StandsFor e old n →
    RefusesAs n event refused
TellsRefusal old Settle refused = refused ≡ None

-- the steps' events led from two fresh ends to a network that the world stands for; neither end
-- has failed, and the headline holds of it
abbrev pub IsPlayed : Size → Option Wants → List Numbered → World → Type 0
IsPlayed size wants steps world =
    (n : Network)
    × StepsAll (ends_of size wants) (first_of size wants) (all_events steps) n
    × StandsFor (ends_of size wants) world n × NeitherFailed world
    × IsHeadline (ends_of size wants) n.link
