-- A world that makes its ends itself, after a list of events.
use Rattle.std.specs.Prelude.{ℕ, true, List, [], ◌∷◌}
use Rattle.rfb_pixel.specs.Format.{rgb888}
use Rattle.rfb_picture.specs.Grid.{uniform}
use Rattle.rfb_wire.specs.declared.encoding.Encoding.TheVariants.{Raw}
use Rattle.rfb_hello.specs.declared.version.Version.TheVariants.{V38}
use Rattle.rfb_server.specs.Server.{black}
use Rattle.rfb_server.specs.Model.{serving_with}
use Rattle.rfb_viewer.specs.Model.{viewing_with}
use Rattle.rfb_session.specs.declared.event.Event.{Event}
use Rattle.rfb_session.specs.declared.world.World.{World}
use Rattle.rfb_session.specs.Link.{Ends}
use Rattle.rfb_session.specs.Headline.{IsHeadline}
use Rattle.rfb_session.specs.Network.{Network, StepsAll}
use Rattle.rfb_session.specs.World.{StandsFor, NeitherFailed, first_network}

-- the screen's name
abbrev pub name : List ℕ
name = 114 ∷ 102 ∷ 98 ∷ []

-- what its ends are made with, for a screen of that size
abbrev pub ends_for : ℕ → ℕ → Ends
ends_for width height = record {
  serving = serving_with V38 width height name 1024;
  viewing = viewing_with rgb888 (Raw ∷ []) V38 true 16777216 1024;
}

-- a fresh world of these ends, with a black screen
abbrev pub IsMade : ℕ → ℕ → World → Type 0
IsMade width height world = StandsFor (ends_for width height) world
    (first_network (ends_for width height) (uniform width height black))

-- the events led from a fresh world with a black screen to a network that the world stands for;
-- neither end has failed, and the headline holds of it
abbrev pub Played : ℕ → ℕ → List Event → World → Type 0
Played width height events world =
    (n : Network)
    × StepsAll (ends_for width height)
    (first_network (ends_for width height) (uniform width height black)) events n
    × StandsFor (ends_for width height) world n × NeitherFailed world
    × IsHeadline (ends_for width height) n.link
