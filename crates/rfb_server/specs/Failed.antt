-- What a session that has failed keeps, and a server: what the client's items before the fault made
-- of it.
use Rattle.std.specs.Prelude.{◌≡◌, ◌≢◌, ℕ, List}
use Rattle.rfb_pixel.specs.declared.colour.Colour.{Colour}
use Rattle.rfb_picture.specs.Grid.{Grid}
use Rattle.rfb_wire.specs.stream.Prefix.{Bad}
use Rattle.rfb_wire.specs.stream.End.{RunsOutBy}
use Rattle.rfb_server.specs.declared.fault.ServerFault.{ServerFault}
use Rattle.rfb_server.specs.declared.fault.ServerFault.TheVariants.{NoMemory}
use Rattle.rfb_server.specs.declared.session.Session.{Session}
use Rattle.rfb_server.specs.declared.server.Server.{Server}
use Rattle.rfb_server.specs.ClientBytes.{client_bytes}
use Rattle.rfb_server.specs.Server.{Serving, ServerState, server, AsksMemory}
use Rattle.rfb_server.specs.Model.{SessionStandsFor, StandsFor, screen_of}
use Rattle.rfb_server.specs.Model.{Notes, notes_in, notes_of, notes_at}

-- it ends at these bytes of the state's next item, by a fault of theirs or because it asks for
-- memory there; the screen and the notes are the state's
pub record EndsAt (serving : Serving) (fault : ServerFault) (screen : Grid Colour) (notes : Notes)
    (s : ServerState) (bytes : List ℕ) : Type 0 where
  pub bad : fault ≢ NoMemory → (client_bytes serving.hello.offer).next s.point bytes ≡ Bad fault
  pub asks : fault ≡ NoMemory → AsksMemory s bytes
  pub screen_is : screen ≡ s.screen
  pub notes_are : notes ≡ notes_at s

-- after a fault of a session, over whatever screen: from each state and prefix that it stood for,
-- the bytes have led through whole items to those of the next one, at which it ends. It has the
-- notes of the state that these whole items leave
abbrev pub EndsAs : Session → List ℕ → ServerFault → Session → Type 0
EndsAs old bytes fault new =
    (serving : Serving) (screen : Grid Colour) →
    RunsOutBy (server serving) (EndsAt serving fault screen (notes_in new))
    (SessionStandsFor serving screen) old bytes

-- after a fault of a server: from each state and prefix that it stood for, the bytes have led
-- through whole items to those of the next one, at which it ends. It has the screen and the notes
-- of the state that these whole items leave
abbrev pub KeepsNotes : ServerFault → Server → List ℕ → Server → Type 0
KeepsNotes fault old bytes new =
    (serving : Serving) →
    RunsOutBy (server serving) (EndsAt serving fault (screen_of new) (notes_of new))
    (StandsFor serving) old bytes
