-- How many bytes a server has used in all, and where a client's fault comes: with which byte. Bytes
-- are counted from 1.
use Rattle.std.specs.Prelude.{ℕ, ◌<◌, ◌≤◌, ◌≡◌, ◌≢◌, List, length}
use Rattle.rfb_pixel.specs.declared.colour.Colour.{Colour}
use Rattle.rfb_picture.specs.Grid.{Grid}
use Rattle.rfb_wire.specs.stream.FaultPlace.{RefusedWith, RunsOutWith, counted_on}
use Rattle.rfb_server.specs.declared.fault.ServerFault.{ServerFault}
use Rattle.rfb_server.specs.declared.fault.ServerFault.TheVariants.{NoMemory}
use Rattle.rfb_server.specs.declared.server.Server.{Server}
use Rattle.rfb_server.specs.declared.session.Session.{Session}
use Rattle.rfb_server.specs.Server.{Serving, server, AsksMemory}
use Rattle.rfb_server.specs.Model.{SessionStandsFor, StandsFor, taken_of}

-- the fault of a session comes with byte n: the bytes up to it are refused, or lead to where memory
-- is asked for, and those before it are taken, whatever the session stood for
pub record IsPlacedIn (n : ℕ) (fault : ServerFault) (old : Session) (bytes : List ℕ) :
    Type 0 where
  pub some : 0 < n
  pub within : n ≤ length bytes
  pub refused : fault ≢ NoMemory → (serving : Serving) (screen : Grid Colour) →
      RefusedWith (server serving) (SessionStandsFor serving screen) old bytes n fault
  pub starved : fault ≡ NoMemory → (serving : Serving) (screen : Grid Colour) →
      RunsOutWith (server serving) AsksMemory (SessionStandsFor serving screen) old bytes n

-- the same of a server
pub record IsPlacedAt (n : ℕ) (fault : ServerFault) (old : Server) (bytes : List ℕ) : Type 0 where
  pub some : 0 < n
  pub within : n ≤ length bytes
  pub refused : fault ≢ NoMemory → (serving : Serving) →
      RefusedWith (server serving) (StandsFor serving) old bytes n fault
  pub starved : fault ≡ NoMemory → (serving : Serving) →
      RunsOutWith (server serving) AsksMemory (StandsFor serving) old bytes n

-- after a fault the count has the bytes up to the one with which it came
pub record CountsTo (fault : ServerFault) (old : Server) (bytes : List ℕ) (new : Server) :
    Type 0 where
  pub last : ℕ
  pub placed : IsPlacedAt last fault old bytes
  pub count : taken_of new ≡ counted_on (taken_of old) last
