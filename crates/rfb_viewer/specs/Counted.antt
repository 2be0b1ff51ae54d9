-- How many bytes a viewer has used in all, and where a fault comes: with which byte. Bytes are counted
-- from 1.
use Rattle.std.specs.Prelude.{ℕ, ◌<◌, ◌≤◌, ◌≡◌, ◌≢◌, List, length}
use Rattle.rfb_wire.specs.stream.FaultPlace.{RefusedWith, RunsOutWith, counted_on}
use Rattle.rfb_viewer.specs.declared.fault.ViewerFault.{ViewerFault}
use Rattle.rfb_viewer.specs.declared.fault.ViewerFault.TheVariants.{NoMemory}
use Rattle.rfb_viewer.specs.declared.viewer.Viewer.{Viewer}
use Rattle.rfb_viewer.specs.Viewer.{Viewing, viewer, AsksMemory}
use Rattle.rfb_viewer.specs.Model.{StandsFor, taken_of}

-- the fault comes with byte n: the bytes up to it are refused, or lead to where memory is asked for,
-- and those before it are taken, whatever the viewer stood for
pub record IsPlacedAt (n : ℕ) (fault : ViewerFault) (old : Viewer) (bytes : List ℕ) : Type 0 where
  pub some : 0 < n
  pub within : n ≤ length bytes
  pub refused : fault ≢ NoMemory → (viewing : Viewing) →
      RefusedWith (viewer viewing) (StandsFor viewing) old bytes n fault
  pub starved : fault ≡ NoMemory → (viewing : Viewing) →
      RunsOutWith (viewer viewing) (AsksMemory viewing) (StandsFor viewing) old bytes n

-- after a fault the count has the bytes up to the one with which it came
pub record CountsTo (fault : ViewerFault) (old : Viewer) (bytes : List ℕ) (new : Viewer) :
    Type 0 where
  pub last : ℕ
  pub placed : IsPlacedAt last fault old bytes
  pub count : taken_of new ≡ counted_on (taken_of old) last
