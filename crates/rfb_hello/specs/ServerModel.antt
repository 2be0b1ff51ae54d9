-- What a `ServerHello` stands for: a setup, a point of the handshake, and the bytes that came of
-- the client's next item, fewer than it has.
use Rattle.std.specs.Prelude.{◌≡◌, ℕ, Bool, List, Option}
use Rattle.rfb_hello.specs.declared.fault.HelloFault.{HelloFault}
use Rattle.rfb_hello.specs.declared.server_hello.ServerHello.{ServerHello}
use Rattle.rfb_hello.specs.ClientHandshake.{ClientPoint}
use Rattle.rfb_hello.specs.ServerEnd.{ServerSetup}
use Rattle.rfb_hello.specs.ServerProgress.{ProgressStandsFor, fault_in, is_open as goes_on}
use Rattle.rfb_hello.specs.ServerProgress.{least_left}

-- the setup that it was made with
abbrev pub setup_of : ServerHello → ServerSetup
setup_of hello =
    record {
      offer = hello.offer;
      width = hello.width;
      height = hello.height;
      name = hello.name.items;
    }

-- the end stands for a setup, a point and a prefix
pub record StandsFor (setup : ServerSetup) (hello : ServerHello) (point : ClientPoint)
    (prefix : List ℕ) : Type 0 where
  pub setup_is : setup_of hello ≡ setup
  pub progress_is : ProgressStandsFor hello.progress point prefix

-- the fault that it has failed with, if it has
abbrev pub fault_of : ServerHello → Option HelloFault
fault_of hello = fault_in hello.progress

-- the client's bytes go on in the handshake
abbrev pub is_open : ServerHello → Bool
is_open hello = goes_on hello.progress

-- how many bytes the client sends at least before its handshake is done
abbrev pub left_of : ServerHello → ℕ
left_of hello = least_left hello.progress
