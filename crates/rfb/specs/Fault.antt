-- Which fault an error of the machine is.
use Rattle.std.specs.Prelude.{◌≡◌, ◌≢◌, ◌⊎◌}
use Rattle.std.specs.IoError.{error_kind}
use Rattle.std.specs.declared.io.Error.{Error}
use Rattle.std.specs.declared.io.ErrorKind.TheVariants.{OutOfMemory}
use Rattle.rfb.specs.declared.fault.Failure.{Failure}
use Rattle.rfb.specs.declared.fault.Failure.TheVariants.{Fault as FaultFailure}
use Rattle.rfb.specs.declared.fault.Fault.{Fault}
use Rattle.rfb.specs.declared.fault.Fault.TheVariants.{Device, NoMemory}

-- an error of that kind is want of memory, and any other a fault of a device
abbrev pub IsFaultOf : Error → Fault → Type 0
IsFaultOf error fault =
    ((error_kind error ≡ OutOfMemory) × (fault ≡ NoMemory))
    ⊎ ((error_kind error ≢ OutOfMemory) × (fault ≡ Device))

-- the same as a failure of a command
abbrev pub IsFailureOf : Error → Failure → Type 0
IsFailureOf error failure = (fault : Fault) × IsFaultOf error fault × (failure ≡ FaultFailure fault)
