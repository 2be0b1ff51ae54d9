-- How far a session is that lacks the memory of its places.
use Rattle.std.specs.Prelude.{Option, None, Some}
use Rattle.rfb_server.specs.declared.fault.ServerFault.{ServerFault}
use Rattle.rfb_server.specs.declared.session.input.progress.Progress.{Progress}
use Rattle.rfb_server.specs.declared.session.input.progress.Progress.TheVariants.{Handshake, Failed}

-- it is in the handshake, or has failed there
abbrev pub progress_at : Option ServerFault → Progress
progress_at None = Handshake
progress_at (Some fault) = Failed fault
