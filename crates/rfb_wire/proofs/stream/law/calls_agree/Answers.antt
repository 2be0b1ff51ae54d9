use Rattle.rfb_wire.proofs.stream_laws.EndLaws.{calls_agree}
use Rattle.rfb_wire.proofs.stream.law.calls_agree.Goals as goal

pub returns : goal.returns
returns g c =
    λ m s t u prefix mid rest one two is more same a b.
    calls_agree m is s t u prefix mid rest one two more same a b
