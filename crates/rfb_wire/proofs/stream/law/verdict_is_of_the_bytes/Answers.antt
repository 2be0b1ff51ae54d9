use Rattle.rfb_wire.proofs.stream_laws.GrammarLaws.{cut_some, cut_verdict, cuts_agree}
use Rattle.rfb_wire.proofs.stream.law.verdict_is_of_the_bytes.Goals as goal

pub returns-clause-some : goal.returns-clause-some
returns-clause-some g c =
    λ grammar p front slices laws more. cut_some grammar laws p front slices more

pub returns-clause-same : goal.returns-clause-same
returns-clause-same g c =
    λ grammar p front slices items fault laws cut.
    cut_verdict grammar laws p front slices items fault cut

pub returns-clause-cuts : goal.returns-clause-cuts
returns-clause-cuts g c =
    λ grammar p one two items others fault other laws same a b.
    cuts_agree grammar laws p one two items others fault other same a b
