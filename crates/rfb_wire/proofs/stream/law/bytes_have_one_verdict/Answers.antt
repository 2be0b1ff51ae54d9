use Rattle.rfb_wire.proofs.stream_laws.GrammarLaws.{verdict_some, verdict_one}
use Rattle.rfb_wire.proofs.stream.law.bytes_have_one_verdict.Goals as goal

pub returns-clause-some : goal.returns-clause-some
returns-clause-some g c = λ grammar p bytes laws. verdict_some grammar laws p bytes

pub returns-clause-one : goal.returns-clause-one
returns-clause-one g c =
    λ grammar p bytes items others fault other a b.
    verdict_one grammar p bytes items others fault other a b
