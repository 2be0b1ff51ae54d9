use Rattle.rfb_wire.proofs.stream_laws.GrammarLaws.{within_append}
use Rattle.rfb_wire.proofs.stream_laws.EndLaws.{delivered, not_refused}
use Rattle.rfb_wire.proofs.stream.law.deliveries_take_from_the_front.Goals as goal

pub returns-clause-taken : goal.returns-clause-taken
returns-clause-taken g c =
    λ m s t prefix bytes later rest queue event is flight takes.
    delivered m is s t prefix bytes later rest queue event takes flight

pub returns-clause-good : goal.returns-clause-good
returns-clause-good g c =
    λ m s prefix bytes later queue fault is flight refused.
    not_refused m is s prefix bytes later queue fault flight refused

pub returns-clause-within : goal.returns-clause-within
returns-clause-within g c =
    λ grammar n p bytes rest xs ys laws within reads.
    within_append grammar laws n p bytes xs ys rest within reads
