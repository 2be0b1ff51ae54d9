use Rattle.std.proofs.Common.{◌≡◌, Some}
use Rattle.rfb_wire.proofs.stream_laws.BothLaws.{takes_as, refuses_as, starves_as, second_does, second_stays}
use Rattle.rfb_wire.proofs.stream.law.both.the_second_part_is_fed_as_its_end.Goals as goal

pub returns-clause-takes : goal.returns-clause-takes
returns-clause-takes g c = λ two m b shows event is other goes.
    takes_as is other (second_does goes) (λ t v. shows t ≡ Some v) (second_stays goes)

pub returns-clause-refuses : goal.returns-clause-refuses
returns-clause-refuses g c = λ two m b shows event is other goes. refuses_as is other (second_does goes)

pub returns-clause-starves : goal.returns-clause-starves
returns-clause-starves g c = λ two m b shows event is other goes. starves_as is other (second_does goes)
