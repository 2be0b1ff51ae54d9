use Rattle.rfb_wire.specs.stream.Both.{LandsAs}
use Rattle.rfb_wire.proofs.stream_laws.BothLaws.{takes_as, refuses_as, starves_as, first_does, lands}
use Rattle.rfb_wire.proofs.stream.law.both.the_first_part_is_fed_as_its_end.Goals as goal

pub returns-clause-takes : goal.returns-clause-takes
returns-clause-takes g c = λ two m a shows event is other goes.
    takes_as is other (first_does goes) (LandsAs two m a shows) (lands goes is)

pub returns-clause-refuses : goal.returns-clause-refuses
returns-clause-refuses g c = λ two m a shows event is other goes. refuses_as is other (first_does goes)

pub returns-clause-starves : goal.returns-clause-starves
returns-clause-starves g c = λ two m a shows event is other goes. starves_as is other (first_does goes)
