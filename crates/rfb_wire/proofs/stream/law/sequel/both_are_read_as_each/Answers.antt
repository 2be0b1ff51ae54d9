use Rattle.rfb_wire.proofs.stream_laws.SequelLaws.{all_first, all_second, all_both}
use Rattle.rfb_wire.proofs.stream.law.sequel.both_are_read_as_each.Goals as goal

pub returns-clause-first : goal.returns-clause-first
returns-clause-first g c =
    λ two p bytes rest items stays reads. all_first two p bytes items rest stays reads

pub returns-clause-second : goal.returns-clause-second
returns-clause-second g c = λ two q bytes rest items reads. all_second two q bytes items rest reads

pub returns-clause-both : goal.returns-clause-both
returns-clause-both g c =
    λ two p q bytes mid rest items last others stays leads a b.
    all_both two p q bytes mid rest items last others stays leads a b
