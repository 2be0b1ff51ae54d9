use Rattle.rfb_server.proofs.ComposingLaws.{recorded_or_wanted}
use Rattle.rfb_server.proofs.law.a_record_is_as_before_or_as_wanted.Goals as goal

pub returns-clause-asked : goal.returns-clause-asked
returns-clause-asked c = λ old new bytes copies blocks x y composes place asked. composes.answered x y place asked

pub returns-clause-each : goal.returns-clause-each
returns-clause-each c = recorded_or_wanted
