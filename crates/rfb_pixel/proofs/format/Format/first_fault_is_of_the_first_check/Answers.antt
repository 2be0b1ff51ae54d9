use Rattle.rfb_pixel.proofs.ReadingLemmas.{first_fault-none, first_fault-reason}
use Rattle.rfb_pixel.proofs.format.Format.first_fault_is_of_the_first_check.Goals as goal

pub returns-clause-told : goal.returns-clause-told
returns-clause-told c = λ bytes fault fits told. first_fault-reason bytes fault fits told

pub returns-clause-none : goal.returns-clause-none
returns-clause-none c = λ bytes fault fits none. first_fault-none bytes fault fits none
