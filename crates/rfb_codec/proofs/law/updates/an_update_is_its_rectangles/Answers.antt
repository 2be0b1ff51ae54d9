use Rattle.rfb_codec.proofs.WholeUpdateLaws.{update_read, update_back, update_past}
use Rattle.rfb_codec.proofs.law.updates.an_update_is_its_rectangles.Goals as goal

pub returns-clause-read : goal.returns-clause-read
returns-clause-read c = λ p sent bytes none spelled. update_read p sent bytes none spelled

pub returns-clause-spelled : goal.returns-clause-spelled
returns-clause-spelled c = λ p sent bytes read. update_back p sent bytes read

pub returns-clause-past : goal.returns-clause-past
returns-clause-past c = λ p sent. update_past p sent
