use Rattle.rfb_codec.proofs.UpdateWaitLaws.{message_got, message_waits, message_bad}
use Rattle.rfb_codec.proofs.law.updates.messages_stand_between_updates.Goals as goal

pub returns-clause-got : goal.returns-clause-got
returns-clause-got c = λ p bytes rest message none got. message_got p bytes rest message none got

pub returns-clause-waits : goal.returns-clause-waits
returns-clause-waits c = λ p bytes none waits. message_waits p bytes none waits

pub returns-clause-bad : goal.returns-clause-bad
returns-clause-bad c = λ p bytes fault none bad. message_bad p bytes fault none bad
