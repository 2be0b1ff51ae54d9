use Rattle.rfb_codec.proofs.PendingLaws.{message_pending_next, short_head_pending, data_pending_next}
use Rattle.rfb_codec.proofs.PendingLaws.{update_pending_below, update_pending_within}
use Rattle.rfb_codec.proofs.law.pending.update_pending_follows_the_last_piece.Goals as goal

pub returns-clause-message : goal.returns-clause-message
returns-clause-message c = λ p bytes none. message_pending_next p bytes none

pub returns-clause-head : goal.returns-clause-head
returns-clause-head c = λ p bytes some less. short_head_pending p bytes some less

pub returns-clause-body : goal.returns-clause-body
returns-clause-body c = λ p head front body some head_is on. data_pending_next p head front body some head_is on

pub returns-clause-most : goal.returns-clause-most
returns-clause-most c = λ p bytes format are. update_pending_below p bytes format are

pub returns-clause-few : goal.returns-clause-few
returns-clause-few c = λ p bytes. update_pending_within p bytes
