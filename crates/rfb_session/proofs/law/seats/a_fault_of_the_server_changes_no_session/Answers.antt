use Rattle.rfb_session.proofs.HopLifeLemmas.{fault_keeps}
use Rattle.rfb_session.proofs.law.seats.a_fault_of_the_server_changes_no_session.Goals as goal

pub returns : goal.returns
returns c = λ old new bytes fault k fails. fault_keeps old new bytes fault k fails
