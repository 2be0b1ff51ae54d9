use Rattle.rfb_wire.proofs.stream_laws.SessionLaws.{sessions_agree, faults_stay, fronts_tell_first, starved_tell_first}
use Rattle.rfb_wire.proofs.stream.law.session.sessions_agree.Goals as goal

pub returns-clause-same : goal.returns-clause-same
returns-clause-same g c = sessions_agree

pub returns-clause-longer : goal.returns-clause-longer
returns-clause-longer g c = faults_stay

pub returns-clause-shorter : goal.returns-clause-shorter
returns-clause-shorter g c = fronts_tell_first

pub returns-clause-starved : goal.returns-clause-starved
returns-clause-starved g c = starved_tell_first
