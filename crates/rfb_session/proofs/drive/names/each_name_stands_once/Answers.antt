use Rattle.rfb_session.proofs.KeyNameLemmas.{names_stand_once}
use Rattle.rfb_session.proofs.drive.names.each_name_stands_once.Goals as goal

pub returns : goal.returns
returns c = names_stand_once
