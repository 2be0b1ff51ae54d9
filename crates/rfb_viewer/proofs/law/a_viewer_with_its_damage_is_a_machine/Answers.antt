use Rattle.rfb_viewer.proofs.DamageFeedLemmas.{damaging_machine}
use Rattle.rfb_viewer.proofs.law.a_viewer_with_its_damage_is_a_machine.Goals as goal

pub returns : goal.returns
returns c = damaging_machine
