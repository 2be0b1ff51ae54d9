use Rattle.rfb_codec.proofs.WholeUpdateLaws.{agrees_update}
use Rattle.rfb_codec.proofs.law.updates.agreement_is_kept_by_an_update.Goals as goal

pub returns : goal.returns
returns c = λ p sent picture known now whole whole_known alike columns rows agrees noted_are.
    agrees_update p sent picture known now whole whole_known alike columns rows agrees noted_are
