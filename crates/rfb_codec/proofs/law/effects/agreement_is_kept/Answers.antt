use Rattle.rfb_codec.proofs.EffectLaws.{agrees_replaced, agrees_placed, agrees_copied, agrees_item}
use Rattle.rfb_codec.proofs.law.effects.agreement_is_kept.Goals as goal

pub returns-clause-replaced : goal.returns-clause-replaced
returns-clause-replaced c = λ f rect block picture known whole whole_known alike agrees.
    agrees_replaced f rect picture known block whole whole_known alike agrees

pub returns-clause-placed : goal.returns-clause-placed
returns-clause-placed c = λ f rect block picture known now whole alike same agrees placed.
    agrees_placed f rect picture known block now whole alike same agrees placed

pub returns-clause-copied : goal.returns-clause-copied
returns-clause-copied c = λ f rect sx sy picture known whole whole_known alike agrees held.
    agrees_copied f rect picture known sx sy whole whole_known alike held agrees

pub returns-clause-item : goal.returns-clause-item
returns-clause-item c = λ p head contents body picture known whole whole_known alike columns rows spelled agrees.
    agrees_item p head contents body picture known whole whole_known alike columns rows spelled agrees
