use Rattle.rfb_codec.proofs.EffectLaws.{effect_painted, effect_nothing, effect_message}
use Rattle.rfb_codec.proofs.law.effects.an_item_has_the_effect_of_its_data.Goals as goal

pub returns-clause-painted : goal.returns-clause-painted
returns-clause-painted c = λ p head contents body picture spelled. effect_painted p head contents body picture spelled

pub returns-clause-nothing : goal.returns-clause-nothing
returns-clause-nothing c =
    λ p head body picture none. effect_nothing p head body picture (λ contents spelled. none (contents, spelled))

pub returns-clause-message : goal.returns-clause-message
returns-clause-message c = λ p message picture. effect_message p message picture
