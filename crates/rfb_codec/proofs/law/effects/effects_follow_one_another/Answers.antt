use Rattle.rfb_codec.proofs.EffectLaws.{effects_more, effects_left}
use Rattle.rfb_codec.proofs.law.effects.effects_follow_one_another.Goals as goal

pub returns-clause-more : goal.returns-clause-more
returns-clause-more c = λ p xs ys picture. effects_more p xs ys picture

pub returns-clause-anywhere : goal.returns-clause-anywhere
returns-clause-anywhere c = λ p left items picture. effects_left p left items picture
