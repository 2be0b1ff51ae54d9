use Rattle.std.proofs.Common.{sym}
use Rattle.rfb_codec.proofs.EffectLaws.{effects_picture}
use Rattle.rfb_codec.proofs.law.effects.effects_keep_the_size.Goals as goal

pub returns-clause-alike : goal.returns-clause-alike
returns-clause-alike c = λ p items picture. let kept = effects_picture p items picture in
    record { columns = sym kept.columns; rows = sym kept.rows }

pub returns-clause-whole : goal.returns-clause-whole
returns-clause-whole c = λ p items picture whole. (effects_picture p items picture).whole whole
