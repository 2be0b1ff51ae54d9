use Rattle.std.proofs.Common.{sym}
use Rattle.rfb_codec.proofs.EffectLaws.{effect_picture}
use Rattle.rfb_session.proofs.law.messages.an_item_keeps_the_size.Goals as goal

pub returns-clause-alike : goal.returns-clause-alike
returns-clause-alike c =
    λ p item picture. let kept = effect_picture p item picture in
    record { columns = sym kept.columns; rows = sym kept.rows }

pub returns-clause-whole : goal.returns-clause-whole
returns-clause-whole c = λ p item picture whole. (effect_picture p item picture).whole whole
