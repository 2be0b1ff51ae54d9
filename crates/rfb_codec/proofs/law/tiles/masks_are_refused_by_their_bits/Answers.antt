use Rattle.rfb_codec.proofs.MaskFaultLaws.{mask_shows, mask_shown, mask_good}
use Rattle.rfb_codec.proofs.law.tiles.masks_are_refused_by_their_bits.Goals as goal

pub returns-clause-shown : goal.returns-clause-shown
returns-clause-shown c = λ before mask fault told. mask_shows before mask fault told

pub returns-clause-told : goal.returns-clause-told
returns-clause-told c = λ before mask fault shown. mask_shown before mask fault shown

pub returns-clause-good : goal.returns-clause-good
returns-clause-good c = λ before mask none. mask_good before mask none
