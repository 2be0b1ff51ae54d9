use Rattle.std.proofs.Common.{refl}
use Rattle.rfb_codec.specs.encoder.Background.{hash_of}
use Rattle.rfb_codec.proofs.choice.background.hash.Goals as goal

pub returns : goal.returns
unfolding hash_of
returns c = refl
