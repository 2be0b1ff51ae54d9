use Rattle.std.proofs.Common.{refl}
use Rattle.rfb_codec.proofs.choice.background.is_restless.Goals as goal

pub returns : goal.returns
returns c = rw c.changes_in.ensures.value refl
