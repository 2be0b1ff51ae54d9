use Rattle.rfb_wire.proofs.ClientLemmas.{client-apart}
use Rattle.rfb_wire.proofs.client_head.ClientHead.spellings_are_apart.Goals as goal

pub returns : goal.returns
returns c = client-apart
