use Rattle.rfb_wire.proofs.ClientLemmas.{client-sizes, client-spelled}
use Rattle.rfb_wire.proofs.client_head.ClientHead.type_tells_the_size.Goals as goal

pub returns : goal.returns
returns c = record { size = λ head bytes s. (client-spelled head bytes s).1; whole = client-sizes }
