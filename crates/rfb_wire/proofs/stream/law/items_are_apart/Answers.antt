use Rattle.rfb_wire.proofs.stream_laws.GrammarLaws.{item_apart}
use Rattle.rfb_wire.proofs.stream.law.items_are_apart.Goals as goal

pub returns : goal.returns
returns g c =
    λ grammar p front rest i j laws one two. item_apart grammar laws p front rest i j one two
