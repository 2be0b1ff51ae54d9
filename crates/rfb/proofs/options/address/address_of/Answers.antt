use Rattle.std.proofs.Common.{ap}
use Rattle.rfb.proofs.AddressLemmas.{address_by_word}
use Rattle.rfb.proofs.OptionLemmas.{text_of}
use Rattle.rfb.proofs.options.address.address_of.Goals as goal

pub returns-in-Some-None-None : goal.returns-in-Some-None-None
returns-in-Some-None-None c =
    address_by_word _ _ _ c.in-Some-None-None.word.now c.address_named.result (ap text_of c.in-Some-None-None.is-0)
    (ap text_of c.in-Some-None-None.is-1) c.in-Some-None-None.is-2 c.address_named.ensures
