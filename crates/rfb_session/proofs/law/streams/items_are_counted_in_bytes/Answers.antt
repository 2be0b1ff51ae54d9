use Rattle.rfb_wire.proofs.stream_laws.GrammarLaws.{all_length, sizes_append, some_byte}
use Rattle.rfb_session.proofs.law.streams.items_are_counted_in_bytes.Goals as goal

pub returns-clause-counted : goal.returns-clause-counted
returns-clause-counted g c =
    λ grammar p bytes items rest laws reads. all_length grammar laws p bytes items rest reads

pub returns-clause-together : goal.returns-clause-together
returns-clause-together g c = sizes_append

pub returns-clause-some : goal.returns-clause-some
returns-clause-some g c = λ grammar p i rest laws got. some_byte grammar laws p i rest got
