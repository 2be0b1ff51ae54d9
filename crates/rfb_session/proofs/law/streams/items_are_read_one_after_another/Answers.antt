use Rattle.rfb_wire.proofs.stream_laws.GrammarLaws.{all_more, all_append}
use Rattle.rfb_session.proofs.law.streams.items_are_read_one_after_another.Goals as goal

pub returns-clause-later : goal.returns-clause-later
returns-clause-later g c =
    λ grammar p bytes tail items rest laws reads.
    all_more grammar laws p bytes tail items rest reads

pub returns-clause-further : goal.returns-clause-further
returns-clause-further g c = all_append
