use Rattle.rfb_codec.proofs.UpdateStreamLaws.{update_spelled, update_grammar}
use Rattle.rfb_codec.proofs.law.updates_are_spelled.Goals as goal

pub returns-clause-stream : goal.returns-clause-stream
returns-clause-stream c = update_spelled

pub returns-clause-laws : goal.returns-clause-laws
returns-clause-laws c = update_grammar
