use Rattle.std.proofs.Common.{◌∙◌}
use Rattle.clap.specs.Matches.{found_of}
use Rattle.clap.proofs.WalkLemmas.{one_text-rows}
use Rattle.rfb.proofs.options.given.is_given.Goals as goal

pub returns : goal.returns
returns c = (
  λ is. c.get_flag.ensures.value (one_text-rows (found_of c.args.given.now) _ ∙ is),
  λ is. c.get_flag.ensures.other (one_text-rows (found_of c.args.given.now) _ ∙ is),
)
