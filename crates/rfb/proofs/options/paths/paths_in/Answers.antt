use Rattle.std.proofs.Common.{◌∙◌, codes}
use Rattle.clap.specs.Matches.{found_of}
use Rattle.clap.proofs.WalkLemmas.{first_value-rows}
use Rattle.rfb.proofs.options.paths.paths_in.Goals as goal

pub returns : goal.returns
returns c = record {
  input = c.in_ok-input_in.ensures;
  output = c.get_str.ensures ∙ first_value-rows (found_of c.args.given.now) (codes "output");
}
