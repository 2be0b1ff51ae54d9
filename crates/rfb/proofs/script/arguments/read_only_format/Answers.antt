use Rattle.std.proofs.Common.{arith}
use Rattle.rfb.proofs.ArgumentLemmas.{format_alone}
use Rattle.rfb.proofs.script.arguments.read_only_format.Goals as goal

pub returns : goal.returns
returns c = format_alone c.args.words.now _ (omega arith) _ c.read_format.ensures
