use Rattle.std.proofs.Common.{arith, sym}
use Rattle.std.proofs.lemmas.List.{length-take-le, take_all}
use Rattle.rfb.proofs.relaying.relay_setup.beginning_of.Goals as goal

pub returns-then-name-le-NAME_MAX : goal.returns-then-name-le-NAME_MAX
returns-then-name-le-NAME_MAX c = sym (take_all 255 c.args.name.now (omega arith))

pub slice_bounds-result-end : goal.slice_bounds-result-end
slice_bounds-result-end c = sym (length-take-le 255 c.args.name.now (omega arith))
