use Rattle.std.proofs.Common.{◌≡◌, ◌++◌, replicate}
use Rattle.rfb_codec.proofs.choice.background.put_aside.Given as goal

abbrev pub invariant-loop : goal.invariant-loop
invariant-loop g l = l.aside.items ≡ l.fn.aside.items ++ replicate l.counter l.pixel
