use Rattle.std.proofs.Common.{arith}
use Rattle.std.proofs.lemmas.Bool.Decides.{nat_tests}
use Rattle.rfb_session.proofs.OwnerReaderLemmas.{newline_at}
use Rattle.rfb_session.proofs.owner.reader.length_of_line.Goals as goal

pub returns-then-byte-eq-NEWLINE-clause-newline : goal.returns-then-byte-eq-NEWLINE-clause-newline
returns-then-byte-eq-NEWLINE-clause-newline c = λ less.
    rw c.loop-byte.invariant.count (newline_at c.args.bytes.now c.loop-byte.byte-index
    (omega (arith, less, c.loop-byte.invariant.count)) (grind (arith, nat_tests)))
