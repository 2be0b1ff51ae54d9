use Rattle.rfb.proofs.ServingLemmas.{line_flushed}
use Rattle.rfb.proofs.serving.tell_end.Goals as goal

pub returns-clause-done : goal.returns-clause-done
returns-clause-done g c =
    line_flushed (g.W.Write.contents c.args.output.now) _ _ c.args.ended _
    c.in_ok-line.ensures (rw c.as_bytes.ensures.value at c.in_ok-write_whole.ensures.done) c.in_ok-flush.ensures.bytes
