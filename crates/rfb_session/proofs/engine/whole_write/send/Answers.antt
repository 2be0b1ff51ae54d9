use Rattle.std.proofs.Common.{◌∙◌, rules}
use Rattle.rfb_session.proofs.WrittenLemmas.{more_written}
use Rattle.rfb_session.proofs.engine.whole_write.send.Goals as goal

pub loop-rest-preserved : goal.loop-rest-preserved
loop-rest-preserved g c =
    let l = c.loop-rest in
    record {
      written = more_written (g.W.Sink.written c.args.sink.now) (g.W.Sink.written l.sink)
          (g.W.Sink.written c.write.new.self) c.args.bytes.now l.rest.now c.in-Ok.taken l.invariant.written
          c.in-Ok.ensures.bytes;
      none_failed = c.in-Ok.ensures.count.0 (search rules) ∙ l.invariant.none_failed;
      same_reference = c.write.ensures.same_reference ∙ l.invariant.same_reference;
    }
