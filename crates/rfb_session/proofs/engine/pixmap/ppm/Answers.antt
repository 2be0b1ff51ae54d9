use Rattle.std.proofs.Common.{◌≡◌, ◌∙◌, refl, arith}
use Rattle.rfb_session.proofs.WrittenLemmas.{err_so, ok_so, on_err}
use Rattle.rfb_session.proofs.PixmapLemmas.{header_waits, row_gathered, row_failed, picture_written, picture_stopped}
use Rattle.rfb_session.proofs.engine.pixmap.ppm.Goals as goal

pub loop-y-init : goal.loop-y-init
loop-y-init g c = record {
  width_is = c.width-width.ensures.value;
  height_is = c.height-height.ensures;
  gathered = header_waits c.args.picture.now c.width-width.result c.height-height.result
      (g.W.Sink.written c.args.sink.now) c.header-waiting.result c.width-width.ensures.value
      c.height-height.ensures c.header-waiting.ensures;
  none_failed = refl;
  same_reference = refl;
}

pub returns-in_err-gather-clause-stopped : goal.returns-in_err-gather-clause-stopped
returns-in_err-gather-clause-stopped g c =
    let l = c.loop-y in
    on_err c.from_residual.result _
    (row_failed c.args.picture.now l.y c.width-width.result c.row.result.now
    (g.W.Sink.written c.args.sink.now) (g.W.Sink.written l.sink) (g.W.Sink.written c.gather.new.sink)
    l.waiting l.invariant.gathered l.invariant.width_is c.row.ensures.value
    c.in_err-gather.ensures.stopped)

pub loop-y-preserved : goal.loop-y-preserved
loop-y-preserved g c =
    let l = c.loop-y in
    record {
      width_is = l.invariant.width_is;
      height_is = l.invariant.height_is;
      gathered = row_gathered c.args.picture.now l.y c.width-width.result c.row.result.now
          (g.W.Sink.written c.args.sink.now) (g.W.Sink.written l.sink)
          (g.W.Sink.written c.gather.new.sink) l.waiting c.gather.new.waiting
          l.invariant.gathered l.invariant.width_is c.row.ensures.value c.in_ok-gather.ensures.done;
      none_failed = c.in_ok-gather.ensures.none_failed ∙ l.invariant.none_failed;
      same_reference = c.gather.ensures.same_reference ∙ l.invariant.same_reference;
    }

pub returns-clause-done : goal.returns-clause-done
returns-clause-done g c =
    let l = c.loop-y in
    let rows : l.y ≡ c.args.picture.now.height =
    omega (arith, l.auto.y-end, c.loop-y-test.false, l.invariant.height_is) in
    ok_so c.send.result _ _
    (picture_written c.args.picture.now l.y (g.W.Sink.written c.args.sink.now)
    (g.W.Sink.written l.sink) (g.W.Sink.written c.send.new.sink) l.waiting
    c.as_slice.result.now l.invariant.gathered rows c.width-width.ensures.whole
    c.as_slice.ensures) c.send.ensures.done

pub returns-clause-stopped : goal.returns-clause-stopped
returns-clause-stopped g c =
    let l = c.loop-y in
    err_so c.send.result _ _
    (picture_stopped c.args.picture.now l.y (g.W.Sink.written c.args.sink.now)
    (g.W.Sink.written l.sink) (g.W.Sink.written c.send.new.sink) l.waiting
    c.as_slice.result.now l.invariant.gathered c.as_slice.ensures) c.send.ensures.stopped
