use Rattle.std.proofs.KnownBytes.{Appends-kept}
use Rattle.rfb_session.specs.Pixmap.{pixmap}
use Rattle.rfb_session.proofs.WrittenLaws.{on_err, whole_beginning}
use Rattle.rfb.proofs.writing.write_ppm.Goals as goal

-- a flush keeps what was written
pub returns-in_err-flush-clause-stopped : goal.returns-in_err-flush-clause-stopped
returns-in_err-flush-clause-stopped g c =
    let old = g.W.Write.contents c.args.output.now in
    let new = g.W.Write.contents c.flush.new.self in
    on_err c.from_residual-in_err-flush.result _
    (whole_beginning old new (pixmap c.args.picture.now)
    (Appends-kept old (g.W.Write.contents c.put_ppm.new.output) new (pixmap c.args.picture.now)
    c.in_ok-put_ppm.ensures.done c.flush.ensures.bytes))
