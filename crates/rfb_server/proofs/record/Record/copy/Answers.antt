use Rattle.rfb_picture.proofs.GridLaws.{whole-changed}
use Rattle.rfb_server.proofs.RecordLemmas.{width-record_of, height-record_of, still_record, record_copied}
use Rattle.rfb_server.proofs.record.Record.copy.Goals as goal

pub invariant_of-self : goal.invariant_of-self
invariant_of-self c =
    still_record c.self.inside.pixels c.copy_by_lines.new.self c.self.inside.known c.learn.new.known c.args.to
    c.self.invariant (rw (c.copy_by_lines.ensures.value) (whole-changed _ _ c.self.invariant.whole))
    c.copy_by_lines.ensures.width
    c.copy_by_lines.ensures.height c.learn.ensures.value c.learn.ensures.width c.learn.ensures.height

pub returns-clause-value : goal.returns-clause-value
returns-clause-value c =
    let source = rw (← c.self.view_is, width-record_of, height-record_of) at c.requires.source in
    rw (c.copy_by_lines.ensures.value, c.learn.ensures.value, ← c.self.view_is)
    (record_copied c.self.inside.pixels c.self.inside.known.asked c.args.to c.args.sx c.args.sy
    c.self.invariant.whole c.self.invariant.area.asks
    c.self.invariant.wide c.self.invariant.high source (rw (← c.self.view_is) at c.requires.known))
