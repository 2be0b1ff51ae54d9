use Rattle.rfb_server.proofs.RecordLemmas.{still_record, recorded_of}
use Rattle.rfb_server.proofs.record.Record.take.Goals as goal

pub invariant_of-self : goal.invariant_of-self
invariant_of-self c =
    still_record c.self.inside.pixels c.put_block.new.pixels c.self.inside.known c.learn.new.known c.args.rect
    c.self.invariant c.put_block.ensures.whole c.put_block.ensures.width
    c.put_block.ensures.height c.learn.ensures.value c.learn.ensures.width c.learn.ensures.height

pub returns-clause-recorded : goal.returns-clause-recorded
returns-clause-recorded c =
    rw (c.learn.ensures.value, ← c.self.view_is)
    (recorded_of c.self.inside.pixels c.put_block.new.pixels c.pack.new.self c.self.inside.known.asked c.args.rect
    c.self.invariant.area.asks c.self.invariant.wide c.self.invariant.high
    c.put_block.ensures.width c.put_block.ensures.height c.put_block.ensures.each)
