use Rattle.rfb_server.proofs.RecordLemmas.{width-record_of, height-record_of, still_record}
use Rattle.rfb_server.proofs.AlikeLemmas.{taken_from}
use Rattle.rfb_server.proofs.record.Record.take_from.Goals as goal

pub invariant_of-self : goal.invariant_of-self
invariant_of-self c =
    still_record c.self.inside.pixels c.put_from.new.pixels c.self.inside.known c.learn.new.known c.args.rect
    c.self.invariant c.put_from.ensures.whole c.put_from.ensures.width
    c.put_from.ensures.height c.learn.ensures.value c.learn.ensures.width c.learn.ensures.height

pub returns-clause-each : goal.returns-clause-each
returns-clause-each c =
    let columns = rw (← c.self.view_is, ← c.other.view_is, width-record_of, width-record_of) at
    c.requires.columns in
    let rows = rw (← c.self.view_is, ← c.other.view_is, height-record_of, height-record_of) at c.requires.rows in
    let known = rw (← c.other.view_is) at c.requires.known in
    λ x y p q.
    let p' = rw (← c.self.view_is, width-record_of) at p in
    let q' = rw (← c.self.view_is, height-record_of) at q in
    rw (c.learn.ensures.value, ← c.self.view_is, ← c.other.view_is)
    (taken_from c.self.inside.pixels c.put_from.new.pixels c.other.inside.pixels c.self.inside.known.asked
    c.other.inside.known.asked c.args.rect c.self.invariant.area.asks c.self.invariant.wide c.self.invariant.high
    c.put_from.ensures.width c.put_from.ensures.height columns rows known c.put_from.ensures.each x y p' q')
