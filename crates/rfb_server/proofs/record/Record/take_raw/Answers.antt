use Rattle.rfb_server.proofs.RecordLemmas.{still_record, recorded_of}
use Rattle.rfb_server.proofs.record.Record.take_raw.Goals as goal

pub invariant_of-self : goal.invariant_of-self
invariant_of-self c =
    still_record c.self.inside.pixels c.send_rows.new.pixels c.self.inside.known c.learn.new.known c.args.rect
    c.self.invariant c.send_rows.ensures.whole c.send_rows.ensures.width
    c.send_rows.ensures.height c.learn.ensures.value c.learn.ensures.width c.learn.ensures.height

pub returns-clause-taken : goal.returns-clause-taken
returns-clause-taken c =
    let sent = c.send_rows.ensures.sent in
    rw (c.learn.ensures.value, ← c.self.view_is) (
      sent.0,
      recorded_of c.self.inside.pixels c.send_rows.new.pixels sent.0 c.self.inside.known.asked c.args.rect
          c.self.invariant.area.asks c.self.invariant.wide c.self.invariant.high
          c.send_rows.ensures.width c.send_rows.ensures.height sent.2,
      sent.1,
    )
