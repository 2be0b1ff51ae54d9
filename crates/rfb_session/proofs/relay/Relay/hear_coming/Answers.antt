use Rattle.std.proofs.Common.{Ok, refl}
use Rattle.rfb_session.specs.relay.Server.{FailedAt, Met}
use Rattle.rfb_session.proofs.MirrorLemmas.{feed_stands, takes, fails_at}
use Rattle.rfb_session.proofs.relay.Relay.hear_coming.Goals as goal

pub meet-requires : goal.meet-requires
meet-requires g c = record {
  stands = feed_stands c.args.viewer c.feed.new.self c.args.bytes.now c.feed.result c.requires.stands
      c.feed.ensures.failed c.feed.ensures.fed c.feed.ensures.fails;
}

pub returns-in-Ok-clause-hears : goal.returns-in-Ok-clause-hears
returns-in-Ok-clause-hears g c =
    let e = c.in-Ok.ensures in
    Met c.feed.new.self c.in-Ok.field-0
    (takes c.args.viewer c.feed.new.self c.args.bytes.now (Ok c.in-Ok.field-0) e.used e.all e.some e.fed e.damage
    e.moved e.taken e.made) refl c.meet.ensures.meets c.meet.ensures.name

pub returns-in-Err-clause-hears : goal.returns-in-Err-clause-hears
returns-in-Err-clause-hears g c =
    let e = c.in-Err.ensures in
    FailedAt c.feed.new.self c.in-Err.fault
    (fails_at c.args.viewer c.feed.new.self c.args.bytes.now _ e.fails e.failed e.fault e.memory e.picture
    e.damaged e.unmoved e.reason e.place e.made) refl c.lose_server.ensures.loses
