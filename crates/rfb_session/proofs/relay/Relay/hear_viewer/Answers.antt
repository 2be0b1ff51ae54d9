use Rattle.rfb_session.proofs.RelayStepLemmas.{viewed_so}
use Rattle.rfb_session.proofs.relay.Relay.hear_viewer.Goals as goal

pub returns-clause-hears : goal.returns-clause-hears
returns-clause-hears g c =
    let said = c.hear_seat-said.ensures in
    let kept = c.pass.ensures.keeps.server in
    viewed_so c.args.self.now c.pass.new.self c.count_passed.new.self c.args.seat c.args.bytes.now
    c.hear_seat-said.result.used c.len-before.result c.hear_seat-said.new.self c.hear_seat-said.result.event
    said.hears said.ends said.ended said.nobody said.side c.pass.ensures.passes kept.noted.passed
    kept.noted.coming kept.presence
    c.len-before.ensures c.count_passed.ensures.counts
