use Rattle.std.proofs.Common.{refl}
use Rattle.rfb_session.proofs.owner.reader.OwnerReader.feed_line.Goals as goal

pub returns-clause-feeds : goal.returns-clause-feeds
returns-clause-feeds c = record {
  goes = λ text comes. c.longer.ensures c.args.self.now.screen text comes;
  known = refl;
}
