use Rattle.rfb_server.proofs.tests.sessions.sends_both.Goals as goal

pub take_over-requires-clause-sent : goal.take_over-requires-clause-sent
take_over-requires-clause-sent c = record {
  was = c.args.one.now;
  before = _;
  after = _;
  twins = c.if-not-is_twin_of.ensures c.args.screen.now c.requires.follows_too c.requires.follows;
  sends = c.in-Ok-true.ensures.composed c.in-Ok-true.field-0-test;
}
