use Rattle.std.proofs.Common.{refl, arith, ℕ}
use Rattle.std.proofs.lemmas.List.{length-take}
use Rattle.rfb_session.proofs.OwnerStageLemmas.{pixels_come}
use Rattle.rfb_session.proofs.owner.reader.OwnerReader.feed_pixels.Goals as goal

pub returns-then-left-gt0-clause-feeds : goal.returns-then-left-gt0-clause-feeds
returns-then-left-gt0-clause-feeds c = record {
  goes = λ text comes. pixels_come c.args.pixels c.take-used.new.self _ c.take-used.ensures.rect
      c.take-used.ensures.bytes (omega (arith, length-take {A = ℕ})) c.args.self.now.screen text comes;
  known = refl;
}
