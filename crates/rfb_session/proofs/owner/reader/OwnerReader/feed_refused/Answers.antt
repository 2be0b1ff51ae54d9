use Rattle.std.proofs.Common.{◌≡◌, refl, arith, ap, ℕ, List, take, length}
use Rattle.std.proofs.lemmas.List.{length-take}
use Rattle.rfb_session.proofs.OwnerStageLemmas.{first_newline, refused_come, refused_end, refused_spoil}
use Rattle.rfb_session.proofs.owner.reader.OwnerReader.feed_refused.Goals as goal

pub returns-then-left-gt0-clause-feeds : goal.returns-then-left-gt0-clause-feeds
returns-then-left-gt0-clause-feeds c =
    let used = c.min-used.result in
    let all : length (take used c.args.bytes.now) ≡ used = omega (arith, length-take {A = ℕ}, c.min-used.ensures) in
    let come = refused_come c.args.left c.args.why (take used c.args.bytes.now) (omega arith)
    (omega (arith, all, c.min-used.ensures)) in
    record {
      goes = λ text comes. rw all at (come c.args.self.now.screen text comes);
      known = refl;
    }

pub returns-then-used-gt0-clause-feeds : goal.returns-then-used-gt0-clause-feeds
returns-then-used-gt0-clause-feeds c = record {
  goes = λ text comes. refused_spoil c.args.left c.args.why (take c.length_of_line-used.result c.args.bytes.now)
      (omega arith)
      (λ e. absurd (omega (arith, ap (λ (t : List ℕ). length t) e, length-take {A = ℕ})))
      c.length_of_line-used.ensures.before c.args.self.now.screen text comes;
  known = refl;
}

pub returns-clause-feeds : goal.returns-clause-feeds
returns-clause-feeds c =
    rw (first_newline c.args.bytes.now c.length_of_line-used.result (omega arith) c.requires.some
    c.length_of_line-used.ensures.newline)
    (refused_end c.args.self.now.screen c.args.left c.args.why c.args.self.now (omega arith) c.requires.fresh refl)
