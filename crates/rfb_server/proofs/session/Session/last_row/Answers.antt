use Rattle.std.proofs.Common.{inl, inr, arith}
use Rattle.std.proofs.lemmas.Bool.{cases_eq}
use Rattle.rfb_server.proofs.session.Session.last_row.Goals as goal

pub loop-last-preserved : goal.loop-last-preserved
loop-last-preserved c = record {
  order = (omega (arith, c.loop-last-test.true), omega (arith, c.loop-last.invariant.order));
  below = λ x y a b d e. elim (cases_eq y c.loop-last.last) [
    | inl same ↦ rw same (c.first_needed.ensures.none x a (omega (arith, b, c.if-first_needed-end.true)))
    | inr other ↦ c.loop-last.invariant.below x y a b (omega arith) e
  ];
}
