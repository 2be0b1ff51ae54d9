use Rattle.std.proofs.Common.{arith, sym}
use Rattle.std.proofs.lemmas.List.{length-take, length-take-le, take_all}
use Rattle.rfb_session.proofs.beginning.beginning_of.Goals as goal

pub returns-then-bytes-most-clause-value : goal.returns-then-bytes-most-clause-value
returns-then-bytes-most-clause-value c =
    sym (take_all c.args.most c.args.bytes.now (omega (arith, c.if-bytes-most.true)))

pub slice_bounds-result-end : goal.slice_bounds-result-end
slice_bounds-result-end c =
    sym (length-take-le c.args.most c.args.bytes.now (omega (arith, c.if-bytes-most.false)))

pub returns-clause-few : goal.returns-clause-few
returns-clause-few c = omega (arith, length-take c.args.most c.args.bytes.now)
