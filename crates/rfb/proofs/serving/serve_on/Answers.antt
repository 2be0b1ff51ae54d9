use Rattle.std.proofs.Common.{◌≡◌, subst, ℕ, arith}
use Rattle.rfb_session.proofs.WrittenLaws.{on_err}
use Rattle.rfb.specs.Service.{ServesSo}
use Rattle.rfb.proofs.ServingLemmas.{serves_fewer, serves_more, serves_none}
use Rattle.rfb.proofs.serving.serve_on.Goals as goal

pub loop-connection-init : goal.loop-connection-init
loop-connection-init g c = serves_none c.args.screen.now _

pub loop-connection-preserved : goal.loop-connection-preserved
loop-connection-preserved g c =
    let l = c.loop-connection in
    serves_more c.args.screen.now l._connection c.serve_next-ended.result _ _ _ l.invariant c.serve_next-ended.ensures
    c.in_ok-tell_end.ensures.done

pub returns-in_err-tell_end-clause-stopped : goal.returns-in_err-tell_end-clause-stopped
returns-in_err-tell_end-clause-stopped g c =
    let l = c.loop-connection in
    on_err c.from_residual.result _
    (serves_fewer g.W.Write.contents c.args.screen.now l._connection c.args.connections c.serve_next-ended.result _
    l.output c.tell_end.new.output
    c.loop-connection-test.true l.invariant c.serve_next-ended.ensures c.in_err-tell_end.ensures.stopped)

pub returns-clause-done : goal.returns-clause-done
returns-clause-done g c =
    let l = c.loop-connection in
    let all : l._connection ≡ c.args.connections = omega arith in
    subst (λ (n : ℕ). ServesSo c.args.screen.now n (g.W.Write.contents c.args.output.now) (g.W.Write.contents l.output))
    all l.invariant
