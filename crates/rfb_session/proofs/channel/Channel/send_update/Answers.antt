use Rattle.std.proofs.Common.{ℕ, List, ◌++◌, length, length-append, drop, ap, ◌∙◌}
use Rattle.std.proofs.Common.{subst, arith}
use Rattle.std.proofs.lemmas.Result.{IfOk-weaker}
use Rattle.rfb_server.specs.UpdateCall.{SendsUpdate}
use Rattle.rfb_session.proofs.ChannelLemmas.{rest_of, updates_rest}
use Rattle.rfb_session.proofs.channel.Channel.send_update.Goals as goal

pub invariant_of-self : goal.invariant_of-self
invariant_of-self c =
    let more = c.compose.ensures.appended in
    let long = ap (λ (xs : List ℕ). length xs) more.1 in
    let sum = length-append c.self.inside.bytes.items more.0 in
    omega (arith, long, sum, c.self.invariant)

pub returns-clause-composed : goal.returns-clause-composed
returns-clause-composed c =
    IfOk-weaker c.compose.result _ _ (λ did h is.
    subst (λ (q : List ℕ). SendsUpdate c.args.screen.now c.args.session.now c.compose.new.self q
    (drop c.self.inside.arrived c.compose.new.out.items)) c.self.view_is
    (updates_rest c.args.screen.now c.args.session.now c.compose.new.self c.self.inside.bytes.items
    c.compose.new.out.items c.self.inside.arrived (omega (arith, c.self.invariant)) (h is)))
    c.compose.ensures.composed

pub returns-clause-appended : goal.returns-clause-appended
returns-clause-appended c =
    let more = c.compose.ensures.appended in
    IfOk-weaker c.compose.result _ _ (λ did sent. (
      more.0,
      rest_of c.self.inside.bytes.items c.compose.new.out.items more.0 c.self.inside.arrived
          (omega (arith, c.self.invariant)) more.1
          ∙ ap (λ (q : List ℕ). q ++ more.0) c.self.view_is,
    )) c.compose.ensures.composed
