use Rattle.std.proofs.Common.{List, ℕ, drop, subst, arith}
use Rattle.rfb_session.specs.relay.Desk.{CallsShare}
use Rattle.rfb_session.proofs.RelayLemmas.{calls_behind, grows}
use Rattle.rfb_session.proofs.channel.Channel.send_for.Goals as goal

pub invariant_of-self : goal.invariant_of-self
invariant_of-self c =
    let e = c.append.ensures in
    omega (
      arith,
      c.self.invariant,
      grows c.args.share.now c.args.call.now c.self.inside.bytes.items c.append.result
          c.append.new.out.items c.append.new.self e.kept e.makes,
    )

pub returns : goal.returns
returns c =
    let e = c.append.ensures in
    subst (λ (q : List ℕ). CallsShare c.args.share.now c.args.call.now q c.append.result
    (drop c.self.inside.arrived c.append.new.out.items) c.append.new.self) c.self.view_is
    (calls_behind c.self.inside.arrived c.self.inside.bytes.items (omega (arith, c.self.invariant)) c.args.share.now
    c.args.call.now c.append.result c.append.new.out.items c.append.new.self e.none e.kept e.same e.makes)
