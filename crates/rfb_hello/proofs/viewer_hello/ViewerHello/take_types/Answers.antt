use Rattle.std.proofs.Common.{rules, ◌≡◌, ap, true, false, refl}
use Rattle.rfb_hello.specs.declared.fault.HelloFault.TheVariants.{NoneNotOffered}
use Rattle.rfb_hello.specs.declared.offered.Offered.TheVariants.{Listed}
use Rattle.rfb_hello.specs.Offer.{offered_of}
use Rattle.rfb_hello.specs.ServerHandshake.{has_none}
use Rattle.rfb_hello.specs.ViewerModel.{fault_of, reason_of, setup_of}
use Rattle.rfb_hello.proofs.ViewerStepLemmas.{takes, refuses}
use Rattle.rfb_hello.proofs.ViewerSecurityLemmas.{types_told, types_refused, types_offered, types_kept}
use Rattle.rfb_hello.proofs.viewer_hello.ViewerHello.take_types.Goals as goal

pub returns-then-not-takes : goal.returns-then-not-takes
returns-then-not-takes c =
    let used = c.take-used.ensures.used in
    let whole = rw c.in-Some.is at c.take-used.ensures.whole in
    let has : has_none c.in-Some.types.items ≡ false = search rules in
    let after = c.fail.ensures.after in
    refuses used NoneNotOffered c.fail.ensures.value (λ e. cc)
    (λ setup. types_refused c.args.self.now _ c.in-Types.version c.in-Types.list _ c.args.bytes.now c.in-Some.types
    c.in-Types.is whole.0 whole.1 used.1 setup has) (ap fault_of after) (ap reason_of after)
    (types_offered c.args.self.now c.fail.new.self c.in-Types.version c.in-Types.list _ c.args.bytes.now c.in-Some.types
    c.in-Types.is whole.0 whole.1 used.1 (ap offered_of after)) (ap setup_of after)

pub returns : goal.returns
returns c =
    let old = c.args.self.now in
    let used = c.take-used.ensures.used in
    let whole = rw c.in-Some.is at c.take-used.ensures.whole in
    let has : has_none c.in-Some.types.items ≡ true = search rules in
    takes used (λ setup. types_told c.args.self.now _ c.in-Types.version c.in-Types.list _ c.args.bytes.now
    c.in-Some.types c.in-Types.is whole.0 whole.1 used.1 setup c.choice-reply.result has c.choice-reply.ensures
    c.after_types.ensures refl) (search rules) (search rules)
    (types_kept old (record old { offered = Listed c.in-Some.types }) c.in-Types.version c.in-Types.list _
    c.args.bytes.now c.in-Some.types
    c.in-Types.is whole.0 whole.1 used.1 c.choice-reply.result refl) refl
