use Rattle.std.proofs.Common.{◌≡◌, ◌∙◌, ◌<◌, ◌+◌, ap, refl, arith}
use Rattle.rfb_hello.specs.ViewerModel.{fault_of, reason_of, setup_of}
use Rattle.rfb_hello.specs.Offer.{offered_of}
use Rattle.rfb_hello.proofs.ViewerStepLemmas.{takes, starves}
use Rattle.rfb_hello.proofs.ViewerReasonLemmas.{length_part, length_zero, length_asks, length_told, none_kept}
use Rattle.rfb_hello.proofs.ViewerReasonLemmas.{reason_refuses}
use Rattle.rfb_hello.proofs.viewer_hello.ViewerHello.take_reason_length.Goals as goal

pub returns-in_default-whole : goal.returns-in_default-whole
returns-in_default-whole c =
    let more = c.gather_word-used.ensures.more c.in_default-whole.is in
    takes c.gather_word-used.ensures.used (λ setup. length_part setup c.args.self.now c.in-ReasonLength.cause
    c.in-ReasonLength.part c.gather_word-used.new.part _ c.in-ReasonLength.is more.0 more.1) refl refl refl refl

pub returns-in_default-checked_sub : goal.returns-in_default-checked_sub
returns-in_default-checked_sub c =
    let old = c.args.self.now in
    let none : c.in-Some.length ≡ 0 = omega (arith, c.in_default-checked_sub.ensures) in
    let word = rw (c.in-Some.is, none) at c.gather_word-used.ensures.whole in
    let after = c.fail.ensures.after in
    reason_refuses c.in-ReasonLength.cause 0 c.gather_word-used.ensures.used (c.fail.ensures.value ∙ c.fault.ensures)
    (λ setup. length_zero old c.in-ReasonLength.cause c.in-ReasonLength.part _ 0 c.in-ReasonLength.is word setup _
    refl)
    (rw c.fault.ensures at (ap fault_of after))
    (none_kept old c.in-ReasonLength.cause c.in-ReasonLength.part _ 0 c.in-ReasonLength.is word _ refl
    (ap reason_of after)) (ap offered_of after) (ap setup_of after)

pub returns-in_default-text_of : goal.returns-in_default-text_of
returns-in_default-text_of c =
    let word = rw c.in-Some.is at c.gather_word-used.ensures.whole in
    let some : 0 < c.in-Some.length = omega (arith, c.in-Some-checked_sub.ensures) in
    starves c.gather_word-used.ensures.used c.fail-in_default-text_of.ensures.value (λ setup. length_asks
    c.args.self.now c.in-ReasonLength.cause c.in-ReasonLength.part _ c.in-Some.length c.in-ReasonLength.is word setup
    some) c.fail-in_default-text_of.ensures.after

pub returns : goal.returns
returns c =
    let word = rw c.in-Some.is at c.gather_word-used.ensures.whole in
    let count : c.in-Some.length ≡ c.in-Some-checked_sub.more + 1 = omega (arith, c.in-Some-checked_sub.ensures) in
    takes c.gather_word-used.ensures.used (λ setup. length_told c.args.self.now c.in-ReasonLength.cause
    c.in-ReasonLength.part _ c.in-Some.length c.in-ReasonLength.is word setup c.in-Some-checked_sub.more c.in-Ok.kept
    count c.in-Ok.ensures) refl refl refl refl
