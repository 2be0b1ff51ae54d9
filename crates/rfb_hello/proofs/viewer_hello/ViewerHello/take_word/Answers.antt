use Rattle.std.proofs.Common.{rules, ◌<◌, ap, refl, arith}
use Rattle.rfb_hello.specs.declared.fault.HelloFault.TheVariants.{NoneNotOffered, BadSecurityWord}
use Rattle.rfb_hello.specs.declared.offered.Offered.TheVariants.{Chosen}
use Rattle.rfb_hello.specs.ViewerModel.{fault_of, reason_of, setup_of}
use Rattle.rfb_hello.specs.Offer.{offered_of}
use Rattle.rfb_hello.proofs.ViewerStepLemmas.{takes, refuses}
use Rattle.rfb_hello.proofs.ViewerReasonLemmas.{word_of_none}
use Rattle.rfb_hello.proofs.ViewerSecurityLemmas.{word_taken, word_unoffered, word_unknown}
use Rattle.rfb_hello.proofs.ViewerSecurityLemmas.{word_offered, word_kept}
use Rattle.rfb_hello.proofs.viewer_hello.ViewerHello.take_word.Goals as goal

pub returns-then-word-eq0 : goal.returns-then-word-eq0
returns-then-word-eq0 c =
    let word = rw (c.in-Some.is, c.if-word-eq0.true) at c.gather_word-used.ensures.whole in
    takes c.gather_word-used.ensures.used (λ setup. word_of_none setup c.args.self.now c.in-Word.part _ _ c.in-Word.is
    word c.before_reason.ensures) (search rules) (search rules) refl refl

pub returns-in-2 : goal.returns-in-2
returns-in-2 c =
    let word = rw c.in-Some.is at c.gather_word-used.ensures.whole in
    let after = c.fail.ensures.after in
    refuses c.gather_word-used.ensures.used NoneNotOffered c.fail.ensures.value (λ e. cc)
    (λ setup. word_unoffered setup c.args.self.now _ c.in-Word.part _ c.in-Some.word c.in-Word.is word c.in-2.is)
    (ap fault_of after) (ap reason_of after)
    (word_offered c.args.self.now c.fail.new.self c.in-Word.part _ c.in-Some.word c.in-Word.is word
    (ap offered_of after)) (ap setup_of after)

pub returns-in_default-word : goal.returns-in_default-word
returns-in_default-word c =
    let word = rw c.in-Some.is at c.gather_word-used.ensures.whole in
    let above : 2 < c.in-Some.word = omega arith in
    let after = c.fail-in_default-word.ensures.after in
    refuses c.gather_word-used.ensures.used BadSecurityWord c.fail-in_default-word.ensures.value (λ e. cc)
    (λ setup. word_unknown setup c.args.self.now _ c.in-Word.part _ c.in-Some.word c.in-Word.is word above)
    (ap fault_of after) (ap reason_of after)
    (word_offered c.args.self.now c.fail-in_default-word.new.self c.in-Word.part _ c.in-Some.word c.in-Word.is word
    (ap offered_of after)) (ap setup_of after)

pub returns-in-1 : goal.returns-in-1
returns-in-1 c =
    let old = c.args.self.now in
    let word = rw c.in-Some.is at c.gather_word-used.ensures.whole in
    takes c.gather_word-used.ensures.used (λ setup. word_taken setup old _ c.in-Word.part _ c.in-Some.word
    c.client_init.result c.new.result c.in-Word.is word c.in-1.is c.client_init.ensures c.new.ensures refl refl)
    refl refl (word_kept old (record old { offered = Chosen c.in-Some.word }) c.in-Word.part _ c.in-Some.word
    c.in-Word.is word refl c.client_init.result) refl
