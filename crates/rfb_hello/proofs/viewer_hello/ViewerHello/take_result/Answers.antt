use Rattle.std.proofs.Common.{rules, refl}
use Rattle.rfb_hello.proofs.ViewerStepLemmas.{takes}
use Rattle.rfb_hello.proofs.ViewerReasonLemmas.{result_failed}
use Rattle.rfb_hello.proofs.ViewerSecurityLemmas.{result_taken, result_keeps}
use Rattle.rfb_hello.proofs.viewer_hello.ViewerHello.take_result.Goals as goal

pub returns-then-word-ne0 : goal.returns-then-word-ne0
returns-then-word-ne0 c =
    let word = rw c.in-Some.is at c.gather_word-used.ensures.whole in
    takes c.gather_word-used.ensures.used (λ setup. result_failed setup c.args.self.now c.in-Result.version
    c.in-Result.part _ c.in-Some.word _ c.in-Result.is word c.if-word-ne0.true c.before_reason.ensures)
    (search rules) (search rules) refl refl

pub returns : goal.returns
returns c =
    let old = c.args.self.now in
    let word = rw c.in-Some.is at c.gather_word-used.ensures.whole in
    takes c.gather_word-used.ensures.used (λ setup. result_taken setup old _ c.in-Result.part _ c.in-Some.word
    c.in-Result.version c.client_init.result c.new.result c.in-Result.is word c.if-word-ne0.false c.client_init.ensures
    c.new.ensures refl refl) refl refl
    (result_keeps old old c.in-Result.version c.in-Result.part _ c.client_init.result c.in-Result.is refl) refl
