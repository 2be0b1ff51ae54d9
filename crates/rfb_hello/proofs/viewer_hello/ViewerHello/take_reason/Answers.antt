use Rattle.std.proofs.Common.{◌≡◌, ◌∙◌, Some, ap, refl}
use Rattle.rfb_hello.specs.declared.fault.HelloFault.{HelloFault}
use Rattle.rfb_hello.specs.pieces.ViewerPiece.{fault_for}
use Rattle.rfb_hello.proofs.ViewerStepLemmas.{takes}
use Rattle.rfb_hello.proofs.ViewerReasonLemmas.{reason_part, reason_told, reason_refuses, text_kept}
use Rattle.rfb_hello.proofs.viewer_hello.ViewerHello.take_reason.Goals as goal

pub returns-then-not-whole : goal.returns-then-not-whole
returns-then-not-whole c =
    let used = c.read_text-used.ensures.used in
    takes used (λ setup. reason_part setup c.args.self.now c.in-Reason.cause c.in-Reason.length c.in-Reason.more
    c.read_text-used.new.more c.read_text-used.result.0 c.in-Reason.kept c.read_text-used.new.kept c.args.bytes.now
    c.in-Reason.is used.1 (c.read_text-used.ensures.more c.if-not-whole.true) c.read_text-used.ensures.kept)
    refl refl refl refl

pub returns : goal.returns
returns c =
    let old = c.args.self.now in
    let used = c.read_text-used.ensures.used in
    let count = c.read_text-used.ensures.whole c.if-not-whole.false in
    let same = c.in-Reason-replace.ensures.value in
    let cause : c.in-Reason-replace.cause ≡ c.in-Reason.cause = cc in
    let n : c.in-Reason-replace.length ≡ c.in-Reason.length = cc in
    let kept : c.in-Reason-replace.kept ≡ c.read_text-used.new.kept = cc in
    let fault : c.fault-fault.result ≡ fault_for c.in-Reason.cause c.in-Reason.length =
    rw (cause, n) at c.fault-fault.ensures in
    reason_refuses c.in-Reason.cause c.in-Reason.length used fault
    (reason_told old _ c.in-Reason.cause c.in-Reason.length c.in-Reason.more c.read_text-used.result.0
    c.in-Reason.kept c.args.bytes.now c.in-Reason.is used.1 count) (ap (λ (f : HelloFault). Some f) fault)
    (text_kept old _ c.in-Reason.cause c.in-Reason.length c.in-Reason.more c.read_text-used.result.0 c.in-Reason.kept
    c.args.bytes.now c.in-Reason.is used.1 count (kept ∙ c.read_text-used.ensures.kept)) refl refl
