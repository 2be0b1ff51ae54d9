use Rattle.std.proofs.Common.{rules, ◌≡◌, ◌∙◌, ◌+◌, ◌-◌, ◌++◌, ℕ, List, None, length, take}
use Rattle.std.proofs.Common.{refl, ap, sym, arith}
use Rattle.std.proofs.lemmas.List.{length-take-le, take_all}
use Rattle.rfb_hello.specs.KeptText.{KeptText}
use Rattle.rfb_viewer.specs.declared.viewer.progress.Progress.TheVariants.{Head, CutText}
use Rattle.rfb_viewer.specs.Progress.{fault_in}
use Rattle.rfb_viewer.proofs.StepLemmas.{made_so}
use Rattle.rfb_viewer.proofs.MessageBodyLemmas.{text_part, text_got}
use Rattle.rfb_viewer.proofs.MovedLemmas.{quiet_takes}
use Rattle.rfb_viewer.proofs.viewer.Viewer.take_text.Goals as goal

pub returns-then-bytes-missing : goal.returns-then-bytes-missing
returns-then-bytes-missing c =
    let old = c.args.self.now in
    let bytes = c.args.bytes.now in
    let kept = c.in-CutText.kept in
    let now : c.keep.new.self ≡ record kept { bytes = take kept.room (kept.bytes ++ take (length bytes) bytes) } =
    c.keep.ensures ∙ ap (λ (ys : List ℕ). record kept { bytes = take kept.room (kept.bytes ++ ys) })
    (sym (take_all (length bytes) bytes (omega arith))) in
    quiet_takes old _ bytes (length bytes) None (CutText c.in-CutText.length c.in-CutText.more kept) c.in-CutText.is tt
    refl c.requires.some (omega arith) (λ viewing. text_part viewing old _ c.in-CutText.length c.in-CutText.more
    (c.in-CutText.more - length bytes) kept c.keep.new.self (take (length bytes) bytes) c.in-CutText.is
    (omega (arith, length-take-le (length bytes) bytes (omega arith), c.if-bytes-missing.true)) now
    (made_so refl refl refl refl)) refl refl refl refl refl

pub returns : goal.returns
returns c =
    let old = c.args.self.now in
    let bytes = c.args.bytes.now in
    let kept = c.in-CutText.kept in
    let missing = c.in-CutText.more + 1 in
    let long : length (take missing bytes) ≡ missing =
    length-take-le missing bytes (omega (arith, c.if-bytes-missing.false)) in
    let now : c.keep-2.new.self ≡ record kept { bytes = take kept.room (kept.bytes ++ take missing bytes) } =
    search rules in
    let same = c.in-CutText-replace.ensures.value in
    let n : c.in-CutText-replace.length ≡ c.in-CutText.length = cc in
    let is : c.in-CutText-replace.kept ≡ c.keep-2.new.self = cc in
    let told : c.into_vec.result.items ≡ c.keep-2.new.self.bytes =
    c.into_vec.ensures.bytes ∙ ap (λ (k : KeptText). k.bytes) is in
    quiet_takes old _ bytes missing _ (CutText c.in-CutText.length c.in-CutText.more kept) c.in-CutText.is tt refl
    (omega arith) (omega (arith, c.if-bytes-missing.false)) (λ viewing. rw (told, n) (text_got viewing old _
    c.in-CutText.length c.in-CutText.more kept c.keep-2.new.self (take missing bytes) c.in-CutText.is long now
    (made_so refl (c.replace.ensures.after ∙ ap (λ (ys : List ℕ). Head (record { items = ys })) c.new.ensures) refl
    refl))) refl (ap fault_in c.replace.ensures.after) refl refl refl
