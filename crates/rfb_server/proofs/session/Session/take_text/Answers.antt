use Rattle.std.proofs.Common.{◌≡◌, ◌∙◌, ◌++◌, ◌-◌, ℕ, List, length, take, refl, ap, arith}
use Rattle.std.proofs.lemmas.List.{length-take-le, take_all}
use Rattle.rfb_hello.specs.ServerEnd.{as_reply}
use Rattle.rfb_server.specs.declared.session.input.progress.Progress.TheVariants.{Head}
use Rattle.rfb_server.proofs.CutTextLemmas.{text_part, text_told}
use Rattle.rfb_server.proofs.FeedingLemmas.{up_same}
use Rattle.rfb_server.proofs.session.Session.take_text.Goals as goal

pub returns-then-bytes-missing-clause-steps : goal.returns-then-bytes-missing-clause-steps
returns-then-bytes-missing-clause-steps c = λ _ serving screen.
    let bytes = c.args.bytes.now in
    let all : take (length bytes) bytes ≡ bytes = take_all (length bytes) bytes (omega arith) in
    let kept = c.in-CutText.kept in
    let longer : c.keep.new.self ≡ record kept { bytes = take kept.room (kept.bytes ++ take (length bytes) bytes) } =
    rw all c.keep.ensures in
    let size : length (take (length bytes) bytes) ≡ length bytes = ap length all in
    text_part serving screen c.args.self.now _ c.in-CutText.length c.in-CutText.left (c.in-CutText.left - length bytes)
    kept c.keep.new.self (take (length bytes) bytes) c.in-CutText.is refl
    (record { setup = refl; text_limit = refl; format = refl; encodings = refl; known = refl; area = refl })
    (omega (arith, size, c.if-bytes-missing.true)) (omega (arith, c.if-bytes-missing.true)) longer

pub returns-clause-steps : goal.returns-clause-steps
returns-clause-steps c = λ _ serving screen.
    let bytes = c.args.bytes.now in
    let kept = c.in-CutText.kept in
    let unit = take c.in-CutText.left bytes in
    let size : length unit ≡ c.in-CutText.left = length-take-le c.in-CutText.left bytes c.if-bytes-missing.false in
    let same = c.replace-whole.ensures.value in
    let text : c.in-CutText-whole.kept ≡ c.keep-2.new.self = cc in
    let n : c.in-CutText-whole.length ≡ c.in-CutText.length = cc in
    rw (c.into_vec.ensures.bytes, n)
    (text_told serving screen c.args.self.now _ c.in-CutText.length c.in-CutText.left kept c.in-CutText-whole.kept unit
    c.in-CutText.is (c.replace-whole.ensures.after ∙ ap (λ (ys : List ℕ). Head (as_reply ys)) c.new.ensures)
    (up_same c.args.self.now _ refl
    (record { text_limit = refl; format = refl; known = refl; area = refl; marks = refl; hints = refl; claim = refl }))
    (record { setup = refl; text_limit = refl; format = refl; encodings = refl; known = refl; area = refl }) size
    (text ∙ c.keep-2.ensures))
