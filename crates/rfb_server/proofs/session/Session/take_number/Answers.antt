use Rattle.std.proofs.Common.{rules, ◌≡◌, ◌∙◌, ◌++◌, ◌-◌, ◌<◌, ℕ, ℤ, List, length, take, refl, sym, ap, length-append}
use Rattle.std.proofs.Common.{arith}
use Rattle.std.proofs.lemmas.List.{length-take-le, take_all}
use Rattle.std.specs.Int.{w32}
use Rattle.std.proofs.lemmas.Int.{to_z-of_z}
use Rattle.rfb_hello.specs.ServerEnd.{as_reply}
use Rattle.rfb_server.specs.declared.session.input.progress.Progress.TheVariants.{Head}
use Rattle.rfb_wire.specs.RectStream.{encoding_of}
use Rattle.rfb_wire.specs.Fields.{s32_at}
use Rattle.rfb_server.specs.Encodings.{with_encoding}
use Rattle.rfb_server.proofs.ListLemmas.{number_part, number_more, number_last}
use Rattle.rfb_server.proofs.FeedingLemmas.{up_same}
use Rattle.rfb_server.proofs.session.Session.take_number.Goals.{After-add_number}
use Rattle.rfb_server.proofs.session.Session.take_number.Goals as goal

pub returns-then-bytes-missing-clause-steps : goal.returns-then-bytes-missing-clause-steps
returns-then-bytes-missing-clause-steps c = λ _ serving screen.
    let bytes = c.args.bytes.now in
    let number = c.in-Encodings.number in
    let all : take (length bytes) bytes ≡ bytes = take_all (length bytes) bytes (omega arith) in
    let len : c.len-missing.result ≡ length number.items = search rules in
    let longer : c.append.new.kept.items ≡ number.items ++ take (length bytes) bytes =
    c.append.ensures.items ∙ ap (λ (ys : List ℕ). number.items ++ ys) (sym all) in
    let few : length c.append.new.kept.items < 4 =
    let size = ap length c.append.ensures.items ∙ length-append number.items bytes in
    omega (arith, size, len, c.if-bytes-missing.true) in
    number_part serving screen c.args.self.now _ c.in-Encodings.left number c.append.new.kept c.in-Encodings.list
    (take (length bytes) bytes) c.in-Encodings.is refl
    (record { setup = refl; text_limit = refl; format = refl; encodings = refl; known = refl; area = refl }) longer few

-- the bytes that end a number
abbrev unit : After-add_number → List ℕ
unit c = take (4 - c.len-missing.result) c.args.bytes.now

whole : (c : After-add_number) → length (c.in-Encodings.number.items ++ unit c) ≡ 4
whole c =
    let len : c.len-missing.result ≡ length c.in-Encodings.number.items = search rules in
    let short : length c.in-Encodings.number.items < 4 = search rules in
    let front = length-take-le (4 - c.len-missing.result) c.args.bytes.now c.if-bytes-missing.false in
    omega (arith, length-append c.in-Encodings.number.items (unit c), front, len, short)

-- the list has the encoding of that number more
listed : (c : After-add_number) → c.add_number.new.list
    ≡ with_encoding c.in-Encodings.list (encoding_of (s32_at 0 (c.in-Encodings.number.items ++ unit c)))
listed c =
    let value : c.read_i32.result ≡ s32_at 0 (c.in-Encodings.number.items ++ unit c) =
    c.read_i32.ensures ∙ ap (λ (ys : List ℕ). s32_at 0 ys) (c.as_slice.ensures.value ∙ c.append-2.ensures.items) in
    c.add_number.ensures ∙ ap (λ (n : ℤ). with_encoding c.in-Encodings.list (encoding_of n))
    (to_z-of_z w32 c.read_i32.result (search rules) ∙ value)

pub returns-then-left-gt1-clause-steps : goal.returns-then-left-gt1-clause-steps
returns-then-left-gt1-clause-steps c = λ _ serving screen.
    let at = (goal.at.returns-then-left-gt1-clause-steps c).After-add_number in
    number_more serving screen c.args.self.now _ c.in-Encodings.left (c.in-Encodings.left - 1) c.in-Encodings.number
    c.clear.new.self c.in-Encodings.list c.add_number.new.list (unit at) c.in-Encodings.is refl
    (record { setup = refl; text_limit = refl; format = refl; encodings = refl; known = refl; area = refl }) (whole at)
    (omega (arith, c.if-left-gt1.true)) (omega (arith, c.if-left-gt1.true)) (search rules) (listed at)

pub returns-clause-steps : goal.returns-clause-steps
returns-clause-steps c = λ _ serving screen.
    let at = (goal.at.returns-clause-steps c).After-add_number in
    let some : 0 < c.in-Encodings.left = search rules in
    let same = c.replace-whole.ensures.value in
    let list : c.in-Encodings-whole.list ≡ c.add_number.new.list = cc in
    number_last serving screen c.args.self.now _ c.in-Encodings.left c.in-Encodings.number c.in-Encodings.list (unit at)
    c.in-Encodings.is (c.replace-whole.ensures.after ∙ ap (λ (ys : List ℕ). Head (as_reply ys)) c.new.ensures)
    (up_same c.args.self.now _ refl
    (record { text_limit = refl; format = refl; known = refl; area = refl; marks = refl; hints = refl; claim = refl }))
    refl refl refl (whole at)
    (omega (arith, c.if-left-gt1.false, some)) (list ∙ listed at)
