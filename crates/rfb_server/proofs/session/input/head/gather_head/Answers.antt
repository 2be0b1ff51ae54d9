use Rattle.std.proofs.Common.{rules, ◌≡◌, ◌∙◌, ◌++◌, ◌-◌, ◌+◌, ◌≤◌, List, ℕ, length}
use Rattle.std.proofs.Common.{take, min, refl, sym, ap, subst}
use Rattle.std.proofs.Common.{true, arith}
use Rattle.std.proofs.lemmas.Grind.{common_steps}
use Rattle.std.proofs.lemmas.List.{take_all}
use Rattle.rfb_wire.specs.ClientHead.{SpellsClientHead}
use Rattle.rfb_wire.specs.Heads.{IsUnknown}
use Rattle.rfb_server.specs.Progress.{is_head_begun}
use Rattle.rfb_server.proofs.HeadLemmas.{begun_short, gathered_more, gathered_got, bad_type}
use Rattle.rfb_server.proofs.session.input.head.gather_head.Goals.{After-as_slice-2, In-More}
use Rattle.rfb_server.proofs.session.input.head.gather_head.Goals as goal

-- what is read is the part and the first bytes
all : (c : After-as_slice-2) → c.as_slice-2.result.now ≡ c.args.part.now.items ++ take c.min.result c.args.bytes.now
all c =
    c.as_slice-2.ensures.value ∙ c.append-2.ensures.items
    ∙ ap (λ (ys : List ℕ). ys ++ take c.min.result c.args.bytes.now) (c.append.ensures.items
    ∙ ap (λ (ys : List ℕ). ys ++ c.as_slice.result.now) c.new-head.ensures ∙ c.as_slice.ensures.value)

-- where it wants more it has taken all bytes
more : (c : In-More) → c.as_slice-2.result.now ≡ c.args.part.now.items ++ take c.min.result c.args.bytes.now →
    (length c.args.part.now.items + length c.args.bytes.now ≤ 20)
    × (c.as_slice-2.result.now ≡ c.args.part.now.items ++ take (length c.args.bytes.now) c.args.bytes.now)
    × (is_head_begun c.as_slice-2.result.now ≡ true)
more c whole =
    let part = c.args.part.now.items in
    let bytes = c.args.bytes.now in
    let len : c.len-room.result ≡ length part = search rules in
    let k : c.min.result ≡ min (length bytes) (20 - length part) =
    c.min.ensures ∙ ap (λ (n : ℕ). min (length bytes) (20 - n)) len in
    gathered_more part bytes c.as_slice-2.result.now c.in-More.missing c.min.result
    (begun_short part c.requires.partial) k whole c.in-More.ensures.more

pub append-requires-in-More : goal.append-requires-in-More
append-requires-in-More c =
    let at = goal.at.append-requires-in-More c in
    let room = more at.In-More (all at.After-as_slice-2) in
    search (rules, room.0)

pub returns-in-More-clause-more : goal.returns-in-More-clause-more
returns-in-More-clause-more c =
    let bytes = c.args.bytes.now in
    let at = goal.at.returns-in-More-clause-more c in
    let room = more at.In-More (all at.After-as_slice-2) in
    let longer : c.append-in-More.new.kept.items ≡ c.args.part.now.items ++ take (length bytes) bytes =
    c.append-in-More.ensures.items
    ∙ ap (λ (ys : List ℕ). c.args.part.now.items ++ ys) (sym (take_all (length bytes) bytes (omega arith))) in
    (longer, subst (λ (zs : List ℕ). is_head_begun zs ≡ true) (room.1 ∙ sym longer) room.2)

pub returns-in-Got-clause-got : goal.returns-in-Got-clause-got
returns-in-Got-clause-got c =
    let part = c.args.part.now.items in
    let bytes = c.args.bytes.now in
    let len : c.len.result ≡ length part = search rules in
    let within : c.min.result ≤ length bytes = omega (arith, c.min.ensures) in
    let got = gathered_got part bytes c.as_slice-2.result.now c.min.result c.in-Got.size c.in-Got.whole
    c.requires.partial within (all (goal.at.returns-in-Got-clause-got c).After-as_slice-2)
    c.in-Got.ensures.got.0 c.in-Got.ensures.got.1 in
    (refl, rw len got.2)

pub returns-in-Bad-clause-bad : goal.returns-in-Bad-clause-bad
returns-in-Bad-clause-bad c =
    let bad = bad_type c.in-Bad.fault c.args.part.now.items c.args.bytes.now c.min.result c.requires.partial
    (subst (λ (zs : List ℕ). IsUnknown SpellsClientHead c.in-Bad.fault zs)
    (all (goal.at.returns-in-Bad-clause-bad c).After-as_slice-2) c.in-Bad.ensures.bad) in
    (refl, bad.0, bad.1, bad.2)

pub overflow_sub-result : goal.overflow_sub-result
overflow_sub-result c = grind (arith, common_steps)
