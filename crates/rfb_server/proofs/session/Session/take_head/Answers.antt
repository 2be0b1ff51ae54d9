use Rattle.std.proofs.Common.{◌≡◌, ◌++◌, take, refl, sym}
use Rattle.rfb_wire.specs.ClientHead.{SpellsClientHead}
use Rattle.rfb_server.specs.declared.session.input.progress.Progress.TheVariants.{Head}
use Rattle.rfb_server.proofs.FeedingLemmas.{steps_from, starved_from}
use Rattle.rfb_server.proofs.MessageLemmas.{head_part, type_refused}
use Rattle.rfb_server.proofs.PlaceLemmas.{head_awaits, if_err, type_awaits}
use Rattle.rfb_server.proofs.session.Session.take_head.Goals.{In-Got}
use Rattle.rfb_server.proofs.session.Session.take_head.Goals as goal

pub returns-in-More-clause-steps : goal.returns-in-More-clause-steps
returns-in-More-clause-steps c = λ _ serving screen.
    let unit = take c.gather_head-used.result.0 c.args.bytes.now in
    let more = rw c.in-More.is at c.gather_head-used.ensures.more in
    head_part serving screen c.args.self.now _ c.in-Head.part c.gather_head-used.new.part unit c.in-Head.is refl
    (record { setup = refl; text_limit = refl; format = refl; encodings = refl; known = refl; area = refl }) more.0
    more.1

-- the bytes that came are the rest of the head
spelled : (c : In-Got) → SpellsClientHead c.in-Got.head
    (c.gather_head-used.new.part.items ++ take c.gather_head-used.result.0 c.args.bytes.now)
spelled c = let got = rw c.in-Got.is at c.gather_head-used.ensures.got in rw got.0 got.1

-- and the part before them is as it was
part_kept : (c : In-Got) → Head c.gather_head-used.new.part ≡ c.args.self.now.progress
part_kept c = let got = rw c.in-Got.is at c.gather_head-used.ensures.got in rw got.0 (sym c.in-Head.is)

pub returns-in-Got-clause-steps : goal.returns-in-Got-clause-steps
returns-in-Got-clause-steps c = λ fine serving screen.
    let at = (goal.at.returns-in-Got-clause-steps c).In-Got in
    steps_from serving screen c.args.self.now _ _ (take c.gather_head-used.result.0 c.args.bytes.now) _
    (c.take_message.ensures.steps c.gather_head-used.new.part _ refl (spelled at) fine serving screen)
    (record { setup = refl; text_limit = refl; format = refl; encodings = refl; known = refl; area = refl }) refl
    (part_kept at)

pub returns-in-Got-clause-memory : goal.returns-in-Got-clause-memory
returns-in-Got-clause-memory c = λ wants serving screen.
    let at = (goal.at.returns-in-Got-clause-memory c).In-Got in
    starved_from serving screen c.args.self.now _ (take c.gather_head-used.result.0 c.args.bytes.now)
    (c.take_message.ensures.memory c.gather_head-used.new.part _ refl (spelled at) wants serving screen)
    (record { setup = refl; text_limit = refl; format = refl; encodings = refl; known = refl; area = refl }) refl
    (part_kept at)

pub returns-in-Bad-clause-steps : goal.returns-in-Bad-clause-steps
returns-in-Bad-clause-steps c = λ _ serving screen.
    let unit = take c.gather_head-used.result.0 c.args.bytes.now in
    let bad = rw c.in-Bad.is at c.gather_head-used.ensures.bad in
    rw (c.fail.ensures.value, c.of_wire.ensures bad.1 bad.2)
    (type_refused serving screen c.args.self.now c.fail.new.self c.in-Head.part unit bad.1 c.in-Head.is bad.3)

pub returns-in-Got-clause-place : goal.returns-in-Got-clause-place
returns-in-Got-clause-place c =
    let got = rw c.in-Got.is at c.gather_head-used.ensures.got in
    if_err c.take_message.result _
    (head_awaits c.args.self.now c.in-Head.part c.gather_head-used.result.0 c.args.bytes.now
    c.in-Got.head c.in-Head.is got.1
    c.gather_head-used.ensures.used.0 c.gather_head-used.ensures.used.1)

pub returns-in-Bad-clause-place : goal.returns-in-Bad-clause-place
returns-in-Bad-clause-place c =
    let bad = rw c.in-Bad.is at c.gather_head-used.ensures.bad in
    type_awaits c.args.self.now c.in-Head.part.items c.gather_head-used.result.0 c.args.bytes.now bad.1 bad.3.0
    c.gather_head-used.ensures.used.0 c.gather_head-used.ensures.used.1
