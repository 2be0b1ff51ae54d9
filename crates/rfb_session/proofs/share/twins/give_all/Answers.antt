use Rattle.std.proofs.Common.{None, arith}
use Rattle.std.proofs.lemmas.List.{get_or_default}
use Rattle.rfb_session.proofs.GivenLemmas.{given_start, given_more, given_end, heir_still, shared_there}
use Rattle.rfb_session.proofs.share.twins.give_all.Goals as goal

pub loop-place-init : goal.loop-place-init
loop-place-init c =
    given_start c.args.screen.now _ c.args.own c.args.twins c.none-given.result c.args.slots.now c.none-given.ensures

pub loop-place-preserved : goal.loop-place-preserved
loop-place-preserved c =
    let l = c.loop-place in
    given_more c.args.screen.now _ c.args.own c.args.twins l.place l.given c.give_at.result c.or-given.result
    c.args.slots.now l.slots c.give_at.new.slots c.give_at.ensures.size l.invariant c.or-given.ensures
    c.give_at.ensures.only c.give_at.ensures.within c.give_at.ensures.given c.give_at.ensures.none
    c.give_at.ensures.others

pub give_at-requires-clause-twin : goal.give_at-requires-clause-twin
give_at-requires-clause-twin c = λ e.
    let l = c.loop-place in
    let there = get_or_default c.args.slots.now c.args.own c.index-slots-own.result None (omega arith) in
    heir_still c.args.screen.now _ c.args.own c.args.twins l.place l.given c.args.slots.now l.slots
    (shared_there c.args.slots.now c.args.own _ _ (omega arith) there c.share_in.ensures) l.invariant
    (c.requires.twins l.place e)

pub returns-clause-given : goal.returns-clause-given
returns-clause-given c =
    let l = c.loop-place in
    let there = get_or_default c.args.slots.now c.args.own c.index-slots-own.result None (omega arith) in
    given_end c.args.screen.now _ c.args.own c.args.twins l.place l.given c.args.slots.now l.slots
    (shared_there c.args.slots.now c.args.own _ _ (omega arith) there c.share_in.ensures) l.invariant
