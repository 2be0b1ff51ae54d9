use Rattle.std.proofs.Common.{length-take-le, arith}
use Rattle.rfb_server.proofs.SliceLemmas.{step_fed}
use Rattle.rfb_server.proofs.EndingLemmas.{step_ends}
use Rattle.rfb_server.proofs.PlaceLemmas.{ends_longer, feeds_longer, placed_first, placed_step}
use Rattle.rfb_server.proofs.session.Session.take.Goals as goal

pub returns-in-Ok-clause-fed : goal.returns-in-Ok-clause-fed
returns-in-Ok-clause-fed c =
    let one = length-take-le 1 c.args.bytes.now (omega (arith, c.requires.some)) in
    feeds_longer c.args.self.now c.greet.new.self c.in-Ok.fed.used 1 c.args.bytes.now c.in-Ok.fed.event
    (omega (arith, one, c.in-Ok.ensures.used.1)) c.in-Ok.ensures.fed

pub returns-in-Err-clause-ends : goal.returns-in-Err-clause-ends
returns-in-Err-clause-ends c =
    ends_longer c.args.self.now c.greet.new.self 1 c.args.bytes.now c.in-Err.fault c.in-Err.ensures.ends

pub returns-in-Err-clause-place : goal.returns-in-Err-clause-place
returns-in-Err-clause-place c =
    placed_first c.args.self.now c.greet.new.self c.args.bytes.now c.in-Err.fault c.requires.some c.in-Err.ensures.ends

pub returns-in-Ok-told-clause-fed : goal.returns-in-Ok-told-clause-fed
returns-in-Ok-told-clause-fed c =
    step_fed c.args.self.now c.take_head-used.new.self _ c.in-Ok-told.event
    (rw c.in-Ok-told.is at c.take_head-used.ensures.steps)

pub returns-in-Err-told-clause-ends : goal.returns-in-Err-told-clause-ends
returns-in-Err-told-clause-ends c =
    let is = c.in-Err-told.is in
    step_ends c.args.self.now c.take_head-used.new.self c.take_head-used.result.0 c.args.bytes.now c.in-Err-told.fault
    (rw is at c.take_head-used.ensures.steps) (rw is at c.take_head-used.ensures.memory)
    (rw is at c.take_head-used.ensures.kept)

pub returns-in-Err-told-clause-place : goal.returns-in-Err-told-clause-place
returns-in-Err-told-clause-place c =
    let is = c.in-Err-told.is in
    placed_step c.args.self.now c.take_head-used.new.self c.take_head-used.result.0 c.args.bytes.now c.in-Err-told.fault
    c.take_head-used.ensures.used.0 c.take_head-used.ensures.used.1
    (rw is at c.take_head-used.ensures.steps) (rw is at c.take_head-used.ensures.memory)
    (rw is at c.take_head-used.ensures.place)

pub returns-in-Encodings-clause-fed : goal.returns-in-Encodings-clause-fed
returns-in-Encodings-clause-fed c =
    step_fed c.args.self.now c.take_number-used.new.self _ _ c.take_number-used.ensures.steps

pub returns-in-CutText-clause-fed : goal.returns-in-CutText-clause-fed
returns-in-CutText-clause-fed c = step_fed c.args.self.now c.take_text-used.new.self _ _ c.take_text-used.ensures.steps
