use Rattle.std.proofs.Common.{◌∙◌, refl, subst, sym, Some}
use Rattle.std.proofs.lemmas.List.{take_rest}
use Rattle.rfb_hello.proofs.ServerHelloLaws.{none_told, some_told}
use Rattle.rfb_viewer.specs.declared.event.ViewerEvent.TheVariants.{UpdateDone}
use Rattle.rfb_viewer.specs.declared.viewer.Viewer.{Viewer}
use Rattle.rfb_viewer.specs.steps.StepPromises.{HasTaken}
use Rattle.rfb_viewer.proofs.TakeAllLemmas.{none_taken_yet, takes_the_rest, takes_on, takes_last}
use Rattle.rfb_viewer.proofs.TakeAllLemmas.{takes_fault, takes_update}
use Rattle.rfb_viewer.proofs.viewer.Viewer.take_all.Goals as goal

pub loop-used-init : goal.loop-used-init
loop-used-init c = none_taken_yet c.args.self.now c.args.bytes.now _ c.requires.none c.requires.going

pub returns-in-Err-take : goal.returns-in-Err-take
returns-in-Err-take c =
    let known = subst (λ (v : Viewer). HasTaken c.args.self.now c.args.bytes.now c.loop-used.used v)
    (sym (c.take_update.ensures.kept c.in_default-take_update.is)) c.loop-used.invariant in
    takes_fault c.args.self.now c.take_update.new.self c.take.new.self c.args.bytes.now c.loop-used.used
    known _ (take_rest c.args.bytes.now c.loop-used.used) c.in-Err-take.failure.used
    c.in-Err-take.failure.fault c.in-Err-take.ensures

pub returns-in-Err : goal.returns-in-Err
returns-in-Err c = takes_fault c.args.self.now c.loop-used.self c.take_data.new.self c.args.bytes.now c.loop-used.used
    c.loop-used.invariant _ (take_rest c.args.bytes.now c.loop-used.used) c.in-Err.failure.used c.in-Err.failure.fault
    c.in-Err.ensures

pub returns-then-is_some : goal.returns-then-is_some
returns-then-is_some c =
    let known = subst (λ (v : Viewer). HasTaken c.args.self.now c.args.bytes.now c.loop-used.used v)
    (sym (c.take_update.ensures.kept c.in_default-take_update.is)) c.loop-used.invariant in
    takes_last c.args.self.now c.take_update.new.self c.take.new.self c.args.bytes.now c.loop-used.used
    known _ (take_rest c.args.bytes.now c.loop-used.used) c.in-Ok-take.fed.used c.in-Ok-take.fed.event
    (some_told c.in-Ok-take.fed.event (sym c.is_some.ensures ∙ c.if-is_some.true)) c.in-Ok-take.ensures

pub loop-used-preserved : goal.loop-used-preserved
loop-used-preserved c =
    let known = subst (λ (v : Viewer). HasTaken c.args.self.now c.args.bytes.now c.loop-used.used v)
    (sym (c.take_update.ensures.kept c.in_default-take_update.is)) c.loop-used.invariant in
    takes_on c.args.self.now c.take_update.new.self c.take.new.self c.args.bytes.now c.loop-used.used
    known _ (take_rest c.args.bytes.now c.loop-used.used) c.in-Ok-take.fed.used c.in-Ok-take.fed.event
    (none_told c.in-Ok-take.fed.event (sym c.is_some.ensures ∙ c.if-is_some.false)) c.in-Ok-take.ensures

pub returns-then-painted : goal.returns-then-painted
returns-then-painted c = takes_last c.args.self.now c.loop-used.self c.take_data.new.self c.args.bytes.now
    c.loop-used.used c.loop-used.invariant _ (take_rest c.args.bytes.now c.loop-used.used) c.in-Ok.painted.used
    (Some UpdateDone) (some_told (Some UpdateDone) refl) (rw c.if-painted.true at c.in-Ok.ensures)

pub loop-used-preserved-else-painted : goal.loop-used-preserved-else-painted
loop-used-preserved-else-painted c = takes_on c.args.self.now c.loop-used.self c.take_data.new.self c.args.bytes.now
    c.loop-used.used c.loop-used.invariant _ (take_rest c.args.bytes.now c.loop-used.used) c.in-Ok.painted.used _ refl
    (rw c.if-painted.false at c.in-Ok.ensures)

pub returns : goal.returns
returns c = takes_the_rest c.args.self.now c.loop-used.self c.args.bytes.now c.loop-used.used c.loop-used.invariant
    c.loop-used-test.false

pub returns-in-Some : goal.returns-in-Some
returns-in-Some c = takes_update c.args.self.now c.loop-used.self c.take_update.new.self c.args.bytes.now
    c.loop-used.used c.loop-used.invariant _ (take_rest c.args.bytes.now c.loop-used.used) c.in-Some.whole
    c.in-Some.ensures.whole
