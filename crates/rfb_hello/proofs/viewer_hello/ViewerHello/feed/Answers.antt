use Rattle.std.proofs.Common.{◌≡◌, refl, ◌∙◌, ◌≤◌, sym, subst, ℕ, List, ◌-◌, length, take, drop, length-drop, ap}
use Rattle.std.proofs.Common.{Option, Ok, Err, None, arith}
use Rattle.std.proofs.lemmas.List.{take_rest}
use Rattle.std.proofs.lemmas.Result.{err_from_is_err_and}
use Rattle.rfb_wire.proofs.stream_laws.FeedLaws.{fed_step, fault_step, memory_step}
use Rattle.rfb_hello.specs.declared.fault.HelloFault.TheVariants.{NoMemory}
use Rattle.rfb_hello.specs.declared.step.ViewerStep.{ViewerStep}
use Rattle.rfb_hello.specs.ViewerEnd.{viewer_end, AsksMemory}
use Rattle.rfb_hello.specs.Offer.{KeepsOffer, TakesOffer}
use Rattle.rfb_hello.specs.ViewerModel.{StandsFor, KeepsReason, goes_on_after}
use Rattle.rfb_hello.proofs.ServerHelloLemmas.{none_told, some_told}
use Rattle.rfb_hello.proofs.ViewerStepLemmas.{viewer_machine}
use Rattle.rfb_hello.proofs.ViewerHelloLemmas.{viewer_starts, not_failed, step_there}
use Rattle.rfb_hello.proofs.ViewerReasonLemmas.{kept_later}
use Rattle.rfb_hello.proofs.ViewerHelloLemmas.{offer_later, taken_later}
use Rattle.rfb_hello.proofs.viewer_hello.ViewerHello.feed.Goals as goal

pub loop-used-init : goal.loop-used-init
loop-used-init c =
    let none = not_failed c.args.self.now.progress (λ fault kept e. c.in_default.not-Failed fault kept e) in
    record {
      within = omega arith;
      began = none;
      going = none;
      stays_open = λ goes. goes;
      setup = refl;
      offer = refl;
      fed = λ setup. viewer_starts setup c.args.self.now;
    }

pub returns-in_err-event : goal.returns-in_err-event
returns-in_err-event c =
    let p = err_from_is_err_and c.from_residual.result c.from_residual.ensures.1 in
    let began = c.loop-used.invariant.began in
    let rest = take_rest c.args.bytes.now c.loop-used.used in
    let fault = c.in_err-event.field-0.0 in
    let was : c.take-n.result.1 ≡ Err fault = c.in_err-event.was in
    rw (p.1, p.2) (record {
      used = tt;
      all = tt;
      some = tt;
      fed = tt;
      ready = tt;
      setup = c.take-n.ensures.setup ∙ c.loop-used.invariant.setup;
      fault = λ other setup.
          let steps = c.take-n.ensures.steps (λ e. let same : fault ≡ NoMemory = cc in other same) setup in
          fault_step (viewer_end setup) (viewer_machine setup) (StandsFor setup) c.args.self.now c.loop-used.self
          c.take-n.new.self c.loop-used.used c.take-n.result.0 c.args.bytes.now fault (c.loop-used.invariant.fed
          setup) (step_there setup c.loop-used.self c.take-n.new.self c.take-n.result.0 _ _ _ _ rest was steps);
      memory = λ is setup.
          let wants = c.take-n.ensures.memory (let same : c.take-n.result.1 ≡ Err NoMemory = cc in same) setup in
          memory_step (viewer_end setup) (viewer_machine setup) (AsksMemory setup)
          (StandsFor setup) c.args.self.now c.loop-used.self c.loop-used.used c.take-n.result.0 c.args.bytes.now
          (c.loop-used.invariant.fed setup) (rw rest at wants);
      reason = λ none.
          let kept : KeepsReason fault c.loop-used.self (take c.take-n.result.0
          (take (length c.args.bytes.now - c.loop-used.used) (drop c.loop-used.used c.args.bytes.now)))
          c.take-n.new.self = rw was at c.take-n.ensures.reason in
          kept_later fault c.args.self.now c.loop-used.self c.take-n.new.self c.loop-used.used c.take-n.result.0
          c.args.bytes.now c.loop-used.invariant.fed (subst (λ (xs : List ℕ). KeepsReason fault c.loop-used.self
          (take c.take-n.result.0 xs) c.take-n.new.self) rest kept);
      offer = λ none.
          let kept : KeepsOffer fault c.loop-used.self (take c.take-n.result.0
          (take (length c.args.bytes.now - c.loop-used.used) (drop c.loop-used.used c.args.bytes.now)))
          c.take-n.new.self = rw was at c.take-n.ensures.offer in
          offer_later fault c.args.self.now c.loop-used.self c.take-n.new.self c.loop-used.used c.take-n.result.0
          c.args.bytes.now c.loop-used.invariant.fed c.loop-used.invariant.offer
          (subst (λ (xs : List ℕ). KeepsOffer fault c.loop-used.self (take c.take-n.result.0 xs) c.take-n.new.self)
          rest kept);
      offered = tt;
      fails = rw was at c.take-n.ensures.fails;
      failed = λ f h. absurd cc;
    })

pub returns-then-is_some : goal.returns-then-is_some
returns-then-is_some c =
    let began = c.loop-used.invariant.began in
    let rest = take_rest c.args.bytes.now c.loop-used.used in
    let within : c.take-n.result.0 ≤ length (drop c.loop-used.used c.args.bytes.now) =
    rw rest at c.take-n.ensures.within in
    let was : c.take-n.result.1 ≡ Ok c.in_ok-event.event = c.in_ok-event.was in
    record {
      used = omega (arith, length-drop c.loop-used.used c.args.bytes.now, within, c.loop-used.invariant.within);
      all = λ none. absurd (some_told c.in_ok-event.event (sym c.is_some.ensures ∙ c.if-is_some.true) none);
      some = λ is any. omega (arith, c.take-n.ensures.some);
      ready = λ is. rw was at c.take-n.ensures.goes;
      setup = c.take-n.ensures.setup ∙ c.loop-used.invariant.setup;
      fed = λ setup.
          let steps = c.take-n.ensures.steps (λ e. cc) setup in
          fed_step (viewer_end setup) (viewer_machine setup) (StandsFor setup)
          c.args.self.now c.loop-used.self c.take-n.new.self c.loop-used.used
          c.take-n.result.0 c.args.bytes.now c.in_ok-event.event (c.loop-used.invariant.fed setup)
          (step_there setup c.loop-used.self c.take-n.new.self c.take-n.result.0 _ _ _ _ rest was steps);
      fault = tt;
      memory = tt;
      reason = tt;
      offer = tt;
      offered =
          let kept = rw was at c.take-n.ensures.offered in
          taken_later c.in_ok-event.event c.args.self.now c.loop-used.self c.take-n.new.self c.loop-used.used
          c.take-n.result.0
          c.args.bytes.now c.loop-used.invariant.fed c.loop-used.invariant.offer
          (subst (λ (xs : List ℕ). TakesOffer c.in_ok-event.event c.loop-used.self (take c.take-n.result.0 xs)
          c.take-n.new.self) rest kept);
      fails = tt;
      failed = λ f h. absurd cc;
    }

pub loop-used-preserved : goal.loop-used-preserved
loop-used-preserved c =
    let rest = take_rest c.args.bytes.now c.loop-used.used in
    let within : c.take-n.result.0 ≤ length (drop c.loop-used.used c.args.bytes.now) =
    rw rest at c.take-n.ensures.within in
    let was : c.take-n.result.1 ≡ Ok c.in_ok-event.event = c.in_ok-event.was in
    let none : c.in_ok-event.event ≡ None =
    none_told c.in_ok-event.event (sym c.is_some.ensures ∙ c.if-is_some.false) in
    let goes = rw was at c.take-n.ensures.goes in
    record {
      within = omega (arith, length-drop c.loop-used.used c.args.bytes.now, within, c.loop-used.invariant.within);
      began = c.loop-used.invariant.began;
      going = rw was at c.take-n.ensures.going;
      stays_open = λ _. goes ∙ ap goes_on_after none;
      setup = c.take-n.ensures.setup ∙ c.loop-used.invariant.setup;
      offer = (rw none at (rw was at c.take-n.ensures.offered)) ∙ c.loop-used.invariant.offer;
      fed = λ setup.
          let steps = c.take-n.ensures.steps (λ e. cc) setup in
          fed_step (viewer_end setup) (viewer_machine setup) (StandsFor setup) c.args.self.now
          c.loop-used.self c.take-n.new.self c.loop-used.used c.take-n.result.0 c.args.bytes.now None
          (c.loop-used.invariant.fed setup) (step_there setup c.loop-used.self c.take-n.new.self c.take-n.result.0 _
          _ _ _ rest (was ∙ ap (λ (e : Option ViewerStep). Ok e) none) steps);
    }
