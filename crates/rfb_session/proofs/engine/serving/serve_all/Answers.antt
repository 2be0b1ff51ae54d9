use Rattle.std.proofs.Common.{◌∙◌, ℕ, refl, rules, arith, ◌≡◌, None, Ok, Option, Some, Result, ap, inr}
use Rattle.std.proofs.KnownBytes.{Consumes-nil}
use Rattle.std.proofs.lemmas.Result.{err_from_is_err_and}
use Rattle.rfb_server.specs.declared.server.Server.{Server}
use Rattle.rfb_server.specs.Model.{fault_of}
use Rattle.rfb_session.specs.declared.engine.fault.EngineFault.{EngineFault}
use Rattle.rfb_session.specs.declared.engine.fault.EngineFault.TheVariants.{Server as ServerEnded}
use Rattle.rfb_session.specs.ServeOrder.{TurnOver}
use Rattle.rfb_session.proofs.FailedLemmas.{none_then, not_fed, some_turns, unfed_then}
use Rattle.rfb_session.proofs.ServingLemmas.{serving_none, serving_out}
use Rattle.rfb_session.proofs.ServeOrderLemmas.{end_known, none_failed_then, order_ends, order_more}
use Rattle.rfb_session.proofs.ServeOrderLemmas.{order_none, order_out, order_stops, stop_known}
use Rattle.rfb_session.proofs.ServeOrderLemmas.{turn_known}
use Rattle.rfb_session.proofs.TurnLemmas.{turned_by, turns_none, turns_more, turns_end, turns_stop}
use Rattle.rfb_session.proofs.TurnLemmas.{served_more, served_end, served_stop}
use Rattle.rfb_session.proofs.engine.serving.serve_all.Goals as goal

none_some : (n : ℕ) (r : Result (Option ℕ) EngineFault) → r ≡ Ok None → r ≡ Ok (Some n) → ⊥
none_some n r one two = absurd cc

pub loop-turn-init : goal.loop-turn-init
loop-turn-init g c =
    let old = g.W.Wire.known c.args.wire.now in
    record {
      order = order_none g.W.Wire.steps g.S.Scene.shows c.args.wire.now c.args.server.now
          c.args.scene.now;
      served = serving_none old.unread old.written c.args.server.now;
      turns = turns_none g.S.Scene.shows old.unread old.written c.args.server.now
          c.args.scene.now;
      none_failed = (refl, refl, refl);
      failed = λ f is. (refl, refl, refl, Consumes-nil old.unread);
    }

pub turn-requires : goal.turn-requires
turn-requires g c =
    let l = c.loop-turn in
    record {
      readable = omega (arith, c.requires.readable, l.invariant.none_failed.0);
      writable = omega (arith, c.requires.writable, l.invariant.none_failed.1);
    }

pub returns-in-None : goal.returns-in-None
returns-in-None g c =
    let l = c.loop-turn in
    let ended = c.in_ok-more.ensures.ended (search rules) in
    let end = end_known g.W.Wire.steps g.W.Wire.known g.met.W.Wire.tells l.wire l.server l.scene
    c.turn.new.wire c.turn.new.server c.turn.new.scene ended in
    let none = none_failed_then (g.W.Wire.known c.args.wire.now) (g.W.Wire.known l.wire)
    (g.W.Wire.known c.turn.new.wire) l.invariant.none_failed end.0 in
    record {
      in_order = order_ends g.W.Wire.steps g.S.Scene.shows c.args.wire.now c.args.server.now
          c.args.scene.now l._turn l.updates l.wire l.server l.scene c.turn.new.wire
          c.turn.new.server c.turn.new.scene l.invariant.order ended;
      stopped_in_order = tt;
      served = served_end _ _ _ _ _ _ c.args.server.now l._turn l.updates l.server l.scene c.turn.new.server
          c.turn.new.scene l.invariant.served end.1;
      turns = turns_end g.S.Scene.shows _ _ _ _ _ _ c.args.server.now c.args.scene.now l.updates l.server l.scene
          c.turn.new.server c.turn.new.scene l.invariant.turns end.1;
      none_failed = (none.0, none.1);
      stopped = tt;
      in_turn = tt;
      failed = λ f is.
          let was = l.invariant.failed f is in (
            ended.1 ∙ was.2,
            inr (
              none_then _ _ _ was.3 end.1.read,
              inr (ap (λ (n : ℕ). Ok n) was.1),
            ),
          );
      same_references = none.2;
    }

pub returns-in_err-more : goal.returns-in_err-more
returns-in_err-more g c =
    let p = err_from_is_err_and c.from_residual.result c.from_residual.ensures.1 in
    rw (p.1, p.2) (let l = c.loop-turn in
    let none = l.invariant.none_failed in
    let stop = stop_known g.W.Wire.steps g.W.Wire.known g.met.W.Wire.tells l.wire c.turn.new.wire
    l.server c.in_err-more.field-0.0 c.turn.new.server c.in_err-more.ensures.stopped in
    record {
      in_order = tt;
      stopped_in_order = order_stops g.W.Wire.steps g.W.Wire.known g.S.Scene.shows c.args.wire.now
          c.args.server.now c.args.scene.now l._turn l.updates l.wire l.server l.scene
          c.in_err-more.field-0.0 c.turn.new.wire c.turn.new.server c.turn.new.scene l.invariant.order
          c.in_err-more.ensures.undrawn c.in_err-more.ensures.stopped;
      served = tt;
      turns = tt;
      none_failed = tt;
      stopped = served_stop _ _ _ _ _ _ _ _ _ _ _ _ c.args.server.now l._turn l.updates l.server
          c.in_err-more.field-0.0 c.turn.new.server l.invariant.served none.0 none.1 stop.1;
      in_turn = turns_stop g.S.Scene.shows _ _ _ _ _ _ _ _ _ _ _ _ c.args.server.now
          c.args.scene.now l.updates l.server l.scene c.in_err-more.field-0.0 c.turn.new.server
          c.turn.new.scene l.invariant.turns none.0 none.1 c.in_err-more.ensures.undrawn stop.1;
      failed = λ f is.
          let was = l.invariant.failed f is in
          let again = c.in_err-more.ensures.failed f (ap (λ (v : Server). fault_of v) was.2 ∙ is) in (
            again.0 ∙ was.2,
            unfed_then (ServerEnded f) c.in_err-more.field-0.0 None (Ok 0) _ _ _ was.3 again.1,
          );
      same_references = stop.0 ∙ none.2;
    })

pub loop-turn-preserved : goal.loop-turn-preserved
loop-turn-preserved g c =
    let l = c.loop-turn in
    let over = turned_by c.in_ok-more.field-0 c.in-Some.more
    (λ (n : ℕ). TurnOver g.W.Wire.steps g.S.Scene.shows l.wire l.server l.scene n c.turn.new.wire
    c.turn.new.server c.turn.new.scene) c.in-Some.is c.in_ok-more.ensures.turned in
    let turn = turn_known g.W.Wire.steps g.W.Wire.known g.met.W.Wire.tells g.S.Scene.shows l.wire
    l.server l.scene c.in-Some.more c.turn.new.wire c.turn.new.server c.turn.new.scene over in
    record {
      order = order_more g.W.Wire.steps g.S.Scene.shows c.args.wire.now c.args.server.now
          c.args.scene.now l._turn l.updates l.wire l.server l.scene c.in-Some.more
          c.saturating_add-updates.result c.turn.new.wire c.turn.new.server c.turn.new.scene
          l.invariant.order over c.saturating_add-updates.ensures;
      served = served_more g.S.Scene.shows _ _ _ _ _ _ c.args.server.now l._turn l.updates l.server l.scene
          c.in-Some.more c.saturating_add-updates.result c.turn.new.server c.turn.new.scene
          l.invariant.served turn.1 c.saturating_add-updates.ensures;
      turns = turns_more g.S.Scene.shows _ _ _ _ _ _ c.args.server.now c.args.scene.now l.updates l.server l.scene
          c.in-Some.more c.saturating_add-updates.result c.turn.new.server c.turn.new.scene
          l.invariant.turns turn.1 c.saturating_add-updates.ensures;
      none_failed = none_failed_then (g.W.Wire.known c.args.wire.now) (g.W.Wire.known l.wire)
          (g.W.Wire.known c.turn.new.wire) l.invariant.none_failed turn.0;
      failed = λ f is.
          let was = l.invariant.failed f is in
          let again = c.turn.ensures.failed f (ap (λ (v : Server). fault_of v) was.2 ∙ is) in
          absurd (not_fed (ServerEnded f) (Ok None) _ _ c.turn.result
          (Some c.in-Some.more) (c.in_ok-more.was ∙ ap (λ (o : Option ℕ). Ok o) c.in-Some.is)
          (none_some c.in-Some.more (Ok None) refl) again.1);
    }

pub returns-clause-in_order : goal.returns-clause-in_order
returns-clause-in_order g c =
    let l = c.loop-turn in
    order_out g.W.Wire.steps g.S.Scene.shows c.args.wire.now c.args.server.now c.args.scene.now
    l._turn l.updates l.wire l.server l.scene l.invariant.order (search rules)

pub returns-clause-served : goal.returns-clause-served
returns-clause-served g c =
    let l = c.loop-turn in
    let old = g.W.Wire.known c.args.wire.now in
    let now = g.W.Wire.known l.wire in
    serving_out old.unread now.unread old.written now.written c.args.server.now l._turn l.updates
    l.server l.invariant.served (search rules)

pub returns-clause-none_failed : goal.returns-clause-none_failed
returns-clause-none_failed g c =
    let none = c.loop-turn.invariant.none_failed in
    (none.0, none.1)

pub returns-clause-failed : goal.returns-clause-failed
returns-clause-failed g c = λ f is.
    let l = c.loop-turn in
    absurd (some_turns l._turn (l.invariant.failed f is).0 (search rules))
