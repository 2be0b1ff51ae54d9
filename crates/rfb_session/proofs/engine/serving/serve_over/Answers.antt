use Rattle.std.proofs.Common.{◌∙◌, List, ℕ, Option, refl, sym, subst, arith, ◌≢◌, Bool, Err, None}
use Rattle.std.proofs.Common.{Ok, Some, ap, false, inl, inr, true, ◌≡◌}
use Rattle.std.proofs.lemmas.Result.{err_from_is_err_and}
use Rattle.rfb_server.specs.declared.fault.ServerFault.{ServerFault}
use Rattle.rfb_server.specs.declared.server.Server.{Server}
use Rattle.rfb_server.specs.Model.{fault_of}
use Rattle.rfb_session.specs.declared.engine.fault.EngineFault.TheVariants.{Server as ServerEnded, Truncated}
use Rattle.rfb_session.specs.OverWire.{AllServedOver, GreetsAndTurnsOver}
use Rattle.rfb_session.specs.ServeEngine.{AllServed, GoesOn, ServedSome, StopsServing}
use Rattle.rfb_session.specs.ServeOrder.{AfterTurns, AtTheEnd, ServesInOrder, Ungreeted}
use Rattle.rfb_session.specs.Turns.{InTurn, StopsInTurn, TakesTurns, TooEarly, Unheard}
use Rattle.rfb_session.specs.Wire.{Tells, Went}
use Rattle.rfb_session.proofs.FailedLemmas.{none_read, unfed_then, unread_then}
use Rattle.rfb_session.proofs.ServeOrderLemmas.{as_before}
use Rattle.rfb_session.proofs.ServingLemmas.{front_all, front_stops, goes_after, unheard}
use Rattle.rfb_session.proofs.TurnLemmas.{greeted_stops}
use Rattle.rfb_session.proofs.WireLemmas.{all_known, some_known}
use Rattle.rfb_session.proofs.engine.serving.serve_over.Given.{Over}
use Rattle.rfb_session.proofs.engine.serving.serve_over.Goals.{In_ok-send_over, In_ok-updates}
use Rattle.rfb_session.proofs.engine.serving.serve_over.Goals as goal

never_both : (b : Bool) → b ≡ true → b ≡ false → ⊥
never_both b is not = absurd cc

has_failed : (fault : Option ServerFault) (f : ServerFault) → fault ≡ Some f → fault ≢ None
has_failed fault f is none = absurd cc

-- what is known of the wire after the greeting
greeted : (g : Over) (c : In_ok-send_over g) →
    Tells (Went c.greeting-greeting.result) (g.W.Wire.known c.args.wire.now) (g.W.Wire.known c.send_over.new.wire)
greeted g c =
    all_known g.W.Wire.steps g.W.Wire.known g.met.W.Wire.tells c.args.wire.now c.send_over.new.wire
    c.greeting-greeting.result c.in_ok-send_over.ensures.done

-- all turns were taken after it
turned : (g : Over) (c : In_ok-updates g) →
    Tells (Went c.greeting-greeting.result) (g.W.Wire.known c.args.wire.now) (g.W.Wire.known c.send_over.new.wire) →
    ServesInOrder g.W.Wire.steps g.S.Scene.shows c.args.wire.now c.args.server.now c.args.scene.now
    c.in_ok-updates.updates c.serve_all.new.wire c.serve_all.new.server c.serve_all.new.scene
    × GoesOn (λ front. AllServedOver (g.W.Wire.known c.args.wire.now) (g.W.Wire.known c.serve_all.new.wire) front
    c.args.server.now c.in_ok-updates.updates c.serve_all.new.server) c.args.server.now
    × GreetsAndTurnsOver g.S.Scene.shows (g.W.Wire.known c.args.wire.now) (g.W.Wire.known c.serve_all.new.wire)
    c.args.server.now c.args.scene.now c.in_ok-updates.updates c.serve_all.new.server c.serve_all.new.scene
turned g c told =
    let old = g.W.Wire.known c.args.wire.now in
    let mid = g.W.Wire.known c.send_over.new.wire in
    let new = g.W.Wire.known c.serve_all.new.wire in
    let all = c.in_ok-updates.ensures in (
      record {
        greeting = c.greeting-greeting.result;
        greeting_is = c.greeting-greeting.ensures;
        greeted = c.send_over.new.wire;
        wrote = c.in_ok-send_over.ensures.done;
        goes_on = all.in_order;
      },
      goes_after _ c.args.server.now c.greeting-greeting.result c.greeting-greeting.ensures
          (as_before old mid told.0 (λ (u : Option (List ℕ)) (n : ℕ). AllServed u
          new.unread old.written new.written c.greeting-greeting.result c.args.server.now
          c.in_ok-updates.updates c.serve_all.new.server)
          (front_all mid.unread new.unread old.written mid.written new.written
          c.greeting-greeting.result c.args.server.now c.in_ok-updates.updates
          c.serve_all.new.server told.1 all.served)),
      record {
        greeting = c.greeting-greeting.result;
        greeting_is = c.greeting-greeting.ensures;
        greeted = mid.written;
        wrote = told.1;
        turns = as_before old mid told.0 (λ (u : Option (List ℕ)) (n : ℕ). TakesTurns
            g.S.Scene.shows u new.unread mid.written new.written c.args.server.now
            c.args.scene.now c.in_ok-updates.updates c.serve_all.new.server
            c.serve_all.new.scene) all.turns;
      },
    )

pub serve_all-requires : goal.serve_all-requires
serve_all-requires g c =
    let told = greeted g (goal.at.serve_all-requires g c).In_ok-send_over in
    record {
      readable = omega (arith, c.requires.readable, told.0.1);
      writable = omega (arith, c.requires.writable, told.2);
    }

-- the greeting was not written whole
pub returns-in_err-send_over : goal.returns-in_err-send_over
returns-in_err-send_over g c =
    let p = err_from_is_err_and c.from_residual.result c.from_residual.ensures.1 in
    rw (p.1, p.2) (let old = g.W.Wire.known c.args.wire.now in
    let new = g.W.Wire.known c.send_over.new.wire in
    let cut = some_known g.W.Wire.steps g.W.Wire.known g.met.W.Wire.tells c.args.wire.now
    c.send_over.new.wire c.greeting-greeting.result c.in_err-send_over.ensures.stopped in
    record {
      in_order = tt;
      stopped_in_order = Ungreeted refl c.greeting-greeting.result c.greeting-greeting.ensures
          c.in_err-send_over.ensures.stopped refl refl;
      served = tt;
      turns = tt;
      between = tt;
      none_failed = tt;
      stopped = goes_after _ c.args.server.now c.greeting-greeting.result c.greeting-greeting.ensures (
        omega (arith, c.in_err-send_over.ensures.one_failed, cut.0.1),
        subst (λ (u : Option (List ℕ)). ServedSome old.unread u old.written new.written
            c.greeting-greeting.result c.args.server.now c.args.server.now) (sym cut.0.0)
            (unheard old.unread old.written new.written c.greeting-greeting.result
            c.args.server.now cut.1),
      );
      in_turn = Unheard refl c.greeting-greeting.result c.greeting-greeting.ensures cut.1 cut.0.0
          refl refl;
      failed = λ f is. (refl, inr (none_read old.unread new.unread cut.0.0, inl refl));
      same_references = cut.0.2;
    })

pub returns : goal.returns
returns g c =
    let told = greeted g (goal.at.returns g c).In_ok-send_over in
    let turns = turned g (goal.at.returns g c).In_ok-updates told in
    record {
      in_order = turns.0;
      stopped_in_order = tt;
      served = turns.1;
      turns = turns.2;
      between = λ serving s prefix stands.
          sym c.if-not-between.false ∙ c.between.ensures.value serving s prefix stands;
      none_failed = (
        c.in_ok-updates.ensures.none_failed.0 ∙ told.0.1,
        c.in_ok-updates.ensures.none_failed.1 ∙ told.2,
      );
      stopped = tt;
      in_turn = tt;
      failed = λ f is.
          let still = c.in_ok-updates.ensures.failed f is in
          absurd (never_both c.between.result c.if-not-between.false
          (c.between.ensures.failed (has_failed (fault_of c.serve_all.new.server) f
          (ap (λ (v : Server). fault_of v) still.0 ∙ is))));
      same_references = c.in_ok-updates.ensures.same_references ∙ told.0.2;
    }

pub returns-then-not-between : goal.returns-then-not-between
returns-then-not-between g c =
    let told = greeted g (goal.at.returns-then-not-between g c).In_ok-send_over in
    let turns = turned g (goal.at.returns-then-not-between g c).In_ok-updates told in
    record {
      in_order = tt;
      stopped_in_order = AtTheEnd refl c.in_ok-updates.updates turns.0;
      served = tt;
      turns = tt;
      between = tt;
      none_failed = tt;
      stopped = goes_after _ c.args.server.now turns.1.greeting turns.1.greeting_is (
        c.in_ok-updates.updates,
        turns.1.goes_on,
        λ serving s prefix stands.
            sym c.if-not-between.true ∙ c.between.ensures.value serving s prefix stands,
      );
      in_turn = TooEarly refl c.in_ok-updates.updates turns.2;
      failed = λ f is.
          let still = c.in_ok-updates.ensures.failed f is in (
            still.0,
            inr (
              unread_then (ServerEnded f) (Ok 0) (g.W.Wire.known c.args.wire.now).unread
                  (g.W.Wire.known c.send_over.new.wire).unread (g.W.Wire.known c.serve_all.new.wire).unread
                  c.in_ok-updates.updates
                  (none_read (g.W.Wire.known c.args.wire.now).unread (g.W.Wire.known c.send_over.new.wire).unread
                  told.0.0) still.1,
              inr refl,
            ),
          );
      same_references = c.in_ok-updates.ensures.same_references ∙ told.0.2;
    }

pub returns-in_err-updates : goal.returns-in_err-updates
returns-in_err-updates g c =
    let p = err_from_is_err_and c.from_residual-in_err-updates.result c.from_residual-in_err-updates.ensures.1 in
    rw (p.1, p.2) (let old = g.W.Wire.known c.args.wire.now in
    let mid = g.W.Wire.known c.send_over.new.wire in
    let new = g.W.Wire.known c.serve_all.new.wire in
    let told = greeted g (goal.at.returns-in_err-updates g c).In_ok-send_over in
    let all = c.in_err-updates.ensures in
    record {
      in_order = tt;
      stopped_in_order = AfterTurns (record {
        greeting = c.greeting-greeting.result;
        greeting_is = c.greeting-greeting.ensures;
        greeted = c.send_over.new.wire;
        wrote = c.in_ok-send_over.ensures.done;
        goes_on = all.stopped_in_order;
      });
      served = tt;
      turns = tt;
      between = tt;
      none_failed = tt;
      stopped = goes_after _ c.args.server.now c.greeting-greeting.result c.greeting-greeting.ensures
          (as_before old mid told.0 (λ (u : Option (List ℕ)) (n : ℕ). StopsServing u
          new.unread n new.failed_reads old.written new.written old.failed_writes
          new.failed_writes c.greeting-greeting.result c.args.server.now
          c.in_err-updates.field-0.0 c.serve_all.new.server)
          (front_stops mid.unread new.unread mid.failed_reads new.failed_reads old.written
          mid.written new.written old.failed_writes mid.failed_writes
          new.failed_writes c.greeting-greeting.result c.args.server.now
          c.in_err-updates.field-0.0 c.serve_all.new.server told.1 told.2 all.stopped));
      in_turn = InTurn c.greeting-greeting.result c.greeting-greeting.ensures mid.written told.1
          (as_before old mid told.0 (λ (u : Option (List ℕ)) (n : ℕ). StopsInTurn
          g.S.Scene.shows u new.unread n new.failed_reads mid.written new.written
          old.failed_writes new.failed_writes c.args.server.now c.args.scene.now
          c.in_err-updates.field-0.0 c.serve_all.new.server c.serve_all.new.scene)
          (greeted_stops g.S.Scene.shows mid.unread new.unread mid.failed_reads new.failed_reads
          mid.written new.written old.failed_writes mid.failed_writes new.failed_writes
          c.args.server.now c.args.scene.now c.in_err-updates.field-0.0 c.serve_all.new.server
          c.serve_all.new.scene told.2 all.in_turn));
      failed = λ f is.
          let still = all.failed f is in (
            still.0,
            unfed_then (ServerEnded f) c.in_err-updates.field-0.0 0 (Err Truncated) old.unread
                mid.unread new.unread (none_read old.unread mid.unread told.0.0) still.1,
          );
      same_references = all.same_references ∙ told.0.2;
    })
