use Rattle.std.proofs.Common.{◌≡◌, ◌∙◌, ◌<◌, ◌≤◌, ◌+◌, ◌-◌, ◌^◌, ℕ, List, Option, take, length}
use Rattle.std.proofs.Common.{refl, sym, subst, inl, inr, arith, rules, ap, Ok, Err}
use Rattle.std.proofs.KnownBytes.{Consumes-nil}
use Rattle.std.proofs.lemmas.Result.{err_from_is_err_and}
use Rattle.rfb_viewer.specs.declared.viewer.Viewer.{Viewer}
use Rattle.rfb_viewer.specs.Model.{fault_of}
use Rattle.rfb_session.specs.declared.engine.fault.EngineFault.TheVariants.{Viewer as ViewerEnded, Truncated, Device}
use Rattle.rfb_session.specs.EngineRead.{HasLooked}
use Rattle.rfb_session.specs.ViewEngine.{HasMissed, ViewedSome}
use Rattle.rfb_session.specs.ViewOrder.{LookOver, NextLook, NoLook}
use Rattle.rfb_session.specs.Watcher.{EndsLooking, EndsViewing}
use Rattle.rfb_session.specs.Wire.{Came, Ended, Missed, by_steps}
use Rattle.rfb_session.proofs.FailedLemmas.{err_as, no_answer, none_kept, none_then, some_turns}
use Rattle.rfb_session.proofs.PlayLemmas.{some_taken}
use Rattle.rfb_session.proofs.ViewedLemmas.{few_taken, viewing_none, viewing_more, viewing_ends, viewing_misses}
use Rattle.rfb_session.proofs.ViewedLemmas.{viewing_out, viewing_unread, fewer_than, looking_fails, then_viewed}
use Rattle.rfb_session.proofs.LookLemmas.{more_counted}
use Rattle.rfb_session.proofs.EngineRunLemmas.{only_one}
use Rattle.rfb_session.proofs.WatcherLemmas.{over_ends, over_more, over_none, over_stops}
use Rattle.rfb_session.proofs.ServeOrderLemmas.{none_failed_then}
use Rattle.rfb_session.proofs.ViewOrderLemmas.{cut_known, look_known, view_cut, view_ends, view_misses}
use Rattle.rfb_session.proofs.engine.viewing.view_watched.Goals as goal

pub loop-turn-init : goal.loop-turn-init
loop-turn-init g c =
    let old = g.W.Wire.known c.args.wire.now in
    record {
      order = NoLook;
      viewed = viewing_none old.unread old.written (g.K.Sink.written c.args.kept.now)
          c.args.viewer.now c.args.updates (omega (arith, c.requires.some));
      none_failed = (refl, refl, refl);
      none_unkept = refl;
      same_reference = refl;
      size = refl;
      failed = λ f is. (refl, refl, Consumes-nil old.unread);
      heard = over_none g.A.Watcher.steps (λ (n : ℕ). c.args.updates ≡ n + c.args.updates) old.unread
          c.args.viewer.now c.args.watcher.now (only_one c.args.updates);
    }

pub read-requires : goal.read-requires
read-requires g c =
    let l = c.loop-turn in
    record {
      some = omega (arith, l.invariant.size);
      countable = omega (arith, c.requires.readable, l.invariant.none_failed.0);
    }

pub look-requires : goal.look-requires
look-requires g c =
    let l = c.loop-turn in
    let some : 0 < c.in-Ok.count = search rules in
    let told = g.met.W.Wire.tells l.wire c.read.new.self (Came (take c.in-Ok.count c.read.new.buf))
    (c.in-Ok.ensures.stepped.0 some) in
    record {
      writable = omega (arith, c.requires.writable, l.invariant.none_failed.1, told.0.1);
      keepable = omega (arith, c.requires.keepable, l.invariant.none_unkept);
      wanted = l.invariant.viewed.going;
    }

-- a read failed
pub returns-in_default : goal.returns-in_default
returns-in_default g c =
    let l = c.loop-turn in
    let old = g.W.Wire.known c.args.wire.now in
    let mid = g.W.Wire.known l.wire in
    let new = g.W.Wire.known c.read.new.self in
    let none = l.invariant.none_failed in
    let told = g.met.W.Wire.tells l.wire c.read.new.self Missed c.in_default.ensures.stepped in
    record {
      in_order = tt;
      stopped_in_order = view_misses g.W.Wire.steps g.W.Wire.known c.args.wire.now l.wire
          (g.K.Sink.written c.args.kept.now) (g.K.Sink.written l.kept) c.args.viewer.now l.viewer
          c.args.updates l._turn l.left l.invariant.order l.invariant.viewed.going
          c.read.new.self (g.K.Sink.failed c.args.kept.now) (g.K.Sink.failed l.kept)
          c.in_default.ensures.stepped;
      told = tt;
      viewed = tt;
      none_failed = tt;
      stopped = (
        omega (arith, told.2, told.0.1, none.0, none.1, l.invariant.none_unkept),
        subst (λ (o : Option (List ℕ)). ViewedSome old.unread new.unread old.written o
            (g.K.Sink.written c.args.kept.now) (g.K.Sink.written l.kept) c.args.viewer.now
            l.viewer) (sym told.0.0)
            (viewing_unread old.unread mid.unread new.unread old.written mid.written
            (g.K.Sink.written c.args.kept.now) (g.K.Sink.written l.kept) c.args.viewer.now
            l._turn c.args.updates l.left l.viewer l.invariant.viewed told.1),
      );
      failed = λ f is.
          let was = l.invariant.failed f is in
          (was.1, inr (none_kept old.unread mid.unread new.unread was.2 told.1, inl refl));
      same_reference = l.invariant.same_reference;
      same_references = told.0.2 ∙ none.2;
      heard = over_stops g.A.Watcher.steps (λ (n : ℕ). c.args.updates ≡ n + l.left)
          (EndsViewing c.args.updates (Err Device) l.viewer) old.unread mid.unread new.unread
          c.args.viewer.now c.args.watcher.now l.viewer l.watcher l.invariant.heard
          (none_kept mid.unread mid.unread new.unread (Consumes-nil mid.unread) told.1) (λ n was. refl);
    }

-- a read found the end
pub returns-then-count-eq0 : goal.returns-then-count-eq0
returns-then-count-eq0 g c =
    let l = c.loop-turn in
    let none : c.in-Ok.count ≡ 0 = search rules in
    let step = c.in-Ok.ensures.stepped.1 none in
    let told = g.met.W.Wire.tells l.wire c.read.new.self Ended step in
    record {
      in_order = tt;
      stopped_in_order = view_ends g.W.Wire.steps g.W.Wire.known c.args.wire.now l.wire
          (g.K.Sink.written c.args.kept.now) (g.K.Sink.written l.kept) c.args.viewer.now l.viewer
          c.args.updates l._turn l.left l.invariant.order l.invariant.viewed.going
          c.read.new.self (g.K.Sink.failed c.args.kept.now) (g.K.Sink.failed l.kept) (inl step);
      told = tt;
      viewed = tt;
      none_failed = tt;
      stopped = subst (λ (o : Option (List ℕ)). HasMissed (g.W.Wire.known c.args.wire.now).unread
          (g.W.Wire.known c.read.new.self).unread (g.W.Wire.known c.args.wire.now).written o
          (g.K.Sink.written c.args.kept.now) (g.K.Sink.written l.kept) c.args.viewer.now
          c.args.updates l.viewer) (sym told.0.0)
          (viewing_misses _ _ _ _ _ _ _ c.args.viewer.now l._turn c.args.updates l.left l.viewer
          l.invariant.viewed told.1 told.3);
      failed = λ f is.
          let was = l.invariant.failed f is in
          (was.1, inr (none_then _ _ _ was.2 told.1, inr refl));
      same_reference = l.invariant.same_reference;
      same_references = told.0.2 ∙ l.invariant.none_failed.2;
      heard = over_stops g.A.Watcher.steps (λ (n : ℕ). c.args.updates ≡ n + l.left)
          (EndsViewing c.args.updates (Err Truncated) l.viewer) _ _ _
          c.args.viewer.now c.args.watcher.now l.viewer l.watcher l.invariant.heard told.1
          (λ n was. (fewer_than c.args.updates n l.left was l.invariant.viewed.going, refl, refl));
    }

-- the last update ended
pub returns-then-fewer-eq0 : goal.returns-then-fewer-eq0
returns-then-fewer-eq0 g c =
    let l = c.loop-turn in
    let size : length c.read.new.buf ≡ 32768 = search rules in
    let some : 0 < c.in-Ok.count = search rules in
    let none : c.in_ok-fewer.fewer ≡ 0 = search rules in
    let over : LookOver g.W.Wire.steps l.wire (g.K.Sink.written l.kept) l.viewer l.left 0
    c.look.new.wire (g.K.Sink.written c.look.new.kept) c.look.new.viewer = record {
      bytes = take c.in-Ok.count c.read.new.buf;
      some = some_taken c.in-Ok.count c.read.new.buf some (search rules);
      few = few_taken c.in-Ok.count c.read.new.buf (search rules) size;
      came = c.read.new.self;
      read = c.in-Ok.ensures.stepped.0 some;
      looked = subst (λ (n : ℕ). HasLooked (by_steps g.W.Wire.steps) l.viewer
          (take c.in-Ok.count c.read.new.buf) l.left n c.read.new.self c.look.new.wire
          (g.K.Sink.written l.kept) (g.K.Sink.written c.look.new.kept) c.look.new.viewer) none
          c.in_ok-fewer.ensures.looked;
    } in
    let look = look_known g.W.Wire.steps g.W.Wire.known g.met.W.Wire.tells l.wire
    (g.K.Sink.written l.kept) l.viewer l.left 0 c.look.new.wire
    (g.K.Sink.written c.look.new.kept) c.look.new.viewer over in
    let all = none_failed_then (g.W.Wire.known c.args.wire.now) (g.W.Wire.known l.wire)
    (g.W.Wire.known c.look.new.wire) l.invariant.none_failed look.0 in
    record {
      in_order = (
        l._turn + 1,
        NextLook l._turn l.left 0 l.wire c.look.new.wire (g.K.Sink.written l.kept)
            (g.K.Sink.written c.look.new.kept) l.viewer c.look.new.viewer l.invariant.order
            l.invariant.viewed.going over,
      );
      stopped_in_order = tt;
      told = refl;
      viewed = viewing_ends _ _ _ _ _ _ _ _ _ c.args.viewer.now l._turn c.args.updates l.left
          l.viewer (take c.in-Ok.count c.read.new.buf) c.look.new.viewer l.invariant.viewed
          look.1 look.2;
      none_failed = (
        all.0,
        all.1,
        c.in_ok-fewer.ensures.none_failed.1 ∙ l.invariant.none_unkept,
      );
      stopped = tt;
      failed = λ f is.
          let again = c.in_ok-fewer.ensures.failed over.some f
          (ap (λ (v : Viewer). fault_of v) (l.invariant.failed f is).1 ∙ is) in
          absurd (no_answer c.in_ok-fewer.fewer (ViewerEnded f) again.0);
      same_reference = c.look.ensures.same_reference ∙ l.invariant.same_reference;
      same_references = all.2;
      heard = over_ends g.A.Watcher.steps (λ (n : ℕ). c.args.updates ≡ n + l.left)
          (EndsLooking l.left (Ok c.in_ok-fewer.fewer) c.look.new.viewer)
          (EndsViewing c.args.updates (Ok c.args.updates) c.look.new.viewer) _ _ _ c.args.viewer.now
          c.args.watcher.now l.viewer l.watcher
          (take c.in-Ok.count c.read.new.buf) c.look.new.watcher l.invariant.heard look.1
          c.in_ok-fewer.ensures.heard
          (λ m n later last was ends. (omega (arith, was, ends.0, none), ends.1));
    }

-- it stopped within a read
pub returns-in_err-fewer : goal.returns-in_err-fewer
returns-in_err-fewer g c =
    let p = err_from_is_err_and c.from_residual.result c.from_residual.ensures.1 in
    rw (p.1, p.2) (let l = c.loop-turn in
    let old = g.W.Wire.known c.args.wire.now in
    let mid = g.W.Wire.known l.wire in
    let new = g.W.Wire.known c.look.new.wire in
    let none = l.invariant.none_failed in
    let size : length c.read.new.buf ≡ 32768 = search rules in
    let some : 0 < c.in-Ok.count = search rules in
    let step = c.in-Ok.ensures.stepped.0 some in
    let cut = cut_known g.W.Wire.steps g.W.Wire.known g.met.W.Wire.tells l.wire c.read.new.self
    c.look.new.wire l.viewer (take c.in-Ok.count c.read.new.buf) (g.K.Sink.written l.kept)
    (g.K.Sink.written c.look.new.kept) (g.K.Sink.failed l.kept)
    (new.failed_writes + g.K.Sink.failed c.look.new.kept) c.in_err-fewer.field-0.0 c.look.new.viewer step
    c.in_err-fewer.ensures.stopped in
    record {
      in_order = tt;
      stopped_in_order = view_cut g.W.Wire.steps g.W.Wire.known c.args.wire.now l.wire
          (g.K.Sink.written c.args.kept.now) (g.K.Sink.written l.kept) c.args.viewer.now l.viewer
          c.args.updates l._turn l.left l.invariant.order l.invariant.viewed.going
          c.read.new.self c.look.new.wire (take c.in-Ok.count c.read.new.buf) c.in_err-fewer.field-0.0
          (g.K.Sink.written c.look.new.kept) (g.K.Sink.failed c.args.kept.now)
          (g.K.Sink.failed l.kept) (g.K.Sink.failed c.look.new.kept) c.look.new.viewer step
          (few_taken c.in-Ok.count c.read.new.buf (search rules) size) l.invariant.none_unkept
          c.in_err-fewer.ensures.stopped;
      told = tt;
      viewed = tt;
      none_failed = tt;
      stopped = looking_fails old.unread mid.unread new.unread old.written mid.written new.written
          (g.K.Sink.written c.args.kept.now) (g.K.Sink.written l.kept)
          (g.K.Sink.written c.look.new.kept) c.args.viewer.now l._turn c.args.updates l.left
          l.viewer (take c.in-Ok.count c.read.new.buf)
          (mid.failed_writes + g.K.Sink.failed l.kept)
          (new.failed_writes + g.K.Sink.failed c.look.new.kept)
          (old.failed_reads + old.failed_writes + g.K.Sink.failed c.args.kept.now)
          (new.failed_reads + new.failed_writes + g.K.Sink.failed c.look.new.kept)
          c.in_err-fewer.field-0.0 c.look.new.viewer l.invariant.viewed cut.2
          (λ same. omega (arith, same, cut.0, none.0, none.1, l.invariant.none_unkept))
          (λ one. omega (arith, one, cut.0, none.0, none.1, l.invariant.none_unkept)) cut.3;
      failed = λ f is.
          let was = l.invariant.failed f is in
          let again = c.in_err-fewer.ensures.failed
          (some_taken c.in-Ok.count c.read.new.buf some (search rules)) f
          (ap (λ (v : Viewer). fault_of v) was.1 ∙ is) in
          (again.1 ∙ was.1, inl (err_as (ViewerEnded f) c.in_err-fewer.field-0.0 again.0));
      same_reference = c.look.ensures.same_reference ∙ l.invariant.same_reference;
      same_references = cut.1 ∙ none.2;
      heard = over_ends g.A.Watcher.steps (λ (n : ℕ). c.args.updates ≡ n + l.left)
          (EndsLooking l.left (Err c.in_err-fewer.field-0.0) c.look.new.viewer)
          (EndsViewing c.args.updates (Err c.in_err-fewer.field-0.0) c.look.new.viewer) old.unread mid.unread
          new.unread c.args.viewer.now c.args.watcher.now l.viewer l.watcher
          (take c.in-Ok.count c.read.new.buf) c.look.new.watcher l.invariant.heard cut.2
          c.in_err-fewer.ensures.heard
          (λ m n later last was ends. then_viewed l.left c.args.updates n (m + n) later last
          c.in_err-fewer.field-0.0 c.look.new.viewer ends);
    })

pub loop-turn-preserved : goal.loop-turn-preserved
loop-turn-preserved g c =
    let l = c.loop-turn in
    let size : length c.read.new.buf ≡ 32768 = search rules in
    let some : 0 < c.in-Ok.count = search rules in
    let going : 0 < c.in_ok-fewer.fewer = search rules in
    let over : LookOver g.W.Wire.steps l.wire (g.K.Sink.written l.kept) l.viewer l.left
    c.in_ok-fewer.fewer c.look.new.wire (g.K.Sink.written c.look.new.kept) c.look.new.viewer =
    record {
      bytes = take c.in-Ok.count c.read.new.buf;
      some = some_taken c.in-Ok.count c.read.new.buf some (search rules);
      few = few_taken c.in-Ok.count c.read.new.buf (search rules) size;
      came = c.read.new.self;
      read = c.in-Ok.ensures.stepped.0 some;
      looked = c.in_ok-fewer.ensures.looked;
    } in
    let look = look_known g.W.Wire.steps g.W.Wire.known g.met.W.Wire.tells l.wire
    (g.K.Sink.written l.kept) l.viewer l.left c.in_ok-fewer.fewer c.look.new.wire
    (g.K.Sink.written c.look.new.kept) c.look.new.viewer over in
    record {
      order = NextLook l._turn l.left c.in_ok-fewer.fewer l.wire c.look.new.wire
          (g.K.Sink.written l.kept) (g.K.Sink.written c.look.new.kept) l.viewer
          c.look.new.viewer l.invariant.order l.invariant.viewed.going over;
      viewed = viewing_more _ _ _ _ _ _ _ _ _ c.args.viewer.now l._turn c.args.updates l.left
          c.in_ok-fewer.fewer l.viewer (take c.in-Ok.count c.read.new.buf) c.look.new.viewer
          l.invariant.viewed look.1 over.some look.2 going;
      none_failed = none_failed_then (g.W.Wire.known c.args.wire.now) (g.W.Wire.known l.wire)
          (g.W.Wire.known c.look.new.wire) l.invariant.none_failed look.0;
      none_unkept = c.in_ok-fewer.ensures.none_failed.1 ∙ l.invariant.none_unkept;
      same_reference = c.look.ensures.same_reference ∙ l.invariant.same_reference;
      size = size;
      failed = λ f is.
          let again = c.in_ok-fewer.ensures.failed over.some f
          (ap (λ (v : Viewer). fault_of v) (l.invariant.failed f is).1 ∙ is) in
          absurd (no_answer c.in_ok-fewer.fewer (ViewerEnded f) again.0);
      heard = over_more g.A.Watcher.steps (λ (n : ℕ). c.args.updates ≡ n + l.left)
          (λ (n : ℕ). c.args.updates ≡ n + c.in_ok-fewer.fewer)
          (EndsLooking l.left (Ok c.in_ok-fewer.fewer) c.look.new.viewer) _ _ _ c.args.viewer.now
          c.args.watcher.now l.viewer l.watcher
          (take c.in-Ok.count c.read.new.buf) c.look.new.viewer c.look.new.watcher
          l.invariant.heard look.1 c.in_ok-fewer.ensures.heard
          (λ m n later last was ends. (
            more_counted c.args.updates m l.left n c.in_ok-fewer.fewer was ends.0,
            ends.1,
            ends.2 going,
          ));
    }

pub returns : goal.returns
returns g c =
    let l = c.loop-turn in
    let old = g.W.Wire.known c.args.wire.now in
    let now = g.W.Wire.known l.wire in
    let out : 2 ^ 64 - 1 ≤ l._turn = search rules in
    record {
      in_order = tt;
      stopped_in_order = view_ends g.W.Wire.steps g.W.Wire.known c.args.wire.now l.wire
          (g.K.Sink.written c.args.kept.now) (g.K.Sink.written l.kept) c.args.viewer.now l.viewer
          c.args.updates l._turn l.left l.invariant.order l.invariant.viewed.going
          l.wire (g.K.Sink.failed c.args.kept.now) (g.K.Sink.failed l.kept) (inr (out, refl));
      told = tt;
      viewed = tt;
      none_failed = tt;
      stopped = viewing_out old.unread now.unread old.written now.written
          (g.K.Sink.written c.args.kept.now) (g.K.Sink.written l.kept) c.args.viewer.now
          l._turn c.args.updates l.left l.viewer l.invariant.viewed out;
      failed = λ f is. absurd (some_turns l._turn (l.invariant.failed f is).0 out);
      same_reference = l.invariant.same_reference;
      same_references = l.invariant.none_failed.2;
      heard = over_stops g.A.Watcher.steps (λ (n : ℕ). c.args.updates ≡ n + l.left)
          (EndsViewing c.args.updates (Err Truncated) l.viewer) old.unread now.unread now.unread
          c.args.viewer.now c.args.watcher.now l.viewer l.watcher l.invariant.heard
          (Consumes-nil now.unread)
          (λ n was. (fewer_than c.args.updates n l.left was l.invariant.viewed.going, refl, refl));
    }
