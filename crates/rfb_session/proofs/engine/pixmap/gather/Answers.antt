use Rattle.std.proofs.Common.{◌∙◌, List, ℕ, sym, refl, subst, take, arith}
use Rattle.rfb_session.specs.Devices.{AppendsUpTo}
use Rattle.rfb_session.proofs.WrittenLemmas.{none_written, on_err}
use Rattle.rfb_session.proofs.PixmapLemmas.{no_components, gathered_block, gathering_stopped, block_more}
use Rattle.rfb_session.proofs.PixmapLemmas.{room_for_block}
use Rattle.rfb_session.proofs.engine.pixmap.gather.Goals as goal

pub loop-start-init : goal.loop-start-init
loop-start-init g c =
    let before = c.args.waiting.now in
    let old = g.W.Sink.written c.args.sink.now in
    record {
      within = omega arith;
      gathered = subst (λ (l : List ℕ). AppendsUpTo old old l before) (sym (no_components before))
          (none_written old before);
      none_failed = refl;
      same_reference = refl;
    }

pub returns-in_err-make_room-clause-stopped : goal.returns-in_err-make_room-clause-stopped
returns-in_err-make_room-clause-stopped g c =
    on_err c.from_residual.result _ (gathering_stopped _ _ _ c.args.waiting.now c.loop-start.waiting
    c.args.colours.now c.loop-start.start c.loop-start.invariant.gathered c.in_err-make_room.ensures.stopped)

pub append_components-requires : goal.append_components-requires
append_components-requires g c =
    record {
      fits = room_for_block c.args.colours.now c.loop-start.start c.min-end.result c.room.result _
          c.room.ensures c.min-end.ensures;
    }

pub loop-start-preserved : goal.loop-start-preserved
loop-start-preserved g c =
    let l = c.loop-start in
    record {
      within = omega (arith, c.min-end.ensures);
      gathered = gathered_block (g.W.Sink.written c.args.sink.now) (g.W.Sink.written l.sink)
          (g.W.Sink.written c.make_room.new.sink) c.args.waiting.now l.waiting
          c.make_room.new.waiting c.append_components.new.self
          (take l.start c.args.colours.now) _ _ l.invariant.gathered
          c.in_ok-make_room.ensures.done c.append_components.ensures
          (block_more c.args.colours.now l.start _ (omega arith));
      none_failed = c.in_ok-make_room.ensures.none_failed ∙ l.invariant.none_failed;
      same_reference = c.make_room.ensures.same_reference ∙ l.invariant.same_reference;
    }
