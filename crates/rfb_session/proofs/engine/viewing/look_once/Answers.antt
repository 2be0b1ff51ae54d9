use Rattle.std.proofs.Common.{[], refl, take, arith}
use Rattle.std.proofs.KnownBytes.{Appends-nil}
use Rattle.std.proofs.lemmas.Result.{err_from_is_err_and}
use Rattle.rfb_viewer.specs.Told.{seen}
use Rattle.rfb_session.specs.Watcher.{HearsAll, NoCall}
use Rattle.rfb_session.specs.ViewerActs.{EndsBy, ends_told}
use Rattle.rfb_session.specs.Wire.{Nothing, by_steps}
use Rattle.rfb_session.proofs.ViewLemmas.{turn_none, call_looks, call_unanswered, call_unkept, kept_last}
use Rattle.rfb_session.proofs.WatcherLemmas.{hears_asked, hears_first, hears_once}
use Rattle.rfb_session.proofs.WireLemmas.{steps_join}
use Rattle.rfb_session.proofs.engine.viewing.look_once.Given.{Over}
use Rattle.rfb_session.proofs.engine.viewing.look_once.Goals.{After-answer, After-tell, In-Err}
use Rattle.rfb_session.proofs.engine.viewing.look_once.Goals as goal

-- what the watcher heard of the call
called : (g : Over) (c : After-tell g) → HearsAll g.A.Watcher.steps c.args.viewer.now c.args.watcher.now
    (take c.in-Ok.fed.used c.args.bytes.now) (ends_told (seen c.in-Ok.fed.event)) c.feed.new.self c.tell.new.watcher
called g c =
    hears_once g.A.Watcher.steps c.args.viewer.now c.feed.new.self c.args.watcher.now c.tell.new.watcher
    (take c.in-Ok.fed.used c.args.bytes.now) (seen c.in-Ok.fed.event) c.in-Ok.ensures.fed c.tell.ensures

-- it is so after the request too
asked : (g : Over) (c : After-answer g) → HearsAll g.A.Watcher.steps c.args.viewer.now c.args.watcher.now
    (take c.in-Ok.fed.used c.args.bytes.now) (ends_told (seen c.in-Ok.fed.event)) c.answer.new.viewer
    c.tell.new.watcher
asked g c =
    hears_asked g.A.Watcher.steps c.args.viewer.now c.feed.new.self c.answer.new.viewer c.args.watcher.now
    c.tell.new.watcher (take c.in-Ok.fed.used c.args.bytes.now) (ends_told (seen c.in-Ok.fed.event))
    (hears_once g.A.Watcher.steps c.args.viewer.now c.feed.new.self c.args.watcher.now c.tell.new.watcher
    (take c.in-Ok.fed.used c.args.bytes.now) (seen c.in-Ok.fed.event) c.in-Ok.ensures.fed c.tell.ensures)
    c.answer.ensures.asked

-- how the viewer ended
ended : (g : Over) (c : In-Err g) → EndsBy c.in-Err.fault c.args.viewer.now c.args.bytes.now c.feed.new.self
ended g c = record {
  fails = c.in-Err.ensures.fails;
  refused = c.in-Err.ensures.fault;
  starved = c.in-Err.ensures.memory;
  picture = c.in-Err.ensures.picture;
  reason = c.in-Err.ensures.reason;
}

pub returns-in_ok-fewer-in-Ok-clause-looked : goal.returns-in_ok-fewer-in-Ok-clause-looked
returns-in_ok-fewer-in-Ok-clause-looked g c =
    call_looks (by_steps g.W.Wire.steps) (steps_join g.W.Wire.steps) c.args.viewer.now
    c.feed.new.self c.answer.new.viewer (take c.in-Ok.fed.used c.args.bytes.now)
    (seen c.in-Ok.fed.event) c.args.left c.in_ok-fewer-in-Ok.fewer c.args.wire.now c.answer.new.wire
    (g.K.Sink.written c.args.kept.now) (g.K.Sink.written c.send.new.sink) c.in-Ok.ensures.fed
    c.in_ok-send-in-Ok.ensures.done c.in_ok-fewer-in-Ok.ensures.answered

pub returns-in_err-fewer-in-Ok-clause-stopped : goal.returns-in_err-fewer-in-Ok-clause-stopped
returns-in_err-fewer-in-Ok-clause-stopped g c =
    let p = err_from_is_err_and c.from_residual-in_err-fewer-in-Ok.result
    c.from_residual-in_err-fewer-in-Ok.ensures.1 in
    rw (p.1, p.2) ((
      omega (arith, c.in_err-fewer-in-Ok.ensures.one_failed, c.in_ok-send-in-Ok.ensures.none_failed),
      call_unanswered (by_steps g.W.Wire.steps) (steps_join g.W.Wire.steps) c.args.viewer.now
          c.feed.new.self c.answer.new.viewer c.args.bytes.now c.in-Ok.fed.used
          (seen c.in-Ok.fed.event) c.args.wire.now c.answer.new.wire
          (g.K.Sink.written c.args.kept.now) (g.K.Sink.written c.send.new.sink) c.in-Ok.ensures.fed
          c.in_ok-send-in-Ok.ensures.done c.in_err-fewer-in-Ok.ensures.stopped,
    ))

pub returns-in_err-send-in-Ok-clause-stopped : goal.returns-in_err-send-in-Ok-clause-stopped
returns-in_err-send-in-Ok-clause-stopped g c =
    let p = err_from_is_err_and c.from_residual.result c.from_residual.ensures.1 in
    rw (p.1, p.2) ((
      omega (arith, c.in_err-send-in-Ok.ensures.one_failed),
      call_unkept (by_steps g.W.Wire.steps) (steps_join g.W.Wire.steps) c.args.viewer.now
          c.feed.new.self c.args.bytes.now c.in-Ok.fed.used (seen c.in-Ok.fed.event)
          c.args.wire.now (g.K.Sink.written c.args.kept.now) (g.K.Sink.written c.send.new.sink)
          c.in-Ok.ensures.fed c.in_err-send-in-Ok.ensures.stopped,
    ))

pub returns-in-Err-clause-stopped : goal.returns-in-Err-clause-stopped
returns-in-Err-clause-stopped g c = record {
  fed = [];
  slice = c.args.bytes.now;
  sent = [];
  updates = 0;
  last = c.args.viewer.now;
  read = refl;
  runs = turn_none c.args.viewer.now;
  wrote = Nothing;
  kept = (
    g.K.Sink.written c.args.kept.now,
    Appends-nil (g.K.Sink.written c.args.kept.now),
    kept_last c.send-in-Err.result (g.K.Sink.written c.args.kept.now)
        (g.K.Sink.written c.send-in-Err.new.sink) c.args.bytes.now
        (g.W.Wire.known c.args.wire.now).failed_writes (g.K.Sink.failed c.args.kept.now)
        (g.K.Sink.failed c.send-in-Err.new.sink) c.send-in-Err.ensures.done
        c.send-in-Err.ensures.stopped c.send-in-Err.ensures.none_failed
        c.send-in-Err.ensures.one_failed,
  );
  ends = ended g (goal.at.returns-in-Err-clause-stopped g c).In-Err;
}

pub returns-in_ok-fewer-in-Ok-clause-heard : goal.returns-in_ok-fewer-in-Ok-clause-heard
returns-in_ok-fewer-in-Ok-clause-heard g c = (
  ends_told (seen c.in-Ok.fed.event),
  c.in_ok-fewer-in-Ok.ensures.answered.counted,
  asked g (goal.at.returns-in_ok-fewer-in-Ok-clause-heard g c).After-answer,
)

pub returns-in_err-fewer-in-Ok-clause-heard_so_far : goal.returns-in_err-fewer-in-Ok-clause-heard_so_far
returns-in_err-fewer-in-Ok-clause-heard_so_far g c =
    let p = err_from_is_err_and c.from_residual-in_err-fewer-in-Ok.result
    c.from_residual-in_err-fewer-in-Ok.ensures.1 in
    rw (p.1, p.2) (hears_first g.A.Watcher.steps _ c.args.viewer.now c.args.watcher.now c.args.bytes.now
    c.in-Ok.fed.used (ends_told (seen c.in-Ok.fed.event)) c.answer.new.viewer c.tell.new.watcher
    (asked g (goal.at.returns-in_err-fewer-in-Ok-clause-heard_so_far g c).After-answer) refl)

pub returns-in_err-send-in-Ok-clause-heard_so_far : goal.returns-in_err-send-in-Ok-clause-heard_so_far
returns-in_err-send-in-Ok-clause-heard_so_far g c =
    let p = err_from_is_err_and c.from_residual.result c.from_residual.ensures.1 in
    rw (p.1, p.2) (hears_first g.A.Watcher.steps _ c.args.viewer.now c.args.watcher.now c.args.bytes.now
    c.in-Ok.fed.used (ends_told (seen c.in-Ok.fed.event)) c.feed.new.self c.tell.new.watcher
    (called g (goal.at.returns-in_err-send-in-Ok-clause-heard_so_far g c).After-tell) refl)

pub returns-in-Err-clause-heard_so_far : goal.returns-in-Err-clause-heard_so_far
returns-in-Err-clause-heard_so_far g c = record {
  fed = [];
  later = c.args.bytes.now;
  updates = 0;
  last = c.args.viewer.now;
  bytes_are = refl;
  hears = NoCall;
  ends = ended g (goal.at.returns-in-Err-clause-heard_so_far g c).In-Err;
}
