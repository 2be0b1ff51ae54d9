use Rattle.std.proofs.Common.{take}
use Rattle.std.proofs.lemmas.Result.{err_from_is_err_and}
use Rattle.rfb_viewer.specs.Told.{seen}
use Rattle.rfb_session.specs.ViewerActs.{ends_told}
use Rattle.rfb_session.proofs.WatcherLemmas.{hears_once}
use Rattle.rfb_session.proofs.engine.playing.feeding.feed_once.Goals as goal

pub returns-clause-counted : goal.returns-clause-counted
returns-clause-counted g c = record {
  event = seen c.in_ok-fed.fed.event;
  fed = c.in_ok-fed.ensures.fed;
  told_is = c.count.ensures;
}

pub returns-clause-heard : goal.returns-clause-heard
returns-clause-heard g c = (
  ends_told (seen c.in_ok-fed.fed.event),
  c.count.ensures,
  hears_once g.A.Watcher.steps c.args.viewer.now c.feed.new.self c.args.watcher.now c.tell.new.watcher
      (take c.in_ok-fed.fed.used c.args.bytes.now) (seen c.in_ok-fed.fed.event) c.in_ok-fed.ensures.fed c.tell.ensures,
)

pub returns-in_err-fed-clause-ends : goal.returns-in_err-fed-clause-ends
returns-in_err-fed-clause-ends g c =
    let p = err_from_is_err_and c.from_residual.result c.from_residual.ensures.1 in
    rw (p.1, p.2) (assumption c.in_err-fed.ensures)
