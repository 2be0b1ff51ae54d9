use Rattle.rfb.proofs.FilmingLemmas.{keeps_name, reads_film}
use Rattle.rfb.proofs.viewing.following.shoot.Goals as goal

pub returns-clause-shot : goal.returns-clause-shot
returns-clause-shot g c =
    let heard = c.watch.ensures.heard in (
      heard.0,
      reads_film g.W.Write.contents c.args.updates c.watch.result _ heard.0 c.args.viewer.now c.watch.new.viewer
          c.args.filming.now c.watch.new.watcher c.requires.untold heard.1,
    )

pub returns-clause-same_reference : goal.returns-clause-same_reference
returns-clause-same_reference g c =
    let heard = c.watch.ensures.heard in
    keeps_name g.W.Write.contents c.args.updates c.watch.result _ heard.0 c.args.viewer.now c.watch.new.viewer
    c.args.filming.now c.watch.new.watcher c.requires.untold heard.1
