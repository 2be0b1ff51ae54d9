use Rattle.std.proofs.Common.{◌∙◌, ap, rules}
use Rattle.rfb.specs.Film.{judged}
use Rattle.rfb.proofs.FollowingLemmas.{film_done, film_fails, over_is}
use Rattle.rfb.proofs.viewing.following.film_told.Goals as goal

pub returns-clause-done : goal.returns-clause-done
returns-clause-done g c =
    film_done c.args.film.now _ _ _ _ c.fault.result c.updates.result c.between.result c.shoot-ended.result
    c.args.viewer.now c.shoot-ended.new.viewer c.judge.result
    (c.judge.ensures ∙ ap (judged c.fault.result c.shoot-ended.result) c.is_over-over.ensures)
    (over_is g.W.Write.contents c.args.film.now _ _ c.args.output.now _ c.new-filming.result
    c.shoot-ended.new.filming c.most-2.result c.fault.result c.updates.result c.between.result c.shoot-ended.result
    c.args.viewer.now c.shoot-ended.new.viewer c.new-filming.ensures.output (search rules) c.fault.ensures
    c.updates.ensures c.requires.fresh c.new-filming.ensures.whole c.most-2.ensures.most c.shoot-ended.ensures.shot
    c.shoot-ended.ensures.saw c.shoot-ended.ensures.stopped c.between.ensures.value)

pub returns-clause-stopped : goal.returns-clause-stopped
returns-clause-stopped g c =
    film_fails c.args.film.now _ _ _ _ c.fault.result c.updates.result c.between.result c.shoot-ended.result
    c.args.viewer.now c.shoot-ended.new.viewer c.judge.result
    (c.judge.ensures ∙ ap (judged c.fault.result c.shoot-ended.result) c.is_over-over.ensures)
    (over_is g.W.Write.contents c.args.film.now _ _ c.args.output.now _ c.new-filming.result
    c.shoot-ended.new.filming c.most-2.result c.fault.result c.updates.result c.between.result c.shoot-ended.result
    c.args.viewer.now c.shoot-ended.new.viewer c.new-filming.ensures.output (search rules) c.fault.ensures
    c.updates.ensures c.requires.fresh c.new-filming.ensures.whole c.most-2.ensures.most c.shoot-ended.ensures.shot
    c.shoot-ended.ensures.saw c.shoot-ended.ensures.stopped c.between.ensures.value)
