use Rattle.std.proofs.Common.{refl, ◌∙◌, sym}
use Rattle.rfb_server.proofs.TakenOverLemmas.{taken_after}
use Rattle.rfb_server.proofs.UnclaimedLemmas.{follows_unclaimed}
use Rattle.rfb_server.proofs.session.Session.take_shown.Goals as goal

pub follow_hints-quiet-requires-clause-about : goal.follow_hints-quiet-requires-clause-about
follow_hints-quiet-requires-clause-about c =
    follows_unclaimed c.args.screen.now c.args.self.now _ refl refl refl refl refl refl c.requires.about

pub follow_hints-quiet-requires-clause-claimed : goal.follow_hints-quiet-requires-clause-claimed
follow_hints-quiet-requires-clause-claimed c = c.requires.about.claimed

pub take_others-requires-clause-asked : goal.take_others-requires-clause-asked
take_others-requires-clause-asked c = λ x y p q.
    let is = c.requires.about.alike in
    let now = c.follow_hints-quiet.ensures.about.alike in
    rw (c.follow_hints-quiet.ensures.kept.area)
    (c.requires.asked x y (rw (← is.columns, now.columns) p) (rw (← is.rows, now.rows) q))

pub take_others-requires-clause-columns : goal.take_others-requires-clause-columns
take_others-requires-clause-columns c =
    c.requires.columns ∙ (sym c.requires.about.alike.columns ∙ c.follow_hints-quiet.ensures.about.alike.columns)

pub take_others-requires-clause-rows : goal.take_others-requires-clause-rows
take_others-requires-clause-rows c =
    c.requires.rows ∙ (sym c.requires.about.alike.rows ∙ c.follow_hints-quiet.ensures.about.alike.rows)

pub take_others-requires-clause-shown : goal.take_others-requires-clause-shown
take_others-requires-clause-shown c = rw (c.follow_hints-quiet.ensures.kept.setting.format) c.requires.shown

pub returns-clause-taken : goal.returns-clause-taken
returns-clause-taken c =
    let kept = c.follow_hints-quiet.ensures.kept in
    let is = c.requires.about.alike in
    let now = c.follow_hints-quiet.ensures.about.alike in
    taken_after c.args.screen.now c.args.self.now c.follow_hints-quiet.new.self c.take_others.new.self
    (record {
      hello = kept.setting.hello;
      progress = kept.setting.progress;
      text_limit = kept.setting.text_limit;
      format = kept.setting.format;
      encodings = kept.setting.encodings;
    })
    (sym now.columns ∙ is.columns) (sym now.rows ∙ is.rows) kept.area c.take_others.ensures.taken
