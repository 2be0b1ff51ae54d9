use Rattle.std.proofs.Common.{◌≡◌, ◌∙◌, ℕ, List, ◌++◌, ap, take, length, true, false, sym, subst}
use Rattle.std.proofs.Common.{rules}
use Rattle.std.proofs.lemmas.Result.{err_from_is_err_and}
use Rattle.rfb_wire.specs.declared.encoding.Encoding.{Encoding}
use Rattle.rfb_codec.specs.declared.painter.rectangle.Rectangle.{Rectangle}
use Rattle.rfb_codec.specs.declared.painter.stage.Stage.{Stage}
use Rattle.rfb_codec.specs.RectData.{source_in}
use Rattle.rfb_codec.specs.Stage.{is_ended}
use Rattle.rfb_codec.specs.decoder.Step.{IsPaintable}
use Rattle.rfb_codec.specs.UnderWay.{UnderWay, Paints, CopiesFrom, Waits, Refuses, ShowsWith}
use Rattle.rfb_codec.proofs.FeedLemmas.{feed_paints, feed_waits, feed_refuses, feed_shows}
use Rattle.rfb_codec.proofs.VerdictLemmas.{ended_source}
use Rattle.rfb_codec.proofs.painter.Painter.take_pieces.Goals as goal

-- what a painter of that rectangle has under way
abbrev at_stage : Rectangle → Stage → List ℕ → UnderWay
at_stage r stage pending = record { rect = r.rect; form = r.format; stage = stage; pending = pending }

pub returns-in_err-step-clause-fault : goal.returns-in_err-step-clause-fault
returns-in_err-step-clause-fault c =
    let old = c.self.inside in
    let flaw = c.in_err-step.field-0.0 in
    let refuses = feed_refuses old.rectangle.format old.rectangle.rect old.stage old.pending.items
    c.args.picture.now c.feed.new.picture c.args.bytes.now flaw c.in_err-step.ensures.stops in
    let here = subst (λ (p : UnderWay). Refuses p c.args.picture.now c.args.bytes.now c.feed.new.picture
    flaw.fault) c.self.view_is refuses in
    let p = err_from_is_err_and c.from_residual.result c.from_residual.ensures.1 in
    rw (p.1, p.2) here

pub returns-in_err-step-clause-with : goal.returns-in_err-step-clause-with
returns-in_err-step-clause-with c =
    let old = c.self.inside in
    let flaw = c.in_err-step.field-0.0 in
    let breaks = c.in_err-step.ensures in
    let shows = feed_shows old.rectangle.format old.rectangle.rect old.stage old.pending.items c.args.picture.now
    c.feed.new.picture c.args.bytes.now flaw breaks.some breaks.within breaks.stops in
    let here = subst (λ (p : UnderWay). ShowsWith p c.args.picture.now c.args.bytes.now flaw) c.self.view_is shows in
    let p = err_from_is_err_and c.from_residual.result c.from_residual.ensures.1 in
    rw (p.1, p.2) here

pub returns-in_err-step-clause-begun : goal.returns-in_err-step-clause-begun
returns-in_err-step-clause-begun c =
    let p = err_from_is_err_and c.from_residual.result c.from_residual.ensures.1 in
    rw (p.1, p.2) c.in_err-step.ensures.some

pub returns-in_err-step-clause-within : goal.returns-in_err-step-clause-within
returns-in_err-step-clause-within c =
    let p = err_from_is_err_and c.from_residual.result c.from_residual.ensures.1 in
    rw (p.1, p.2) c.in_err-step.ensures.within

pub returns-clause-done : goal.returns-clause-done
returns-clause-done c = λ ended.
    let old = c.self.inside in
    let step = c.in_ok-step.step in
    let ended' : is_ended old.rectangle.rect step.stage ≡ true = sym c.is_ended.ensures ∙ ended in
    let place : IsPaintable c.args.picture.now old.rectangle.rect = search rules in
    let paints = feed_paints old.rectangle.format old.rectangle.rect old.stage step.stage old.pending.items
    c.feed.new.pending.items c.args.picture.now c.feed.new.picture (take step.used c.args.bytes.now) place.whole
    ended' c.in_ok-step.ensures.reaches.same c.in_ok-step.ensures.reaches.goes_on in
    let next = at_stage old.rectangle step.stage c.feed.new.pending.items in
    subst (λ (p : UnderWay). Paints p c.args.picture.now (take step.used c.args.bytes.now) next
    c.feed.new.picture) c.self.view_is paints

pub returns-clause-copied : goal.returns-clause-copied
returns-clause-copied c = λ ended.
    let old = c.self.inside in
    let step = c.in_ok-step.step in
    let ended' : is_ended old.rectangle.rect step.stage ≡ true = sym c.is_ended.ensures ∙ ended in
    let reaches = c.in_ok-step.ensures.reaches in
    let next = at_stage old.rectangle step.stage c.feed.new.pending.items in
    subst (λ (p : UnderWay). CopiesFrom p c.args.picture.now (take step.used c.args.bytes.now) next) c.self.view_is
    (λ before body stands. ended_source old.rectangle.format old.rectangle.rect step.stage c.feed.new.pending.items
    c.feed.new.picture before
    (body ++ take step.used c.args.bytes.now) ended' (reaches.goes_on before body stands)
    ∙ ap (λ (e : Encoding). source_in e (body ++ take step.used c.args.bytes.now)) reaches.same)

pub returns-clause-more : goal.returns-clause-more
returns-clause-more c = λ ended.
    let old = c.self.inside in
    let step = c.in_ok-step.step in
    let ended' : is_ended old.rectangle.rect step.stage ≡ false = sym c.is_ended.ensures ∙ ended in
    let all : step.used ≡ length c.args.bytes.now = c.in_ok-step.ensures.all ended' in
    let waits = feed_waits old.rectangle.format old.rectangle.rect old.stage step.stage old.pending.items
    c.feed.new.pending.items c.args.picture.now c.feed.new.picture step.used c.args.bytes.now all ended'
    c.in_ok-step.ensures.reaches.sound c.in_ok-step.ensures.reaches.same c.in_ok-step.ensures.reaches.goes_on in
    let next = at_stage old.rectangle step.stage c.feed.new.pending.items in
    subst (λ (p : UnderWay). Waits p c.args.picture.now c.args.bytes.now next c.feed.new.picture) c.self.view_is waits
