use Rattle.std.proofs.Common.{◌∙◌, Some, refl, ap, sym, subst}
use Rattle.rfb_picture.specs.declared.rect.Rect.{Rect}
use Rattle.rfb_session.specs.declared.drive.driver.Pace.{Pace}
use Rattle.rfb_viewer.specs.Model.{picture_of}
use Rattle.rfb_viewer.specs.declared.viewer.Viewer.{Viewer}
use Rattle.rfb_session.specs.drive.driver.Driver.{Changed, FinishesIf, NoPicture, Unchanged}
use Rattle.rfb_session.specs.drive.driver.Tasks.{HearsChange}
use Rattle.rfb_session.proofs.drive.driver.Driver.change.Goals as goal

pub returns-in_default : goal.returns-in_default
returns-in_default g c = rw c.in_default.is (Unchanged refl)

pub returns-in_default-picture : goal.returns-in_default-picture
returns-in_default-picture g c =
    let told = c.tell_changed.new.self in
    rw c.in-Some.is (NoPicture (ap (λ (v : Viewer). picture_of v) (sym c.tell_changed.ensures.viewer)
    ∙ sym c.in_default-picture.ensures.value) told c.tell_changed.ensures.tells
    (ap (λ (r : Rect). record told { pace = record told.pace { changed = Some r } }) c.joined.ensures))

pub returns : goal.returns
returns g c =
    let told = c.tell_changed.new.self in
    let screen = c.in-Some-picture.picture.now in
    let task = c.hear_change-is_done.new.self in
    let done = c.hear_change-is_done.result in
    rw c.in-Some.is (Changed told c.tell_changed.ensures.tells task done screen
    (ap (λ (v : Viewer). picture_of v) (sym c.tell_changed.ensures.viewer) ∙ sym c.in-Some-picture.ensures.value)
    (subst (λ (p : Pace). HearsChange p.task c.in-Some.rect screen done task) c.tell_changed.ensures.pace
    c.hear_change-is_done.ensures)
    (subst (λ (r : Rect). FinishesIf done
    (record told { pace = record told.pace { changed = Some r; task = task } }) c.finish_if.new.self) c.joined.ensures
    c.finish_if.ensures))
