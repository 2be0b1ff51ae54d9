use Rattle.std.proofs.Common.{◌≡◌, ◌∙◌, ℕ, List, true, false, length, take, refl, sym, subst, ap, arith}
use Rattle.std.proofs.lemmas.List.{take_all}
use Rattle.rfb_picture.specs.declared.rect.Rect.{Rect}
use Rattle.rfb_codec.specs.Stage.{copied_from}
use Rattle.rfb_codec.specs.UnderWay.{Waits}
use Rattle.rfb_viewer.specs.declared.fault.ViewerFault.{ViewerFault}
use Rattle.rfb_viewer.specs.declared.viewer.progress.Progress.TheVariants.{Failed}
use Rattle.rfb_viewer.specs.Damage.{joined, under_way}
use Rattle.rfb_viewer.specs.Moved.{moved_if}
use Rattle.rfb_viewer.proofs.StepLemmas.{made_so}
use Rattle.rfb_viewer.proofs.RectLemmas.{paint_more, paint_done, paint_fault, painting_same, not_false, not_true}
use Rattle.rfb_viewer.proofs.RectLemmas.{past_going}
use Rattle.rfb_viewer.proofs.FailLemmas.{paint_ends}
use Rattle.rfb_viewer.proofs.DamageHeadLemmas.{past_none}
use Rattle.rfb_viewer.proofs.PlaceLemmas.{data_placed}
use Rattle.rfb_viewer.proofs.TakingLemmas.{data_left, going_damages, ended_damages, past_keeps, paint_fails}
use Rattle.rfb_viewer.proofs.MovedLemmas.{under_takes, paint_moves}
use Rattle.rfb_viewer.proofs.viewer.Viewer.take_data.Goals as goal

pub returns-in-Err : goal.returns-in-Err
returns-in-Err c =
    let old = c.args.self.now in
    let bytes = c.args.bytes.now in
    let more = c.in-Data.more in
    let painter = c.in-Data.painter in
    let picture = c.in-Some.picture in
    let flaw = c.in-Err.flaw in
    let told = c.in-Err.ensures in
    let rect = c.rect.ensures ∙ c.take.ensures.rect in
    let damages = ended_damages old _ bytes more painter c.in-Data.is (ap under_way c.fail.ensures.after)
    (c.join.ensures ∙ ap (joined old.damage) rect) in
    rw (c.fail.ensures.value, c.of_paint.ensures)
    (paint_fails old _ bytes damages refl refl refl refl flaw.used flaw.fault
    (data_placed old more painter picture bytes flaw c.in-Data.is c.in-Some.is told.begun told.within told.with)
    (λ viewing. paint_ends viewing old old more painter picture c.take.new.picture bytes flaw.fault c.in-Data.is
    c.in-Some.is told.fault (paint_fault viewing old old more painter picture c.take.new.picture bytes
    flaw.fault c.in-Data.is c.in-Some.is told.fault))
    refl (c.fail.ensures.after ∙ ap (λ (f : ViewerFault). Failed f) c.of_paint.ensures))

pub returns-then-not-painted : goal.returns-then-not-painted
returns-then-not-painted c =
    let old = c.args.self.now in
    let bytes = c.args.bytes.now in
    let painter = c.in-Data.painter in
    let picture = c.in-Some.picture in
    let used = c.in-Ok.painted.used in
    let more : c.in-Ok.painted.done ≡ false = not_false c.in-Ok.painted.done c.if-not-painted.true in
    let all : used ≡ length bytes = c.in-Ok.ensures.all more in
    let waits : Waits painter picture (take used bytes) c.take.new.self c.take.new.picture =
    subst (λ (ys : List ℕ). Waits painter picture ys c.take.new.self c.take.new.picture) (sym (take_all used bytes
    (omega (arith, all)))) (c.in-Ok.ensures.more more) in
    under_takes old _ bytes used (c.in-Ok.ensures.some (data_left old c.in-Data.more painter picture c.in-Data.is
    c.in-Some.is) c.requires.some)
    c.in-Ok.ensures.used
    (λ viewing.
    paint_more viewing old _ c.in-Data.more painter c.take.new.self picture c.take.new.picture
    (take used bytes) c.in-Data.is c.in-Some.is waits
    (painting_same painter c.take.new.self c.take.ensures.rect c.take.ensures.form c.take.ensures.encoding)
    (made_so refl refl refl refl))
    (going_damages old _ (take used bytes) c.in-Data.more painter c.take.new.self.rect c.in-Data.is refl refl)
    refl refl refl refl refl c.take.new.self.rect refl

pub returns : goal.returns
returns c =
    let old = c.args.self.now in
    let bytes = c.args.bytes.now in
    let more = c.in-Data.more in
    let painter = c.in-Data.painter in
    let picture = c.in-Some.picture in
    let used = c.in-Ok.painted.used in
    let after = c.go_on-ends_update.ensures in
    let done : c.in-Ok.painted.done ≡ true = not_true c.in-Ok.painted.done c.if-not-painted.false in
    let rect = c.rect-2.ensures ∙ c.take.ensures.rect in
    record {
      some = c.in-Ok.ensures.some (data_left old more painter picture c.in-Data.is c.in-Some.is) c.requires.some;
      within = c.in-Ok.ensures.used;
      steps = λ viewing. rw after.told
          (paint_done viewing old _ more painter c.take.new.self picture c.take.new.picture
          (take used bytes) c.in-Data.is c.in-Some.is (c.in-Ok.ensures.done done)
          (made_so refl after.progress after.request refl));
      damage = ended_damages old _ (take used bytes) more painter c.in-Data.is
          (ap under_way after.progress ∙ past_none more) (c.join-2.ensures ∙ ap (joined old.damage) rect);
      moved = paint_moves old _ more painter c.take.new.self picture c.take.new.picture
          (take used bytes) c.in-Data.is c.in-Some.is (c.in-Ok.ensures.done done) (c.in-Ok.ensures.copied done)
          (c.keep_move.ensures ∙ ap (λ (r : Rect). moved_if old.moved.items r
          (copied_from c.take.new.self.stage)) c.take.ensures.rect);
      offered = rw after.told (past_keeps old _ bytes refl more);
      going = rw after.progress (past_going more);
      made = refl;
      taken = refl;
    }
