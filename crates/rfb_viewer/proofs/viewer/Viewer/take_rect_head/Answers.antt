use Rattle.std.proofs.Common.{◌≡◌, ◌∙◌, ℕ, ◌-◌, length, take, drop, refl, sym, ap, arith}
use Rattle.std.proofs.lemmas.Grind.{common_steps}
use Rattle.std.proofs.lemmas.List.{length-take-le, take_rest}
use Rattle.rfb_wire.specs.declared.encoding.Encoding.{Encoding}
use Rattle.rfb_wire.proofs.stream_laws.FeedLaws.{step_refuses}
use Rattle.rfb_viewer.specs.declared.fault.ViewerFault.{ViewerFault}
use Rattle.rfb_viewer.specs.declared.viewer.progress.Progress.TheVariants.{Data, Failed}
use Rattle.rfb_viewer.specs.Fault.{fault_of_wire}
use Rattle.rfb_viewer.specs.Model.{StandsFor}
use Rattle.rfb_viewer.specs.Told.{seen}
use Rattle.rfb_viewer.specs.Viewer.{viewer}
use Rattle.rfb_viewer.proofs.DamageHeadLemmas.{past_sound, part_damages, bad_damages}
use Rattle.rfb_viewer.proofs.FailLemmas.{rect_head_ends, wire_other}
use Rattle.rfb_viewer.proofs.MovedLemmas.{part_takes}
use Rattle.rfb_viewer.proofs.PlaceLemmas.{bad_placed, head_awaits}
use Rattle.rfb_viewer.proofs.RectLemmas.{rect_part, rect_bad, same_count, painting_same, not_false, not_true}
use Rattle.rfb_viewer.proofs.RectStepLemmas.{begun_by, begun_fails, begun_goes_on, begun_ends}
use Rattle.rfb_viewer.proofs.StepLemmas.{made_so}
use Rattle.rfb_viewer.proofs.TakingLemmas.{wire_fails}
use Rattle.rfb_viewer.proofs.WholeDataLemmas.{raw_begun, raw_fresh, raw_paints}
use Rattle.rfb_viewer.proofs.viewer.Viewer.take_rect_head.Goals as goal

pub returns-in_default-whole : goal.returns-in_default-whole
returns-in_default-whole c =
    let old = c.args.self.now in
    let unit = take c.gather-front.result.0 c.args.bytes.now in
    let head = c.in-RectHead.head in
    let part = c.gather-front.ensures.more c.in_default-whole.is in
    part_takes old _ c.args.bytes.now c.gather-front.result.0 c.gather-front.ensures.used.0
    c.gather-front.ensures.used.1
    (λ viewing.
    rect_part viewing old _ c.in-RectHead.more head c.gather-front.new.part unit c.in-RectHead.is part.0 part.1
    (made_so refl refl refl refl))
    (part_damages old _ c.in-RectHead.more head c.in-RectHead.is c.gather-front.new.part unit part.0 part.1 refl)
    refl refl refl refl refl c.in-RectHead.more head c.gather-front.new.part refl part.0

pub returns-in-Bad : goal.returns-in-Bad
returns-in-Bad c =
    let old = c.args.self.now in
    let bytes = c.args.bytes.now in
    let n = c.gather-front.result.0 in
    let more = c.in-RectHead.more in
    let head = c.in-RectHead.head in
    let fault = c.in-Bad.fault in
    let picture = c.in-Some-picture.picture in
    let gathered = rw c.in-Some.is at c.gather-front.ensures.whole in
    let whole = c.in-Some.whole.items in
    let slice : c.as_slice.result.now ≡ whole = c.as_slice.ensures.value in
    let told = rw (c.width-width.ensures.value, c.height-height.ensures, slice) at c.in-Bad.ensures.bad in
    rw (c.fail-fault.ensures.value, c.of_wire.ensures)
    (wire_fails old _ bytes (bad_damages old _ more head c.in-RectHead.is n bytes whole fault picture gathered.0
    gathered.1 c.in-Some-picture.is told refl) refl refl refl refl n fault
    (bad_placed old bytes n (fault_of_wire fault) c.gather-front.ensures.used.0 c.gather-front.ensures.used.1
    (wire_other fault)
    (λ viewing. step_refuses (viewer viewing) (StandsFor viewing) old old (take n bytes) (fault_of_wire fault)
    (rect_bad viewing old old more head (take n bytes) whole fault picture c.in-RectHead.is gathered.0
    gathered.1 c.in-Some-picture.is told))
    (head_awaits old more head n bytes whole c.in-RectHead.is gathered.0 gathered.1 c.gather-front.ensures.used.0
    c.gather-front.ensures.used.1))
    (λ viewing. rect_head_ends viewing old old more head n bytes whole fault _ (sym c.in-Some-picture.is)
    c.in-RectHead.is gathered.0 gathered.1
    (rect_bad viewing old old more head (take n bytes) whole fault picture c.in-RectHead.is gathered.0
    gathered.1 c.in-Some-picture.is told))
    refl (c.fail-fault.ensures.after ∙ ap (λ (f : ViewerFault). Failed f) c.of_wire.ensures))

pub returns-in-Some-whole_size : goal.returns-in-Some-whole_size
returns-in-Some-whole_size c =
    let old = c.args.self.now in
    let bytes = c.args.bytes.now in
    let picture = c.in-Some-picture.picture in
    let head = c.in-Got.head in
    let size = c.in-Some-whole_size.size in
    let whole = c.width-width.ensures.whole in
    let after = c.go_on-ends_update.ensures in
    let painter = raw_begun old.format head.rect in
    let slice = take (length bytes - c.gather-front.result.0) (drop c.gather-front.result.0 bytes) in
    let long = length-take-le size slice c.in-Some-whole_size.ensures.within ∙ c.in-Some-whole_size.ensures.size in
    begun_ends old _ bytes c.gather-front.result.0 c.in-RectHead.more c.in-RectHead.head
    c.in-Some.whole.items head picture c.paint_pixels.new.picture painter
    (begun_by old bytes c.gather-front.result.0 {m = 0} {n = 0} {made = painter} c.gather-front.ensures.used
    c.in-RectHead.is (rw c.in-Some.is at c.gather-front.ensures.whole) c.in-Some-picture.is c.as_slice.ensures.value
    c.width-width.ensures.value c.height-height.ensures c.in-Got.ensures.got refl
    (ap (λ (e : Encoding). record { rect = head.rect; encoding = e; form = old.format })
    (sym c.in-Some-whole_size.ensures.raw))
    (raw_fresh old.format head.rect picture c.in-Some-whole_size.ensures.some whole))
    slice (take_rest bytes c.gather-front.result.0) refl refl refl size painter _ head.rect head.rect
    c.in-Some-whole_size.ensures.within
    (raw_paints old.format head.rect (take size slice) picture c.paint_pixels.new.picture whole long
    c.paint_pixels.ensures.value)
    (λ before body stands. refl)
    (ap seen c.end_of.ensures ∙ after.told) (made_so refl after.progress after.request refl) c.join.ensures refl
    refl refl

pub returns-in-Err : goal.returns-in-Err
returns-in-Err c =
    rw (c.fail.ensures.value, c.of_paint.ensures)
    (begun_fails c.args.self.now _ c.args.bytes.now c.gather-front.result.0 c.in-RectHead.more c.in-RectHead.head
    c.in-Some.whole.items c.in-Got.head c.in-Some-picture.picture c.take.new.picture c.in-Data.painter
    (begun_by c.args.self.now c.args.bytes.now c.gather-front.result.0 c.gather-front.ensures.used c.in-RectHead.is
    (rw c.in-Some.is at c.gather-front.ensures.whole) c.in-Some-picture.is c.as_slice.ensures.value
    c.width-width.ensures.value c.height-height.ensures c.in-Got.ensures.got c.in-Data.is c.new.ensures.value
    (c.new.ensures.stands c.in-Some-picture.picture))
    _ (take_rest c.args.bytes.now c.gather-front.result.0) refl refl refl c.in-Err.flaw _ c.in-Err.ensures.fault
    c.in-Err.ensures.begun c.in-Err.ensures.within c.in-Err.ensures.with refl c.join-in-Err.ensures
    (c.rect.ensures ∙ c.take.ensures.rect)
    (c.fail.ensures.after ∙ ap (λ (f : ViewerFault). Failed f) c.of_paint.ensures) refl refl)

pub returns-then-not-painted : goal.returns-then-not-painted
returns-then-not-painted c =
    let painter = c.in-Data.painter in
    let more = not_false c.in-Ok.painted.done c.if-not-painted.true in
    let same = c.take.ensures in
    begun_goes_on c.args.self.now _ c.args.bytes.now c.gather-front.result.0 c.in-RectHead.more c.in-RectHead.head
    c.in-Some.whole.items c.in-Got.head c.in-Some-picture.picture c.take.new.picture painter
    (begun_by c.args.self.now c.args.bytes.now c.gather-front.result.0 c.gather-front.ensures.used c.in-RectHead.is
    (rw c.in-Some.is at c.gather-front.ensures.whole) c.in-Some-picture.is c.as_slice.ensures.value
    c.width-width.ensures.value c.height-height.ensures c.in-Got.ensures.got c.in-Data.is c.new.ensures.value
    (c.new.ensures.stands c.in-Some-picture.picture))
    _ (take_rest c.args.bytes.now c.gather-front.result.0) refl refl refl c.in-Ok.painted.used c.take.new.self
    (c.in-Ok.ensures.all more) (c.in-Ok.ensures.more more)
    (painting_same painter c.take.new.self same.rect same.form same.encoding)
    (made_so refl (ap (λ (n : ℕ). Data n c.take.new.self) (sym (same_count _ _ c.new.result painter c.in-Data.is)))
    refl refl) refl refl

pub returns : goal.returns
returns c =
    let done = not_true c.in-Ok.painted.done c.if-not-painted.false in
    let after = c.go_on-ends_update-2.ensures in
    begun_ends c.args.self.now _ c.args.bytes.now c.gather-front.result.0 c.in-RectHead.more c.in-RectHead.head
    c.in-Some.whole.items c.in-Got.head c.in-Some-picture.picture c.take.new.picture c.in-Data.painter
    (begun_by c.args.self.now c.args.bytes.now c.gather-front.result.0 c.gather-front.ensures.used c.in-RectHead.is
    (rw c.in-Some.is at c.gather-front.ensures.whole) c.in-Some-picture.is c.as_slice.ensures.value
    c.width-width.ensures.value c.height-height.ensures c.in-Got.ensures.got c.in-Data.is c.new.ensures.value
    (c.new.ensures.stands c.in-Some-picture.picture))
    _ (take_rest c.args.bytes.now c.gather-front.result.0) refl refl refl c.in-Ok.painted.used c.take.new.self _ _ _
    c.in-Ok.ensures.used (c.in-Ok.ensures.done done) (c.in-Ok.ensures.copied done)
    (ap seen c.end_of-2.ensures ∙ after.told) (made_so refl after.progress after.request refl) c.join-2.ensures
    (c.rect-2.ensures ∙ c.take.ensures.rect) c.keep_move.ensures c.take.ensures.rect

pub invariant_of-self-then-not-painted : goal.invariant_of-self-then-not-painted
invariant_of-self-then-not-painted c = grind (arith, common_steps)

pub invariant_of-self-2 : goal.invariant_of-self-2
invariant_of-self-2 c = record {
  sound = past_sound c.args.self.now.hello c.in-RectHead.more
      c.go_on-ends_update-2.new.progress c.take.new.picture c.go_on-ends_update-2.ensures.progress;
}
