-- What a viewer promises of a rectangle's head that is whole, and of what comes of its data with it.
use Rattle.std.proofs.Common.{◌≡◌, ℕ, ◌+◌, ◌<◌, ◌≤◌, List, [], ◌++◌, Option, Some, None}
use Rattle.std.proofs.Common.{length, take, drop}
use Rattle.std.proofs.Common.{sym, subst, ◌∙◌, ap, arith, take-append-drop, length-drop}
use Rattle.std.proofs.lemmas.List.{take_all}
use Rattle.arrayvec.specs.ArrayVec.{ArrayVec}
use Rattle.rfb_pixel.specs.declared.colour.Colour.{Colour}
use Rattle.rfb_picture.specs.declared.rect.Rect.{Rect}
use Rattle.rfb_picture.specs.Grid.{Grid}
use Rattle.rfb_wire.specs.declared.rect_head.RectHead.{RectHead as HeadOfRect}
use Rattle.rfb_wire.specs.RectHead.{SpellsRectHead, IsOnScreen}
use Rattle.rfb_wire.proofs.stream_laws.FeedLaws.{take_add}
use Rattle.rfb_codec.specs.declared.fault.Flaw.{Flaw}
use Rattle.rfb_codec.specs.Painter.{Painting}
use Rattle.rfb_codec.specs.Stage.{copied_from}
use Rattle.rfb_codec.specs.UnderWay.{UnderWay, painting, StandsFor as PainterStandsFor, Waits, Paints}
use Rattle.rfb_codec.specs.UnderWay.{CopiesFrom, Refuses, ShowsWith}
use Rattle.rfb_viewer.specs.declared.event.ViewerEvent.{ViewerEvent}
use Rattle.rfb_viewer.specs.declared.viewer.Viewer.{Viewer}
use Rattle.rfb_viewer.specs.declared.viewer.progress.Progress.TheVariants.{RectHead, Data, Failed}
use Rattle.rfb_viewer.specs.Damage.{joined, under_way, ended_of}
use Rattle.rfb_viewer.specs.Fault.{fault_of_paint}
use Rattle.rfb_viewer.specs.Model.{making_of, offered_of, taken_of}
use Rattle.rfb_viewer.specs.Moved.{moved_if, moved_of}
use Rattle.rfb_viewer.specs.Progress.{fault_in}
use Rattle.rfb_viewer.specs.Told.{seen}
use Rattle.rfb_viewer.specs.steps.ItemDamage.{Damages, EndsHere}
use Rattle.rfb_viewer.specs.steps.StepPromises.{Fails, Takes}
use Rattle.rfb_viewer.specs.steps.Steps.{progress_past, request_past, told_past}
use Rattle.rfb_viewer.proofs.DamageHeadLemmas.{head_damages, past_none}
use Rattle.rfb_viewer.proofs.FailLemmas.{opened_ends}
use Rattle.rfb_viewer.proofs.MovedLemmas.{rect_moves, under_takes}
use Rattle.rfb_viewer.proofs.PlaceLemmas.{opened_placed}
use Rattle.rfb_viewer.proofs.RectLemmas.{IsOpened, head_all, past_going, rect_done, rect_fault, rect_more, same_painter}
use Rattle.rfb_viewer.proofs.RectLemmas.{step_by}
use Rattle.rfb_viewer.proofs.StepLemmas.{IsMade}
use Rattle.rfb_viewer.proofs.TakingLemmas.{begun_damages, paint_fails, past_keeps}

-- this many bytes of the slice end the head, and a painter is made for the data
pub record IsBegun (old : Viewer) (bytes : List ℕ) (front more : ℕ) (part : ArrayVec ℕ) (whole : List ℕ)
    (head : HeadOfRect) (picture : Grid Colour) (painter : UnderWay) : Type 0 where
  pub some : 0 < front
  pub within : front ≤ length bytes
  pub opened : IsOpened old more part (take front bytes) whole head picture painter

-- so the promises of the reading and of the painter say
pub begun_by : (old : Viewer) (bytes : List ℕ) (front : ℕ) {more m n used w h : ℕ} {part : ArrayVec ℕ}
    {whole slice : List ℕ} {head : HeadOfRect} {picture : Grid Colour} {made painter : UnderWay} →
    (0 < front) × (front ≤ length bytes) → old.progress ≡ RectHead more part →
    (whole ≡ part.items ++ take front bytes) × (length whole ≡ 12) → old.picture ≡ Some picture →
    slice ≡ whole →
    w ≡ picture.width → h ≡ picture.height →
    (used ≤ length slice) × SpellsRectHead head (take used slice) × IsOnScreen w h head.rect →
    Data m made ≡ Data n painter →
    painting made ≡ record { rect = head.rect; encoding = head.encoding; form = old.format } →
    PainterStandsFor made picture picture [] →
    IsBegun old bytes front more part whole head picture painter
begun_by old bytes front {more} {m} {n} {used} {w} {h} {part} {whole} {slice} {head} {picture} {made} {painter} some
    was gathered shown slice_is w_is h_is got data_is painted fresh =
    let same = same_painter m n made painter data_is in
    let told = rw (w_is, h_is, slice_is) at got in
    record {
      some = some.0;
      within = some.1;
      opened = record {
        was = was;
        whole_is = gathered.0;
        shown = shown;
        spelled = head_all whole used head gathered.1 told.0 told.1;
        on_screen = told.2;
        painting_is = ap painting (sym same) ∙ painted;
        fresh = subst (λ (p : UnderWay). PainterStandsFor p picture picture []) same fresh;
      };
    }

module _ (old new : Viewer) (bytes : List ℕ) (front more : ℕ) (part : ArrayVec ℕ) (whole : List ℕ)
    (head : HeadOfRect) (picture now : Grid Colour) (painter : UnderWay)
    (b : IsBegun old bytes front more part whole head picture painter) where
  -- the rectangle counts, since it is not under way any more
  begun_ended : (rest unit : List ℕ) (r : Rect) → unit ≡ take front bytes ++ rest →
      under_way new.progress ≡ None →
      ended_of new ≡ joined (ended_of old) r → r ≡ painter.rect → Damages old unit new
  begun_ended rest unit r cut none ended same =
      let o = b.opened in
      head_damages old new more part o.was (take front bytes) rest unit whole head picture cut o.whole_is o.shown
      o.spelled o.on_screen none
      (ended ∙ ap (joined (ended_of old)) (same ∙ ap (λ (p : Painting). p.rect) o.painting_is))

  module _ (slice : List ℕ) (rest : slice ≡ drop front bytes) (kept : making_of new ≡ making_of old)
      (taken : taken_of new ≡ taken_of old) (offered : offered_of new ≡ offered_of old) where
    -- its data are at fault
    pub begun_fails : (flaw : Flaw) (r : Rect) → Refuses painter picture slice now flaw.fault → 0 < flaw.used →
        flaw.used ≤ length slice → ShowsWith painter picture slice flaw → new.picture ≡ Some now →
        ended_of new ≡ joined (ended_of old) r → r ≡ painter.rect →
        new.progress ≡ Failed (fault_of_paint flaw.fault) →
        new.hello ≡ old.hello → moved_of new ≡ moved_of old →
        Fails old bytes (front + flaw.used) (fault_of_paint flaw.fault) new
    begun_fails flaw r refuses begun within with stored ended same failed hello still =
        let refused = subst (λ (ys : List ℕ). Refuses painter picture ys now flaw.fault) rest refuses in
        let all = sym (take-append-drop front bytes) in
        paint_fails old new bytes (begun_ended (drop front bytes) bytes r all (ap under_way failed) ended same) still
        kept taken offered (front + flaw.used) flaw.fault
        (opened_placed old more part front bytes whole head picture painter flaw b.within
        b.opened begun (subst (λ (ys : List ℕ). flaw.used ≤ length ys) rest within)
        (subst (λ (ys : List ℕ). ShowsWith painter picture ys flaw) rest with))
        (λ viewing. subst (λ (g : Option (Grid Colour)). EndsHere viewing (fault_of_paint flaw.fault) g old bytes)
        (sym stored) (opened_ends viewing old old more part (take front bytes) whole (drop front bytes) head picture now
        painter flaw.fault bytes all b.opened refused
        (rect_fault viewing old old more part (take front bytes) whole (drop front bytes) head picture now painter
        flaw.fault b.opened refused)))
        hello failed

    -- its data go on
    pub begun_goes_on : (used : ℕ) (next : UnderWay) → used ≡ length slice →
        Waits painter picture slice next now →
        painting next ≡ painting painter → IsMade old new (Data more next) old.request (Some now) →
        ended_of new ≡ ended_of old → moved_of new ≡ moved_of old → Takes old bytes (front + used) None new
    begun_goes_on used next all waits same made ended still =
        let some = b.some in
        let few = b.within in
        let long = length-drop front bytes in
        let whole_slice : used ≡ length (drop front bytes) = all ∙ ap length rest in
        let waited : Waits painter picture (take used (drop front bytes)) next now =
        subst (λ (ys : List ℕ). Waits painter picture ys next now)
        (rest ∙ sym (take_all used (drop front bytes) (omega (arith, whole_slice)))) waits in
        let under = ap under_way made.progress_is in
        under_takes old new bytes (front + used) (omega (arith, some)) (omega (arith, few, long, whole_slice))
        (λ viewing. step_by viewing old new (take front bytes ++ take used (drop front bytes)) (take (front + used)
        bytes) _ (take_add front used bytes)
        (rect_more viewing old new more part (take front bytes) whole (take used (drop front bytes)) head picture now
        painter next b.opened waited same made))
        (begun_damages old new (take (front + used) bytes) more part next.rect b.opened.was under ended)
        (ap fault_in made.progress_is) kept still offered taken next.rect under

    -- its data are all there
    pub begun_ends : (used : ℕ) (next : UnderWay) (event : Option ViewerEvent) (r k : Rect) →
        used ≤ length slice →
        Paints painter picture (take used slice) next now → CopiesFrom painter picture (take used slice) next →
        seen event ≡ told_past more →
        IsMade old new (progress_past more) (request_past more old.request) (Some now) →
        ended_of new ≡ joined (ended_of old) r → r ≡ painter.rect →
        moved_of new ≡ moved_if (moved_of old) k (copied_from next.stage) → k ≡ painter.rect →
        Takes old bytes (front + used) event new
    begun_ends used next event r k within paints copies told made ended same moved at =
        let some = b.some in
        let few = b.within in
        let long = length-drop front bytes in
        let painted = subst (λ (ys : List ℕ). Paints painter picture (take used ys) next now) rest paints in
        let inside : used ≤ length (drop front bytes) = subst (λ (ys : List ℕ). used ≤ length ys) rest within in
        record {
          some = omega (arith, some);
          within = omega (arith, few, long, inside);
          steps = λ viewing. rw told
              (step_by viewing old new (take front bytes ++ take used (drop front bytes)) (take (front + used) bytes) _
              (take_add front used bytes)
              (rect_done viewing old new more part (take front bytes) whole (take used (drop front bytes)) head picture
              now painter next b.opened painted made));
          damage = begun_ended (take used (drop front bytes)) (take (front + used) bytes) r (take_add front used bytes)
              (ap under_way made.progress_is ∙ past_none more) ended same;
          moved = rect_moves old (moved_of new) more part (take front bytes) whole (take used (drop front bytes))
              (take (front + used) bytes) head picture now painter next (take_add front used bytes)
              b.opened painted
              (subst (λ (ys : List ℕ). CopiesFrom painter picture (take used ys) next) rest copies)
              (moved ∙ ap (λ (q : Rect). moved_if (moved_of old) q (copied_from next.stage)) at);
          offered = rw told (past_keeps old new bytes offered more);
          going = ap fault_in made.progress_is ∙ past_going more;
          made = kept;
          taken = taken;
        }
