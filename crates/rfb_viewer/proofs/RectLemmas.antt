-- What a viewer makes of an update's rectangles: their heads and their data.
use Rattle.std.proofs.Common.{◌≡◌, ℕ, zero, suc, ◌+◌, ◌-◌, ◌<◌, ◌==◌, Bool, true, false, List, [], ◌∷◌, ◌++◌, Option}
use Rattle.std.proofs.Common.{Some, None, Result, Ok, Err, not, ◌≤◌, length, take, refl, sym, subst, ◌∙◌, ap, arith}
use Rattle.std.proofs.Common.{append-nil, append_assoc}
use Rattle.std.proofs.lemmas.List.{length-take-le, take_all}
use Rattle.rfb_codec.specs.Stage.{encoding_at}
use Rattle.arrayvec.specs.ArrayVec.{ArrayVec}
use Rattle.rfb_pixel.specs.declared.colour.Colour.{Colour}
use Rattle.rfb_picture.specs.Grid.{Grid}
use Rattle.rfb_wire.specs.declared.rect_head.RectHead.{RectHead as HeadOfRect}
use Rattle.rfb_wire.specs.declared.fault.WireFault.{WireFault}
use Rattle.rfb_wire.specs.RectHead.{SpellsRectHead, IsOnScreen, IsRectFault}
use Rattle.rfb_wire.specs.stream.Prefix.{More, Got, Bad}
use Rattle.rfb_wire.specs.stream.Sequel.{First, Second}
use Rattle.rfb_wire.specs.stream.End.{StepsBy}
use Rattle.rfb_codec.specs.declared.fault.PaintFault.{PaintFault}
use Rattle.rfb_codec.specs.UnderWay.{UnderWay, painting, StandsFor as PainterStandsFor, Paints, Waits, Refuses}
use Rattle.rfb_codec.specs.Painter.{Painting, data_of, painting_of, AwaitsData}
use Rattle.rfb_codec.specs.Effect.{effect}
use Rattle.rfb_codec.specs.UpdateStream.{UpdatePoint, Rectangle, InHead, InData, update_stream}
use Rattle.rfb_codec.proofs.UpdateWaitLaws.{past_rectangle, rect_short, head_bad, body_got, body_effect, body_waits}
use Rattle.rfb_codec.proofs.UpdateWaitLaws.{body_bad}
use Rattle.rfb_codec.proofs.EffectLaws.{effects_picture}
use Rattle.rfb_viewer.specs.declared.viewer.Viewer.{Viewer}
use Rattle.rfb_viewer.specs.declared.viewer.progress.Progress.TheVariants.{RectHead, Data}
use Rattle.rfb_viewer.specs.Fault.{fault_of_wire, fault_of_paint}
use Rattle.rfb_viewer.specs.ServerBytes.{ServerAt}
use Rattle.rfb_viewer.specs.declared.fault.ViewerFault.{ViewerFault}
use Rattle.rfb_viewer.specs.Told.{ViewerTold}
use Rattle.rfb_viewer.specs.Viewer.{Viewing, ViewerState, viewer, shows}
use Rattle.rfb_viewer.specs.Progress.{fault_in, ProgressStandsFor, IsReadyAt, Stores, IsPainting}
use Rattle.rfb_viewer.specs.Model.{StandsFor}
use Rattle.rfb_viewer.specs.steps.Steps.{progress_past, told_past, request_past}
use Rattle.rfb_viewer.proofs.StepLemmas.{IsMade, made_stands, ready_same, more_step, got_step, bad_step, past_stands}
use Rattle.rfb_viewer.proofs.StepLemmas.{past_progress, past_request, past_told, one_left}
use Rattle.rfb_viewer.proofs.MessageLemmas.{here}

pub at_rect_head : (viewing : Viewing) (v : Viewer) (more : ℕ) (part : ArrayVec ℕ) (at : ServerAt) (g : Option
    (Grid Colour)) (prefix : List ℕ) → ProgressStandsFor viewing v (RectHead more part) at g prefix → (q : UpdatePoint)
    × (at ≡ Second q) × IsReadyAt v q g (more + 1) × Stores v g × (prefix ≡ part.items) × (length part.items < 12)
at_rect_head viewing v more part (First p) g prefix h = absurd h
at_rect_head viewing v more part (Second q) g prefix h = (q, refl, h.0, h.1, h.2, h.3)

pub at_data : (viewing : Viewing) (v : Viewer) (more : ℕ) (painter : UnderWay) (at : ServerAt) (g : Option
    (Grid Colour)) (prefix : List ℕ) → ProgressStandsFor viewing v (Data more painter) at g prefix → (q : UpdatePoint)
    × (at ≡ Second q) × (ready : IsReadyAt v q g (more + 1)) × IsPainting v q painter ready.screen prefix
at_data viewing v more painter (First p) g prefix h = absurd h
at_data viewing v more painter (Second q) g prefix h = (q, refl, h.0, h.1)

same_screen : (a b : Grid Colour) → Some a ≡ Some b → a ≡ b
same_screen a b e = cc

-- a step by the same bytes
pub step_by : (viewing : Viewing) (old new : Viewer) (unit all : List ℕ) (result : Result (Option ViewerTold)
    ViewerFault) → all ≡ unit → StepsBy (viewer viewing) (StandsFor viewing) old unit result new →
    StepsBy (viewer viewing) (StandsFor viewing) old all result new
step_by viewing old new unit all result e steps =
    subst (λ (ys : List ℕ). StepsBy (viewer viewing) (StandsFor viewing) old ys result new) (sym e) steps

-- ---- what a painter tells of data

module _ (q : UpdatePoint) (head : HeadOfRect) (front : List ℕ) (before : Grid Colour)
    (awaits : AwaitsData q head front before) (painter : UnderWay) (is : painting painter ≡ painting_of q head) where
  data_more : (body bytes : List ℕ) (picture now : Grid Colour) (next : UnderWay) →
      PainterStandsFor painter picture before body → Waits painter picture bytes next now →
      (update_stream.next q (front ++ (body ++ bytes)) ≡ More) × PainterStandsFor next now before (body ++ bytes)
  data_more body bytes picture now next stands waits =
      let h = waits before body stands in (
        body_waits q head front before awaits (body ++ bytes)
            (subst (λ (p : Painting). data_of p before (body ++ bytes) ≡ More) is h.0),
        h.1,
      )

  pub data_done : (body bytes : List ℕ) (picture now : Grid Colour) (next : UnderWay) →
      PainterStandsFor painter picture before body → Paints painter picture bytes next now → (update_stream.next q
      (front ++ (body ++ bytes)) ≡ Got (Rectangle head (body ++ bytes)) []) × (effect q (Rectangle head
      (body ++ bytes)) before ≡ now)
  data_done body bytes picture now next stands paints =
      let h = paints before body stands in
      let data_is = subst (λ (p : Painting). data_of p before (body ++ bytes) ≡ Got h.0 []) is h.1 in
      let form = ap (λ (p : Painting). p.form) is in
      let rect = ap (λ (p : Painting). p.rect) is in (
        subst (λ (ys : List ℕ). update_stream.next q ys ≡ Got (Rectangle head (body ++ bytes)) []) (append-nil
            (front ++ (body ++ bytes))) (body_got q head front before awaits (body ++ bytes) [] h.0 data_is),
        body_effect q head front before awaits (body ++ bytes) h.0 data_is ∙ sym (rw (← form, ← rect) h.2),
      )

  data_bad : (body bytes : List ℕ) (picture now : Grid Colour) (fault : PaintFault) →
      PainterStandsFor painter picture before body → Refuses painter picture bytes now fault →
      update_stream.next q (front ++ (body ++ bytes)) ≡ Bad (InData fault)
  data_bad body bytes picture now fault stands refuses =
      body_bad q head front before awaits (body ++ bytes) fault
      (subst (λ (p : Painting). data_of p before (body ++ bytes) ≡ Bad fault) is (refuses before body stands).0)

-- what is known after a head
pub record IsOpened (old : Viewer) (more : ℕ) (part : ArrayVec ℕ) (unit whole : List ℕ) (head : HeadOfRect)
    (picture : Grid Colour) (painter : UnderWay) : Type 0 where
  pub was : old.progress ≡ RectHead more part
  pub whole_is : whole ≡ part.items ++ unit
  pub shown : old.picture ≡ Some picture
  pub spelled : SpellsRectHead head whole
  pub on_screen : IsOnScreen picture.width picture.height head.rect
  pub painting_is : painting painter ≡ record { rect = head.rect; encoding = head.encoding; form = old.format }
  pub fresh : PainterStandsFor painter picture picture []

-- ---- after a rectangle

module _ (viewing : Viewing) (old new : Viewer) where
  rect_stands : (s : ViewerState) (prefix : List ℕ) (q : UpdatePoint) (more : ℕ)
      (head : HeadOfRect) (body : List ℕ) (now : Grid Colour) → StandsFor viewing old s prefix → s.point ≡ Second q →
      (ready : IsReadyAt old q s.picture (more + 1)) → effect q (Rectangle head body) ready.screen ≡ now →
      IsMade old new (progress_past more) (request_past more old.request) (Some now) →
      StandsFor viewing new (shows viewing s (Second (Rectangle head body))) []
  rect_stands s prefix q more head body now stands at ready has made =
      let kept = effects_picture q (Rectangle head body ∷ []) ready.screen in
      let left = ready.left_is in
      let less : q.left - 1 ≡ more = omega (arith, left) in
      past_stands viewing old new s prefix q (Rectangle head body) (more + 1) more now (progress_past more)
      (request_past more old.request) stands at ready made
      (past_rectangle q head body ∙ ap (λ (k : ℕ). record q { left = k }) less) has
      (ap (λ (g : Grid Colour). g.width) (sym has)
      ∙ kept.columns) (ap (λ (g : Grid Colour). g.height) (sym has) ∙ kept.rows)
      (past_request more old.request s.outstanding (q.left == 1) (one_left q.left more left) stands.outstanding_is)
      (λ ready'. past_progress viewing old new more (record q { left = more }) now made.picture_is ready')

  -- where its data go on
  going_stands : (s : ViewerState) (prefix all : List ℕ) (q : UpdatePoint) (more : ℕ) (head : HeadOfRect)
      (front body : List ℕ) (next : UnderWay) (now : Grid Colour) → StandsFor viewing old s prefix →
      s.point ≡ Second q → (ready : IsReadyAt old q s.picture (more + 1)) →
      IsMade old new (Data more next) old.request (Some now) → all ≡ front ++ body →
      AwaitsData q head front ready.screen → painting next ≡ painting_of q head →
      PainterStandsFor next now ready.screen body → update_stream.next q all ≡ More → StandsFor viewing new s all
  going_stands s prefix all q more head front body next now stands at ready made all_is awaits painting_is shows waits =
      made_stands viewing old new (Data more next) old.request (Some now) s s prefix all made stands
      stands.outstanding_is
      (subst (λ (a : ServerAt). ProgressStandsFor viewing new (Data more next) a s.picture all) (sym at) (
        ready_same viewing old new (Data more next) old.request (Some now) s.picture q (more + 1) made ready,
        record {
          head = head;
          front = front;
          body = body;
          prefix_is = all_is;
          awaits = awaits;
          painting_is = painting_is;
          now = now;
          now_is = made.picture_is;
          shows = shows;
          waits = waits;
        },
      ))

  -- ---- heads

  pub rect_part : (more : ℕ) (part now : ArrayVec ℕ) (unit : List ℕ) → old.progress ≡ RectHead more part → now.items
      ≡ part.items ++ unit → length now.items < 12 → IsMade old new (RectHead more now) old.request old.picture →
      StepsBy (viewer viewing) (StandsFor viewing) old unit (Ok None) new
  rect_part more part now unit was is short made =
      more_step viewing old new unit (λ s prefix stands.
      let h = at_rect_head viewing old more part s.point s.picture prefix
      (here viewing old (RectHead more part) s prefix was stands) in
      let all : prefix ++ unit ≡ now.items = ap (λ (ys : List ℕ). ys ++ unit) h.4 ∙ sym is in
      let left = h.2.left_is in (
        h.0,
        h.1,
        rw all (rect_short h.0 now.items (omega (arith, left)) short),
        rw all (made_stands viewing old new (RectHead more now) old.request old.picture s s prefix now.items
            made stands stands.outstanding_is
            (subst (λ (a : ServerAt). ProgressStandsFor viewing new (RectHead more now) a s.picture now.items)
            (sym h.1) (
              ready_same viewing old new (RectHead more now) old.request old.picture s.picture h.0 (more + 1) made h.2,
              made.picture_is ∙ h.3,
              refl,
              short,
            ))),
      ))

  pub rect_bad : (more : ℕ) (part : ArrayVec ℕ) (unit whole : List ℕ) (fault : WireFault) (picture : Grid Colour) →
      old.progress ≡ RectHead more part → whole ≡ part.items ++ unit →
      length whole ≡ 12 → old.picture ≡ Some picture → IsRectFault picture.width picture.height fault whole →
      StepsBy (viewer viewing) (StandsFor viewing) old unit (Err (fault_of_wire fault)) new
  rect_bad more part unit whole fault picture was is size shown told =
      bad_step viewing old new unit (InHead fault) (λ s prefix stands.
      let h = at_rect_head viewing old more part s.point s.picture prefix
      (here viewing old (RectHead more part) s prefix was stands) in
      let all : prefix ++ unit ≡ whole ++ [] =
      ap (λ (ys : List ℕ). ys ++ unit) h.4 ∙ (sym is ∙ sym (append-nil whole)) in
      let left = h.2.left_is in
      let screen : picture ≡ h.2.screen = same_screen picture h.2.screen (sym shown ∙ (h.3 ∙ h.2.picture_is)) in
      let wide : picture.width ≡ h.0.width = ap (λ (g : Grid Colour). g.width) screen ∙ h.2.columns in
      let high : picture.height ≡ h.0.height = ap (λ (g : Grid Colour). g.height) screen ∙ h.2.rows in
      (h.0, h.1, rw all (head_bad h.0 fault whole [] (omega (arith, left)) size (rw (← wide, ← high) told))))

  -- a whole head awaits its data
  awaits_data : (q : UpdatePoint) (more : ℕ) (g : Option (Grid Colour)) (head : HeadOfRect) (whole : List ℕ)
      (picture : Grid Colour) → (ready : IsReadyAt old q g (more + 1)) → Some picture ≡ g → SpellsRectHead head whole →
      IsOnScreen picture.width picture.height head.rect → AwaitsData q head whole ready.screen
  awaits_data q more g head whole picture ready shown spelled on =
      let left = ready.left_is in
      let screen : picture ≡ ready.screen = same_screen picture ready.screen (shown ∙ ready.picture_is) in
      let wide : picture.width ≡ q.width = ap (λ (k : Grid Colour). k.width) screen ∙ ready.columns in
      let high : picture.height ≡ q.height = ap (λ (k : Grid Colour). k.height) screen ∙ ready.rows in
      record {
        some_left = omega (arith, left);
        head_is = spelled;
        on_screen = rw (← wide, ← high) on;
        columns = ready.columns;
        rows = ready.rows;
      }

  -- the same at a state
  pub record IsOpenedAt (s : ViewerState) (prefix : List ℕ) (more : ℕ) (unit whole : List ℕ) (head : HeadOfRect)
      (picture : Grid Colour) (painter : UnderWay) : Type 0 where
    pub q : UpdatePoint
    pub at : s.point ≡ Second q
    pub ready : IsReadyAt old q s.picture (more + 1)
    pub all : (rest : List ℕ) → prefix ++ (unit ++ rest) ≡ whole ++ ([] ++ rest)
    pub awaits : AwaitsData q head whole ready.screen
    pub painting_is : painting painter ≡ painting_of q head
    pub fresh : PainterStandsFor painter picture ready.screen []

  pub opened_at : (s : ViewerState) (prefix : List ℕ) (more : ℕ)
      (part : ArrayVec ℕ) (unit whole : List ℕ) (head : HeadOfRect) (picture : Grid Colour) (painter : UnderWay) →
      IsOpened old more part unit whole head picture painter → StandsFor viewing old s prefix →
      IsOpenedAt s prefix more unit whole head picture painter
  opened_at s prefix more part unit whole head picture painter o stands =
      let h = at_rect_head viewing old more part s.point s.picture prefix
      (here viewing old (RectHead more part) s prefix o.was stands) in
      let shown : Some picture ≡ s.picture = sym o.shown ∙ h.3 in
      let screen : picture ≡ h.2.screen = same_screen picture h.2.screen (shown ∙ h.2.picture_is) in
      let join : prefix ++ unit ≡ whole = ap (λ (ys : List ℕ). ys ++ unit) h.4 ∙ sym o.whole_is in
      record {
        q = h.0;
        at = h.1;
        ready = h.2;
        all = λ rest. sym (append_assoc prefix unit rest) ∙ ap (λ (ys : List ℕ). ys ++ rest) join;
        awaits = awaits_data h.0 more s.picture head whole picture h.2 shown o.spelled o.on_screen;
        painting_is =
            o.painting_is ∙ ap (λ f. record { rect = head.rect; encoding = head.encoding; form = f }) (sym h.2.form_is);
        fresh = subst (λ (g : Grid Colour). PainterStandsFor painter picture g []) screen o.fresh;
      }

  pub rect_more : (more : ℕ) (part : ArrayVec ℕ) (unit whole rest : List ℕ)
      (head : HeadOfRect) (picture now : Grid Colour) (painter next : UnderWay) →
      IsOpened old more part unit whole head picture painter → Waits painter picture rest next now →
      painting next ≡ painting painter → IsMade old new (Data more next) old.request (Some now) →
      StepsBy (viewer viewing) (StandsFor viewing) old (unit ++ rest) (Ok None) new
  rect_more more part unit whole rest head picture now painter next opened waits same made =
      more_step viewing old new (unit ++ rest) (λ s prefix stands.
      let o = opened_at s prefix more part unit whole head picture painter opened stands in
      let data_is = data_more o.q head whole o.ready.screen o.awaits painter o.painting_is [] rest
      picture now next o.fresh waits in
      let more_is : update_stream.next o.q (prefix ++ (unit ++ rest)) ≡ More = rw (o.all rest) data_is.0 in (
        o.q,
        o.at,
        more_is,
        going_stands s prefix (prefix ++ (unit ++ rest)) o.q more head whole ([] ++ rest) next now stands o.at o.ready
            made (o.all rest) o.awaits (same ∙ o.painting_is) data_is.1 more_is,
      ))

  pub rect_done : (more : ℕ) (part : ArrayVec ℕ) (unit whole rest : List ℕ)
      (head : HeadOfRect) (picture now : Grid Colour) (painter next : UnderWay) →
      IsOpened old more part unit whole head picture painter → Paints painter picture rest next now →
      IsMade old new (progress_past more) (request_past more old.request) (Some now) →
      StepsBy (viewer viewing) (StandsFor viewing) old (unit ++ rest) (Ok (told_past more)) new
  rect_done more part unit whole rest head picture now painter next opened paints made =
      got_step viewing old new (unit ++ rest) (told_past more) (λ s prefix stands.
      let o = opened_at s prefix more part unit whole head picture painter opened stands in
      let data_is = data_done o.q head whole o.ready.screen o.awaits painter o.painting_is [] rest
      picture now next o.fresh paints in (
        o.q,
        Rectangle head ([] ++ rest),
        o.at,
        rw (o.all rest) data_is.0,
        past_told more (o.q.left == 1) (one_left o.q.left more o.ready.left_is),
        rect_stands s prefix o.q more head ([] ++ rest) now stands o.at o.ready data_is.1 made,
      ))

  pub rect_fault : (more : ℕ) (part : ArrayVec ℕ) (unit whole rest : List ℕ)
      (head : HeadOfRect) (picture now : Grid Colour) (painter : UnderWay) (fault : PaintFault) →
      IsOpened old more part unit whole head picture painter → Refuses painter picture rest now fault →
      StepsBy (viewer viewing) (StandsFor viewing) old (unit ++ rest) (Err (fault_of_paint fault)) new
  rect_fault more part unit whole rest head picture now painter fault opened refuses =
      bad_step viewing old new (unit ++ rest) (InData fault) (λ s prefix stands.
      let o = opened_at s prefix more part unit whole head picture painter opened stands in (
        o.q,
        o.at,
        rw (o.all rest) (data_bad o.q head whole o.ready.screen o.awaits painter o.painting_is [] rest
            picture now fault o.fresh refuses),
      ))

  -- ---- data

  -- the bytes after what came of the data
  pub joined : (prefix front body unit : List ℕ) → prefix ≡ front ++ body → prefix ++ unit ≡ front ++ (body ++ unit)
  joined prefix front body unit is = ap (λ (ys : List ℕ). ys ++ unit) is ∙ append_assoc front body unit

  -- what is stored is what the painter has painted
  pub painted_now : (painter : UnderWay) (q : UpdatePoint) (before picture : Grid Colour) (prefix : List ℕ) →
      old.picture ≡ Some picture → (p : IsPainting old q painter before prefix) →
      PainterStandsFor painter picture before p.body
  painted_now painter q before picture prefix shown p = subst (λ (g : Grid Colour). PainterStandsFor painter g before
      p.body) (same_screen p.now picture (sym p.now_is ∙ shown)) p.shows

  pub paint_more : (more : ℕ) (painter next : UnderWay) (picture now : Grid Colour) (unit : List ℕ) →
      old.progress ≡ Data more painter → old.picture ≡ Some picture → Waits painter picture unit next now →
      painting next ≡ painting painter → IsMade old new (Data more next) old.request (Some now) →
      StepsBy (viewer viewing) (StandsFor viewing) old unit (Ok None) new
  paint_more more painter next picture now unit was shown waits same made =
      more_step viewing old new unit (λ s prefix stands.
      let h = at_data viewing old more painter s.point s.picture prefix
      (here viewing old (Data more painter) s prefix was stands) in
      let p = h.3 in
      let data_is = data_more h.0 p.head p.front h.2.screen p.awaits painter p.painting_is p.body unit picture now next
      (painted_now painter h.0 h.2.screen picture prefix shown p) waits in
      let all = joined prefix p.front p.body unit p.prefix_is in
      let more_is : update_stream.next h.0 (prefix ++ unit) ≡ More = rw all data_is.0 in (
        h.0,
        h.1,
        more_is,
        going_stands s prefix (prefix ++ unit) h.0 more p.head p.front (p.body ++ unit) next now stands h.1 h.2 made all
            p.awaits (same ∙ p.painting_is) data_is.1 more_is,
      ))

  pub paint_done : (more : ℕ) (painter next : UnderWay) (picture now : Grid Colour) (unit : List ℕ) →
      old.progress ≡ Data more painter → old.picture ≡ Some picture → Paints painter picture unit next now →
      IsMade old new (progress_past more) (request_past more old.request) (Some now) →
      StepsBy (viewer viewing) (StandsFor viewing) old unit (Ok (told_past more)) new
  paint_done more painter next picture now unit was shown paints made =
      got_step viewing old new unit (told_past more) (λ s prefix stands.
      let h = at_data viewing old more painter s.point s.picture prefix
      (here viewing old (Data more painter) s prefix was stands) in
      let p = h.3 in
      let data_is = data_done h.0 p.head p.front h.2.screen p.awaits painter p.painting_is p.body unit picture now next
      (painted_now painter h.0 h.2.screen picture prefix shown p) paints in
      let all = joined prefix p.front p.body unit p.prefix_is in (
        h.0,
        Rectangle p.head (p.body ++ unit),
        h.1,
        rw all data_is.0,
        past_told more (h.0.left == 1) (one_left h.0.left more h.2.left_is),
        rect_stands s prefix h.0 more p.head (p.body ++ unit) now stands h.1 h.2 data_is.1 made,
      ))

  pub paint_fault : (more : ℕ) (painter : UnderWay) (picture now : Grid Colour) (unit : List ℕ) (fault : PaintFault) →
      old.progress ≡ Data more painter → old.picture ≡ Some picture → Refuses painter picture unit now fault →
      StepsBy (viewer viewing) (StandsFor viewing) old unit (Err (fault_of_paint fault)) new
  paint_fault more painter picture now unit fault was shown refuses =
      bad_step viewing old new unit (InData fault) (λ s prefix stands.
      let h = at_data viewing old more painter s.point s.picture prefix
      (here viewing old (Data more painter) s prefix was stands) in
      let p = h.3 in
      let all = joined prefix p.front p.body unit p.prefix_is in (
        h.0,
        h.1,
        rw all (data_bad h.0 p.head p.front h.2.screen p.awaits painter p.painting_is p.body unit picture now fault
            (painted_now painter h.0 h.2.screen picture prefix shown p) refuses),
      ))

-- a painter that was fed paints the same
pub painting_same : (p q : UnderWay) → q.rect ≡ p.rect → q.form ≡ p.form →
    encoding_at q.stage ≡ encoding_at p.stage → painting q ≡ painting p
painting_same p q rect form encoding = rw (rect, form, encoding) refl

-- twelve bytes are all of a head
pub head_all : (whole : List ℕ) (used : ℕ) (head : HeadOfRect) → length whole ≡ 12 → used ≤ length whole →
    SpellsRectHead head (take used whole) → SpellsRectHead head whole
head_all whole used head size within s =
    let long : length (take used whole) ≡ used = length-take-le used whole within in
    let twelve = s.size in
    subst (λ (ys : List ℕ). SpellsRectHead head ys) (take_all used whole (omega (arith, size, long, twelve))) s

-- data are taken by one painter, and have one number of rectangles after them
pub same_painter : (m n : ℕ) (p q : UnderWay) → Data m p ≡ Data n q → p ≡ q
same_painter m n p q e = cc

pub same_count : (m n : ℕ) (p q : UnderWay) → Data m p ≡ Data n q → m ≡ n
same_count m n p q e = cc

pub not_false : (b : Bool) → not b ≡ true → b ≡ false
not_false true e = absurd cc
not_false false e = refl

pub not_true : (b : Bool) → not b ≡ false → b ≡ true
not_true true e = refl
not_true false e = absurd cc

pub past_going : (left : ℕ) → fault_in (progress_past left) ≡ None
past_going zero = refl
past_going (suc more) = refl
