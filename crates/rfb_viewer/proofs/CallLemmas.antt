-- What calls make of what a viewer stands for.
use Rattle.std.proofs.Common.{◌≡◌, ℕ, ◌+◌, ◌&&◌, nat_lt, not, Bool, true, false, List, Option, Some, None, refl, sym}
use Rattle.std.proofs.Common.{subst, ◌∙◌, ap}
use Rattle.rfb_pixel.specs.declared.colour.Colour.{Colour}
use Rattle.rfb_pixel.specs.Format.{PixelFormat}
use Rattle.rfb_picture.specs.declared.rect.Rect.{Rect}
use Rattle.rfb_picture.specs.Grid.{Grid, changed}
use Rattle.rfb_wire.specs.RectStream.{is_on_screen}
use Rattle.rfb_wire.specs.stream.Sequel.{First, Second}
use Rattle.rfb_codec.specs.UnderWay.{UnderWay}
use Rattle.rfb_codec.specs.UpdateStream.{UpdatePoint}
use Rattle.rfb_codec.specs.Front.{Front, NoSource, TheSource, SomePixels, NoHead, SomeParts, SomeTiles, SomeOfRaw}
use Rattle.rfb_codec.specs.Front.{shown}
use Rattle.rfb_codec.proofs.FrontPendingLaws.{stands_shows}
use Rattle.rfb_hello.specs.ViewerModel.{StandsFor as HelloStandsFor, is_open}
use Rattle.rfb_hello.specs.declared.viewer_hello.ViewerHello.{ViewerHello}
use Rattle.rfb_viewer.specs.declared.fault.CallFault.TheVariants.{AreaOutside}
use Rattle.rfb_viewer.specs.declared.viewer.Viewer.{Viewer}
use Rattle.rfb_viewer.specs.declared.viewer.progress.Progress.{Progress}
use Rattle.rfb_viewer.specs.declared.viewer.progress.Progress.TheVariants.{Handshake, Head, RectHead, Data, Colours}
use Rattle.rfb_viewer.specs.declared.viewer.progress.Progress.TheVariants.{CutText}
use Rattle.rfb_viewer.specs.declared.viewer.progress.Request.{Request}
use Rattle.rfb_viewer.specs.declared.viewer.progress.Request.TheVariants.{Outstanding}
use Rattle.rfb_viewer.specs.ServerBytes.{ServerAt}
use Rattle.rfb_viewer.specs.Calls.{refusal_if, is_requestable, request_refused, request_refusal, requested}
use Rattle.rfb_viewer.specs.Refusals.{is_ready, is_shown}
use Rattle.rfb_viewer.specs.Viewer.{Viewing, ViewerState}
use Rattle.rfb_viewer.specs.Progress.{ProgressStandsFor, IsReadyAt, IsPainting, Stores}
use Rattle.rfb_viewer.specs.Model.{StandsFor, is_outstanding}
use Rattle.rfb_viewer.proofs.StepLemmas.{IsMade, made_stands, ready_same}

-- ---- the screen that an area is judged by

-- pieces of a rectangle leave a picture its size
shown_size : (f : PixelFormat) (rect : Rect) (front : Front) (g : Grid Colour) →
    ((shown f rect front g).width ≡ g.width) × ((shown f rect front g).height ≡ g.height)
unfolding changed
shown_size f rect NoSource g = (refl, refl)
shown_size f rect (TheSource x y) g = (refl, refl)
shown_size f rect (SomePixels count pixels) g = (refl, refl)
shown_size f rect NoHead g = (refl, refl)
shown_size f rect (SomeParts count background subs) g = (refl, refl)
shown_size f rect (SomeTiles tiles) g = (refl, refl)
shown_size f rect (SomeOfRaw tiles count pixels) g = (refl, refl)

pub shown_columns : (f : PixelFormat) (rect : Rect) (front : Front) (g : Grid Colour) →
    (shown f rect front g).width ≡ g.width
shown_columns f rect front g = (shown_size f rect front g).0

pub shown_rows : (f : PixelFormat) (rect : Rect) (front : Front) (g : Grid Colour) →
    (shown f rect front g).height ≡ g.height
shown_rows f rect front g = (shown_size f rect front g).1

-- what is stored has the size of the screen
pub record HasScreen (v : Viewer) (q : UpdatePoint) : Type 0 where
  pub now : Grid Colour
  pub now_is : v.picture ≡ Some now
  pub columns : now.width ≡ q.width
  pub rows : now.height ≡ q.height

stored_screen : (v : Viewer) (q : UpdatePoint) (g : Option (Grid Colour)) (left : ℕ) →
    IsReadyAt v q g left → Stores v g → HasScreen v q
stored_screen v q g left ready stores =
    record { now = ready.screen; now_is = stores ∙ ready.picture_is; columns = ready.columns; rows = ready.rows }

painted_screen : (v : Viewer) (q : UpdatePoint) (painter : UnderWay) (prefix : List ℕ) (g : Option (Grid Colour))
    (left : ℕ) → (ready : IsReadyAt v q g left) → IsPainting v q painter ready.screen prefix → HasScreen v q
painted_screen v q painter prefix g left ready p =
    let f = stands_shows painter.form painter.rect painter.stage painter.pending p.now ready.screen p.body p.shows in
    let shows = f.shown_is.shows in
    record {
      now = p.now;
      now_is = p.now_is;
      columns = ap (λ (k : Grid Colour). k.width) shows
          ∙ (shown_columns painter.form painter.rect f.front ready.screen ∙ ready.columns);
      rows = ap (λ (k : Grid Colour). k.height) shows
          ∙ (shown_rows painter.form painter.rect f.front ready.screen ∙ ready.rows);
    }

screen_at : (viewing : Viewing) (v : Viewer) (p : Progress) (at : ServerAt)
    (g : Option (Grid Colour)) (prefix : List ℕ) → ProgressStandsFor viewing v p at g prefix → is_ready p ≡ true →
    (q : UpdatePoint) × (at ≡ Second q) × HasScreen v q
screen_at viewing v Handshake at g prefix h ready = absurd cc
screen_at viewing v (Head bytes) (Second q) g prefix h ready = (q, refl, stored_screen v q g 0 h.0 h.1)
screen_at viewing v (RectHead more head) (Second q) g prefix h ready = (q, refl, stored_screen v q g (more + 1) h.0 h.1)
screen_at viewing v (Data more painter) (Second q) g prefix h ready =
    (q, refl, painted_screen v q painter prefix g (more + 1) h.0 h.1)
screen_at viewing v (Colours more) (Second q) g prefix h ready = (q, refl, stored_screen v q g 0 h.0 h.1)
screen_at viewing v (CutText n more kept) (Second q) g prefix h ready = (q, refl, stored_screen v q g 0 h.0 h.1)
screen_at viewing v p at g prefix h ready = absurd h

screened : (width height : ℕ) (rect : Rect) (g : Grid Colour) → width ≡ g.width → height ≡ g.height →
    (nat_lt 0 rect.w && nat_lt 0 rect.h && is_on_screen width height rect) ≡ is_shown (Some g) rect
screened width height rect g columns rows = rw (columns, rows) refl

-- an area is refused by what is stored
pub area_refused : (viewing : Viewing) (v : Viewer) (s : ViewerState) (prefix : List ℕ) (rect : Rect) →
    StandsFor viewing v s prefix → is_ready v.progress ≡ true → is_outstanding v.request ≡ false →
    request_refusal s rect ≡ refusal_if (not (is_shown v.picture rect)) AreaOutside None
area_refused viewing v s prefix rect stands ready none =
    let h = screen_at viewing v v.progress s.point s.picture prefix stands.progress_is ready in
    let g = h.2.now in
    let same : is_requestable h.0 rect ≡ is_shown (Some g) rect =
    screened h.0.width h.0.height rect g (sym h.2.columns) (sym h.2.rows) in
    ap (λ (at : ServerAt). request_refused at s.outstanding rect) h.1
    ∙ ap (λ (b : Bool). request_refused (Second h.0) b rect) (stands.outstanding_is ∙ none)
    ∙ ap (λ (b : Bool). refusal_if (not b) AreaOutside None)
    (same ∙ ap (λ (k : Option (Grid Colour)). is_shown k rect) (sym h.2.now_is))

-- ---- a viewer that another one goes on as

module _ (viewing : Viewing) (old new : Viewer) where
  -- only its request has changed
  kept_at : (p : Progress) (r : Request) (at : ServerAt) (g : Option (Grid Colour)) (prefix : List ℕ) →
      IsMade old new p r old.picture → ProgressStandsFor viewing old p at g prefix →
      ProgressStandsFor viewing new p at g prefix
  kept_at Handshake r (First point) g prefix made h = (
    subst (λ (e : ViewerHello). HelloStandsFor viewing.hello e point prefix) (sym made.hello) h.0,
    ap is_open made.hello ∙ h.1,
    made.form ∙ h.2,
    made.picture_is ∙ h.3,
    h.4,
  )
  kept_at (Head bytes) r (Second q) g prefix made h =
      (ready_same viewing old new (Head bytes) r old.picture g q 0 made h.0, made.picture_is ∙ h.1, h.2, h.3)
  kept_at (RectHead more head) r (Second q) g prefix made h = (
    ready_same viewing old new (RectHead more head) r old.picture g q (more + 1) made h.0,
    made.picture_is ∙ h.1,
    h.2,
    h.3,
  )
  kept_at (Data more painter) r (Second q) g prefix made h =
      let p = h.1 in (
        ready_same viewing old new (Data more painter) r old.picture g q (more + 1) made h.0,
        record {
          head = p.head;
          front = p.front;
          body = p.body;
          prefix_is = p.prefix_is;
          awaits = p.awaits;
          painting_is = p.painting_is;
          now = p.now;
          now_is = made.picture_is ∙ p.now_is;
          shows = p.shows;
          waits = p.waits;
        },
      )
  kept_at (Colours more) r (Second q) g prefix made h =
      (ready_same viewing old new (Colours more) r old.picture g q 0 made h.0, made.picture_is ∙ h.1, h.2)
  kept_at (CutText n more kept) r (Second q) g prefix made h =
      (ready_same viewing old new (CutText n more kept) r old.picture g q 0 made h.0, made.picture_is ∙ h.1, h.2)
  kept_at p r at g prefix made h = absurd h

  pub requested_stands : (s : ViewerState) (prefix : List ℕ) → IsMade old new old.progress Outstanding old.picture →
      StandsFor viewing old s prefix → StandsFor viewing new (requested s) prefix
  requested_stands s prefix made stands =
      made_stands viewing old new old.progress Outstanding old.picture s (requested s) prefix prefix made stands refl
      (kept_at old.progress Outstanding s.point s.picture prefix made stands.progress_is)

  -- it goes on as it is
  pub same_stands : (s : ViewerState) (prefix : List ℕ) → IsMade old new old.progress old.request old.picture →
      StandsFor viewing old s prefix → StandsFor viewing new s prefix
  same_stands s prefix made stands =
      made_stands viewing old new old.progress old.request old.picture s s prefix prefix made stands
      stands.outstanding_is (kept_at old.progress old.request s.point s.picture prefix made stands.progress_is)
