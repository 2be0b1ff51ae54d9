-- What a relay sends, as bytes, and which requests the viewer of its server takes.
use Rattle.std.proofs.Common.{◌≡◌, ◌<◌, ◌≤◌, ◌+◌, ◌&&◌, ◌++◌, ◌∙◌, ℕ, Bool, true, false, List, [], ◌∷◌}
use Rattle.std.proofs.Common.{Option, Some, None, nat_le, nat_lt, not, arith}
use Rattle.std.proofs.lemmas.Bool.Decides.{nat_tests}
use Rattle.std.proofs.Common.{refl, sym, ap, subst, append-nil, append_assoc, ◌||◌}
use Rattle.rfb_pixel.specs.declared.colour.Colour.{Colour}
use Rattle.rfb_picture.specs.Grid.{Grid}
use Rattle.rfb_picture.specs.Rect.{rect}
use Rattle.rfb_picture.specs.declared.rect.Rect.{Rect}
use Rattle.rfb_wire.specs.stream.Sequel.{Second}
use Rattle.rfb_codec.specs.UpdateStream.{UpdatePoint}
use Rattle.rfb_viewer.specs.declared.fault.CallFault.{CallFault}
use Rattle.rfb_viewer.specs.declared.fault.CallFault.TheVariants.{AreaOutside}
use Rattle.rfb_viewer.specs.declared.viewer.Viewer.{Viewer}
use Rattle.rfb_viewer.specs.declared.viewer.progress.Progress.{Progress}
use Rattle.rfb_viewer.specs.declared.viewer.progress.Progress.TheVariants.{Handshake, Head, RectHead as RectHeadPart}
use Rattle.rfb_viewer.specs.declared.viewer.progress.Progress.TheVariants.{Data, Colours, CutText as TextPart, Failed}
use Rattle.rfb_viewer.specs.Calls.{is_requestable, refusal_if, request_refused}
use Rattle.rfb_viewer.specs.Progress.{ProgressStandsFor, IsReadyAt}
use Rattle.rfb_viewer.specs.ServerBytes.{ServerAt}
use Rattle.rfb_viewer.specs.Model.{StandsFor}
use Rattle.rfb_viewer.specs.Viewer.{Viewing, ViewerState}
use Rattle.rfb_viewer.proofs.LendLemmas.{shows_at}
use Rattle.rfb_session.specs.declared.share.Share.{Share}
use Rattle.rfb_session.specs.declared.share.event.SeatEvent.{SeatEvent}
use Rattle.rfb_session.specs.declared.share.event.SeatEvent.TheVariants.{Ready, Key, Pointer, CutText}
use Rattle.rfb_session.specs.Share.{screen_of, viewer_of}
use Rattle.rfb_session.specs.relay.Calls.{passed}
use Rattle.rfb_session.specs.relay.Sent.{Sent, all_bytes, bytes_in, bytes_of, passes_of}
use Rattle.rfb_session.proofs.HopEndLemmas.{shown_is}
use Rattle.rfb_session.proofs.MirrorSizeLemmas.{IsSized, some_sized, sized_some, there_stored}
use Rattle.rfb_session.proofs.ConsoleMoveLemmas.{none_some}

-- ---- bytes

pub bytes_join : (xs ys : List Sent) → all_bytes (xs ++ ys) ≡ all_bytes xs ++ all_bytes ys
bytes_join [] ys = refl
bytes_join (x ∷ xs) ys =
    ap (λ (l : List ℕ). bytes_of x ++ l) (bytes_join xs ys)
    ∙ sym (append_assoc (bytes_of x) (all_bytes xs) (all_bytes ys))

pub passes_bytes : (muted : Bool) (k : ℕ) (event : Option SeatEvent) →
    all_bytes (passes_of muted k event) ≡ bytes_in (passed muted event)
passes_bytes true k None = refl
passes_bytes false k None = refl
passes_bytes true k (Some (Ready shared)) = refl
passes_bytes false k (Some (Ready shared)) = refl
passes_bytes true k (Some (Key down key)) = refl
passes_bytes false k (Some (Key down key)) = append-nil _
passes_bytes true k (Some (Pointer buttons x y)) = refl
passes_bytes false k (Some (Pointer buttons x y)) = append-nil _
passes_bytes true k (Some (CutText kept n)) = refl
passes_bytes false k (Some (CutText kept n)) = append-nil _

pub muted_none : (event : Option SeatEvent) → passed true event ≡ None
muted_none None = refl
muted_none (Some (Ready shared)) = refl
muted_none (Some (Key down key)) = refl
muted_none (Some (Pointer buttons x y)) = refl
muted_none (Some (CutText kept n)) = refl

pub muted_sends : (k : ℕ) (event : Option SeatEvent) → passes_of true k event ≡ []
muted_sends k None = refl
muted_sends k (Some (Ready shared)) = refl
muted_sends k (Some (Key down key)) = refl
muted_sends k (Some (Pointer buttons x y)) = refl
muted_sends k (Some (CutText kept n)) = refl

pub or_true : (b : Bool) → (b || true) ≡ true
or_true true = refl
or_true false = refl

pub or_false : (b : Bool) → (b || false) ≡ b
or_false true = refl
or_false false = refl

-- ---- a screen's size

at_ready : (v : Viewer) (p : UpdatePoint) (g : Option (Grid Colour)) (left : ℕ) → IsReadyAt v p g left →
    IsSized p.width p.height g
at_ready v p g left ready = some_sized p.width p.height g ready.screen ready.picture_is ready.columns ready.rows

ready_sized : (viewing : Viewing) (v : Viewer) (progress : Progress) (p : UpdatePoint) (g : Option (Grid Colour))
    (prefix : List ℕ) → ProgressStandsFor viewing v progress (Second p) g prefix → IsSized p.width p.height g
ready_sized viewing v Handshake p g prefix h = absurd h
ready_sized viewing v (Head bytes) p g prefix h = at_ready v p g 0 h.0
ready_sized viewing v (RectHeadPart more head) p g prefix h = at_ready v p g _ h.0
ready_sized viewing v (Data more painter) p g prefix h = at_ready v p g _ h.0
ready_sized viewing v (Colours more) p g prefix h = at_ready v p g 0 h.0
ready_sized viewing v (TextPart n more kept) p g prefix h = at_ready v p g 0 h.0
ready_sized viewing v (Failed fault) p g prefix h = absurd h

-- a viewer stores a picture of the size that its point has, and a share of its picture shows one
pub stored_sized : (viewing : Viewing) (v : Viewer) (s : ViewerState) (prefix : List ℕ) (p : UpdatePoint) →
    StandsFor viewing v s prefix → s.point ≡ Second p → IsSized p.width p.height v.picture
stored_sized viewing v s prefix p stands at =
    there_stored p.width p.height s.point s.picture v.picture prefix
    (shows_at viewing v v.progress s.point s.picture prefix stands.progress_is)
    (ready_sized viewing v v.progress p s.picture prefix
    (subst (λ (x : ServerAt). ProgressStandsFor viewing v v.progress x s.picture prefix) at stands.progress_is))

pub screen_sized : (viewing : Viewing) (share : Share) (v : Viewer) (s : ViewerState) (prefix : List ℕ)
    (p : UpdatePoint) → viewer_of share ≡ Some v → StandsFor viewing v s prefix → s.point ≡ Second p →
    ((screen_of share).width ≡ p.width) × ((screen_of share).height ≡ p.height)
screen_sized viewing share v s prefix p there stands at =
    sized_some p.width p.height v.picture (screen_of share) (shown_is share.screen v there)
    (stored_sized viewing v s prefix p stands at)

-- ---- which requests are taken

-- none is taken while one is outstanding
pub not_busy : (at : ServerAt) (p : UpdatePoint) (outstanding : Bool) (area : Rect) → at ≡ Second p →
    request_refused at outstanding area ≡ None → outstanding ≡ false
not_busy at p true area is none =
    absurd (let e = subst (λ (x : ServerAt). request_refused x true area ≡ None) is none in cc)
not_busy at p false area is none = refl

-- one that is taken is for an area that has a place
pub has_place : (at : ServerAt) (p : UpdatePoint) (outstanding : Bool) (w h : ℕ) → at ≡ Second p →
    None ≡ request_refused at outstanding (rect 0 0 w h) → (0 < w) × (0 < h)
has_place at p true w h is taken =
    absurd (let e = subst (λ (x : ServerAt). None ≡ request_refused x true (rect 0 0 w h)) is taken in cc)
has_place at p false w h is taken =
    by (is_requestable p (rect 0 0 w h)) refl
    (subst (λ (x : ServerAt). None ≡ request_refused x false (rect 0 0 w h)) is taken)
  where
    by : (b : Bool) → is_requestable p (rect 0 0 w h) ≡ b → None ≡ refusal_if (not b) AreaOutside None →
        (0 < w) × (0 < h)
    by true good none = (columns p.width p.height w h good, rows p.width p.height w h good)
      where
        columns : (m n w h : ℕ) → (nat_lt 0 w && nat_lt 0 h && (nat_le (0 + w) m && nat_le (0 + h) n)) ≡ true →
            0 < w
        columns m n w h good = grind (arith, nat_tests, good)

        rows : (m n w h : ℕ) → (nat_lt 0 w && nat_lt 0 h && (nat_le (0 + w) m && nat_le (0 + h) n)) ≡ true → 0 < h
        rows m n w h good = grind (arith, nat_tests, good)
    by false bad none = absurd (let e = none in cc)

-- a request for a whole screen that has a place is refused only while one is outstanding
pub busy_for : (at : ServerAt) (p : UpdatePoint) (outstanding : Bool) (w h : ℕ) (fault : CallFault) → at ≡ Second p →
    w ≡ p.width → h ≡ p.height → 0 < p.width → 0 < p.height →
    request_refused at outstanding (rect 0 0 w h) ≡ Some fault → outstanding ≡ true
busy_for at p true w h fault is wide high columns rows refused = refl
busy_for at p false w h fault is wide high columns rows refused =
    absurd (none_some (request_refused at false (rect 0 0 w h)) fault
    (subst (λ (x : ServerAt). request_refused x false (rect 0 0 w h) ≡ None) (sym is)
    (ap (λ (b : Bool). refusal_if (not b) AreaOutside None)
    (inside p.width p.height w h (omega (arith, wide, columns)) (omega (arith, high, rows))
    (omega (arith, wide)) (omega (arith, high))))) refused)
  where
    inside : (m n w h : ℕ) → 0 < w → 0 < h → w ≤ m → h ≤ n →
        (nat_lt 0 w && nat_lt 0 h && (nat_le (0 + w) m && nat_le (0 + h) n)) ≡ true
    inside m n w h columns rows wide high = grind (arith, nat_tests)
