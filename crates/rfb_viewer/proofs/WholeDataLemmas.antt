-- A rectangle of Raw whose data are all there: what paints them at once does what a painter would.
use Rattle.std.proofs.Common.{◌≡◌, ℕ, ◌+◌, ◌-◌, ◌*◌, ◌<◌}
use Rattle.std.proofs.Common.{Bool, true, false, if◌then◌else◌, ◌&&◌, nat_lt}
use Rattle.std.proofs.Common.{List, [], ◌∷◌, length, refl, sym, subst, ◌∙◌, ap, arith, append-nil}
use Rattle.std.proofs.lemmas.Bool.Decides.{nat_tests}
use Rattle.rfb_pixel.specs.declared.colour.Colour.{Colour}
use Rattle.rfb_pixel.specs.Format.{PixelFormat, size_of, colour_of}
use Rattle.rfb_picture.specs.declared.rect.Rect.{Rect}
use Rattle.rfb_picture.specs.Rect.{contains}
use Rattle.rfb_picture.specs.Grid.{Grid, IsGrid, at_or}
use Rattle.rfb_picture.proofs.GridLaws.{at-changed, contains_true, height-changed, same_changes, same_grid}
use Rattle.rfb_picture.proofs.GridLaws.{whole-changed, whole_before, width-changed}
use Rattle.rfb_wire.specs.declared.encoding.Encoding.TheVariants.{Raw}
use Rattle.rfb_wire.specs.stream.Prefix.{Got}
use Rattle.rfb_codec.specs.declared.painter.stage.Stage.TheVariants.{InPixels}
use Rattle.rfb_codec.specs.Front.{pixels_over}
use Rattle.rfb_codec.specs.Painter.{over}
use Rattle.rfb_codec.specs.Pixels.{drawn}
use Rattle.rfb_codec.specs.Raw.{raw_length, raw_pixel}
use Rattle.rfb_codec.specs.RectData.{Pixels, SpellsData, rect_data, replaced}
use Rattle.rfb_codec.specs.UnderWay.{UnderWay, StandsFor, Paints}
use Rattle.rfb_codec.proofs.PixelLaws.{at-drawn, sized-drawn}
use Rattle.rfb_codec.proofs.RawLaws.{raw_stands}
use Rattle.rfb_codec.proofs.RectDataLaws.{rect_data_reads}

-- a rectangle of Raw of which no data came
abbrev pub raw_begun : PixelFormat → Rect → UnderWay
raw_begun f rect = record { rect = rect; form = f; stage = InPixels (record { x = 0; y = 0 }); pending = [] }

-- ---- before the first byte

-- no pixel is painted
none_over : (f : PixelFormat) (rect : Rect) (pixels : List ℕ) (n : ℕ) (g : Grid Colour) → n ≡ 0 → IsGrid g →
    g ≡ pixels_over f rect n pixels g
none_over f rect pixels n g none whole =
    let drawing = λ (x y : ℕ) (old : Colour). if contains rect x y && nat_lt ((y - rect.y) * rect.w + (x - rect.x)) n
    then colour_of f (raw_pixel f rect.w pixels (x - rect.x) (y - rect.y)) else old in
    same_grid g (pixels_over f rect n pixels g) whole (whole-changed drawing g whole) (sym (width-changed drawing g))
    (sym (height-changed drawing g))
    (λ x y d p q. sym (at-changed drawing g x y d whole p q
    ∙ kept (contains rect x y) ((y - rect.y) * rect.w + (x - rect.x)) _ (at_or g x y d)))
  where
    kept : (b : Bool) (m : ℕ) (c old : Colour) → (if b && nat_lt m n then c else old) ≡ old
    kept true m c old = let off : nat_lt m n ≡ false = grind (arith, nat_tests, none) in rw off refl
    kept false m c old = refl

no_items : (xs : List ℕ) → length xs ≡ 0 → xs ≡ []
no_items [] e = refl
no_items (x ∷ xs) e = absurd (omega arith)

pub raw_fresh : (f : PixelFormat) (rect : Rect) (g : Grid Colour) → 0 < size_of f → IsGrid g →
    StandsFor (raw_begun f rect) g g []
raw_fresh f rect g some whole = (
  [],
  record {
    spelled = record { whole = refl; size = omega arith; few = omega arith; short = some; ended = λ e. refl };
    shows = none_over f rect [] (0 * rect.w + 0) g (omega arith) whole;
  },
)

-- ---- all of them

either : (b : Bool) (u v w : Colour) → (b ≡ true → u ≡ v) → (if b then u else w) ≡ (if b then v else w)
either true u v w same = same refl
either false u v w same = refl

-- the colours of the pixels are what the block makes of a picture
over_block : (f : PixelFormat) (rect : Rect) (c : ℕ → ℕ → ℕ) (g : Grid Colour) → IsGrid g →
    over rect (λ x y. colour_of f (c x y)) g ≡ replaced f rect (drawn rect.w rect.h c) g
over_block f rect c g whole = same_changes _ _ g whole
    (λ x y d p q. either (contains rect x y) _ _ (at_or g x y d)
    (λ e.
    let h = contains_true rect x y e in
    ap (colour_of f) (sym (at-drawn rect.w rect.h c (x - rect.x) (y - rect.y) 0 (omega arith) (omega arith)))))

-- so many bytes are read as a block
block_got : (f : PixelFormat) (width height : ℕ) (rect : Rect) (bytes : List ℕ) →
    length bytes ≡ raw_length f rect.w rect.h → rect_data f width height rect Raw bytes
    ≡ Got (Pixels (drawn rect.w rect.h (raw_pixel f rect.w bytes))) []
block_got f width height rect bytes size =
    let block = drawn rect.w rect.h (raw_pixel f rect.w bytes) in
    let said : SpellsData f width height rect Raw (Pixels block) bytes =
    (sized-drawn rect.w rect.h (raw_pixel f rect.w bytes), raw_stands f rect.w rect.h bytes size) in
    subst (λ (ys : List ℕ). rect_data f width height rect Raw ys ≡ Got (Pixels block) []) (append-nil bytes)
    ((rect_data_reads f width height rect Raw).only (Pixels block) bytes [] said)

-- they are painted as a painter of the rectangle would paint them
pub raw_paints : (f : PixelFormat) (rect : Rect) (bytes : List ℕ) (old new : Grid Colour) → IsGrid old →
    length bytes ≡ raw_length f rect.w rect.h →
    new ≡ over rect (λ x y. colour_of f (raw_pixel f rect.w bytes x y)) old →
    Paints (raw_begun f rect) old bytes (raw_begun f rect) new
raw_paints f rect bytes old new whole size value = λ before body (pixels, s).
    let none : 0 * rect.w + 0 ≡ 0 = omega arith in
    let long = s.spelled.size in
    let empty : body ≡ [] = s.spelled.whole ∙ append-nil pixels
    ∙ no_items pixels (long ∙ ap (λ (n : ℕ). n * size_of f) none ∙ omega arith) in
    let whole' = whole_before _ before (subst (λ (g : Grid Colour). IsGrid g) s.shows whole) in
    let same : old ≡ before = s.shows ∙ sym (none_over f rect pixels (0 * rect.w + 0) before none whole') in (
      Pixels (drawn rect.w rect.h (raw_pixel f rect.w bytes)),
      rw empty (block_got f before.width before.height rect bytes size),
      value ∙ ap (over rect (λ x y. colour_of f (raw_pixel f rect.w bytes x y))) same
          ∙ over_block f rect (raw_pixel f rect.w bytes) before whole',
      refl,
    )
