-- Laws of RRE data that are painted: what a run of subrectangles is read as, and what is shown after
-- each of them.
use Rattle.std.proofs.Common.{◌≡◌, ℕ, ◌+◌, ◌-◌, ◌<◌, ◌≤◌, List, [], ◌∷◌, ◌++◌, length, take, drop, arith, refl, sym, ap}
use Rattle.std.proofs.Common.{◌∙◌, Bool, true, false, if◌then◌else◌, ◌&&◌}
use Rattle.std.proofs.lemmas.List.{drop-drop, take_rest}
use Rattle.std.proofs.lemmas.Bool.Decides.{nat_tests}
use Rattle.byteorder.specs.Endian.{big_number}
use Rattle.rfb_pixel.specs.declared.colour.Colour.{Colour}
use Rattle.rfb_pixel.specs.Format.{PixelFormat, colour_of, pixel_number, size_of}
use Rattle.rfb_picture.specs.declared.rect.Rect.{Rect}
use Rattle.rfb_picture.specs.Rect.{contains}
use Rattle.rfb_picture.specs.Grid.{Grid, IsGrid, at_or, filled}
use Rattle.rfb_picture.proofs.GridLaws.{changed_twice, same_changes}
use Rattle.rfb_wire.specs.stream.Prefix.{More, Next}
use Rattle.rfb_wire.specs.stream.Parts.{continue_with, done, many}
use Rattle.rfb_wire.specs.RectHead.{IsOnScreen}
use Rattle.rfb_wire.proofs.stream_laws.PartLaws.{piece_short}
use Rattle.rfb_codec.specs.declared.fault.PaintFault.{PaintFault}
use Rattle.rfb_codec.specs.declared.subrect.Subrect.{Subrect}
use Rattle.rfb_codec.specs.Pixels.{drawn}
use Rattle.rfb_codec.specs.Rre.{RreHead, pixel_at, rre, rre_head_of, subrect, subrect_of}
use Rattle.rfb_codec.specs.Painter.{over}
use Rattle.rfb_pixel.proofs.FormatLaws.{pixel_number-take}
use Rattle.rfb_codec.proofs.RreLaws.{pixel_at-last}

-- ---- a subrectangle

-- a number after `n` bytes, as a slice of the rest gives it
abbrev u16_after : List ℕ → ℕ → ℕ
u16_after bytes n = big_number 2 (take (length bytes - n) (drop n bytes))

-- what is read of its bytes at their offsets
pub subrect_read : (f : PixelFormat) (bytes : List ℕ) (size pixel x y w h : ℕ) →
    size ≡ size_of f → pixel ≡ pixel_number f (take size bytes) → x ≡ u16_after bytes size →
    y ≡ u16_after bytes (size + 2) → w ≡ u16_after bytes (size + 4) → h ≡ u16_after bytes (size + 6) →
    ◌≡◌ {A = Subrect} (record { pixel = pixel; rect = record { x = x; y = y; w = w; h = h } }) (subrect_of f bytes)
subrect_read f bytes size pixel x y w h size_is pixel_is x_is y_is w_is h_is =
    let at : (n m : ℕ) → n ≡ u16_after bytes (size + m) → n ≡ big_number 2 (drop m (drop (size_of f) bytes)) = λ n m is.
    is ∙ ap (big_number 2) (take_rest bytes (size + m) ∙ sym (drop-drop m size bytes)
    ∙ ap (λ (k : ℕ). drop m (drop k bytes)) size_is) in
    let pixel' : pixel ≡ pixel_number f bytes = pixel_is ∙ pixel_number-take f bytes size (omega arith) in
    let x' : x ≡ big_number 2 (drop (size_of f) bytes) =
    x_is ∙ ap (big_number 2) (take_rest bytes size ∙ ap (λ (k : ℕ). drop k bytes) size_is) in
    let y' = at y 2 y_is in
    let w' = at w 4 w_is in
    let h' = at h 6 h_is in
    λ i. record { pixel = pixel' i; rect = record { x = x' i; y = y' i; w = w' i; h = h' i } }

-- ---- what is shown

-- a rectangle in another, moved to where that one is
abbrev pub moved : Rect → Rect → Rect
moved rect s = record { x = rect.x + s.x; y = rect.y + s.y; w = s.w; h = s.h }

-- it holds the places of the other that it holds there
moved_is : (rect s : Rect) (x y : ℕ) → IsOnScreen rect.w rect.h s →
    contains (moved rect s) x y ≡ (contains rect x y && contains s (x - rect.x) (y - rect.y))
moved_is rect s x y on =
    let right : s.x + s.w ≤ rect.w = on.0 in
    let low : s.y + s.h ≤ rect.h = on.1 in
    grind (arith, nat_tests)

both : {A : Type 0} (a b : Bool) (u v old : A) →
    (if a && b then u else (if a then v else old)) ≡ (if a then (if b then u else v) else old)
both true true u v old = refl
both true false u v old = refl
both false b u v old = refl

-- a subrectangle inside a rectangle of the picture has its places in the picture
pub moved_inside : (rect s : Rect) (width height : ℕ) → IsOnScreen width height rect → IsOnScreen rect.w rect.h s →
    IsOnScreen width height (moved rect s)
moved_inside rect s width height outer inner = (omega (arith, outer.0, inner.0), omega (arith, outer.1, inner.1))

-- one subrectangle more is filled over those before it
pub over_filled : (f : PixelFormat) (rect : Rect) (b : ℕ) (subs : List Subrect) (s : Subrect) (g : Grid Colour) →
    IsGrid g → IsOnScreen rect.w rect.h s.rect →
    filled (moved rect s.rect) (colour_of f s.pixel) (over rect (λ x y. colour_of f (pixel_at b subs x y)) g)
    ≡ over rect (λ x y. colour_of f (pixel_at b (subs ++ s ∷ []) x y)) g
over_filled f rect b subs s g whole on =
    changed_twice _ _ g
    ∙ same_changes _ _ g whole
    (λ x y d p q.
    let old = at_or g x y d in
    let here = contains s.rect (x - rect.x) (y - rect.y) in
    let before = pixel_at b subs (x - rect.x) (y - rect.y) in
    let last : colour_of f (pixel_at b (subs ++ s ∷ []) (x - rect.x) (y - rect.y))
    ≡ (if here then colour_of f s.pixel else colour_of f before) =
    ap (colour_of f) (pixel_at-last b subs s (x - rect.x) (y - rect.y)) ∙ by here s.pixel before in
    ap (λ (t : Bool). if t then colour_of f s.pixel else (if contains rect x y then colour_of f before else old))
    (moved_is rect s.rect x y on)
    ∙ both (contains rect x y) here (colour_of f s.pixel) (colour_of f before) old
    ∙ ap (λ (k : Colour). if contains rect x y then k else old) (sym last))
  where
    by : (t : Bool) (p q : ℕ) → colour_of f (if t then p else q) ≡ (if t then colour_of f p else colour_of f q)
    by true p q = refl
    by false p q = refl

-- ---- the whole data

-- what subrectangles are read as, over a background
abbrev pub shown_over : ℕ → ℕ → ℕ → Next (List Subrect) PaintFault → Next (Grid ℕ) PaintFault
shown_over w h background subs = continue_with (λ (all : List Subrect). done (drawn w h (pixel_at background all))) subs

-- without all of a head they are waited for
pub rre_short : (f : PixelFormat) (w h : ℕ) (bytes : List ℕ) → length bytes < 4 + size_of f → rre f w h bytes ≡ More
unfolding rre
rre_short f w h bytes fewer =
    ap (λ (part : Next (List ℕ) PaintFault). continue_with (λ (head : RreHead). λ (rest : List ℕ). shown_over w
    h head.background (many head.count (subrect f w h) rest))
    (continue_with (λ (xs : List ℕ). done (rre_head_of f xs)) part))
    (piece_short {F = PaintFault} (4 + size_of f) bytes fewer)
