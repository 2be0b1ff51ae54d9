-- What is the same where a comparison of two formats, rectangles, hints or lists says so.
use Rattle.std.proofs.Common.{◌≡◌, ℕ, ◌<◌, ◌+◌, ◌&&◌}
use Rattle.std.proofs.Common.{Bool, true, false, List, length}
use Rattle.std.proofs.Common.{ap, sym, ◌∙◌, refl, arith, Some}
use Rattle.std.proofs.Common.{eqb, take, slice_get, [], ◌∷◌, ◌++◌}
use Rattle.rfb_server.proofs.UsingLemmas.{take_next}
use Rattle.std.specs.Prelude.{slice_index_or}
use mathlib.Core.Bool.{beq}
use Rattle.std.proofs.lemmas.Bool.{eqb-true}
use Rattle.std.proofs.lemmas.List.{take_all, take_more_same}
use Rattle.rfb_pixel.specs.declared.channel.Channel.{Channel}
use Rattle.rfb_pixel.specs.Format.{PixelFormat, pixel_format}
use Rattle.rfb_wire.specs.declared.encoding.Encoding.{Encoding}
use Rattle.rfb_wire.specs.declared.encoding.Encoding.TheVariants.{Raw}
use Rattle.rfb_server.specs.declared.hint.Hint.{Hint}
use Rattle.rfb_server.specs.Encodings.{is_same}
use Rattle.rfb_picture.specs.declared.rect.Rect.{Rect}
use Rattle.rfb_server.proofs.EncodingLemmas.{same_is}

-- ---- what derived comparisons say

both_true : (a b : Bool) → (a && b) ≡ true → (a ≡ true) × (b ≡ true)
both_true true true e = (refl, refl)
both_true true false e = absurd cc
both_true false b e = absurd cc

abbrev rect_of : ℕ → ℕ → ℕ → ℕ → Rect
rect_of x y w h = record { x = x; y = y; w = w; h = h }

same_rects : (a b c d e f g h : ℕ) → a ≡ e → b ≡ f → c ≡ g → d ≡ h →
    rect_of a b c d ≡ rect_of e f g h
same_rects a b c d e f g h p q r s = rw (p, q, r, s) refl

pub same_rect : (one other : Rect) → (eqb one.x other.x && (eqb one.y other.y
    && (eqb one.w other.w && eqb one.h other.h))) ≡ true → one ≡ other
same_rect one other e =
    let (x, a) = both_true (eqb one.x other.x) _ e in
    let (y, b) = both_true (eqb one.y other.y) _ a in
    let (w, h) = both_true (eqb one.w other.w) (eqb one.h other.h) b in
    same_rects one.x one.y one.w one.h other.x other.y other.w other.h (eqb-true _ _ x) (eqb-true _ _ y)
    (eqb-true _ _ w)
    (eqb-true _ _ h)

same_flag : (a b : Bool) → beq a b ≡ true → a ≡ b
same_flag true true e = refl
same_flag false false e = refl
same_flag true false e = absurd cc
same_flag false true e = absurd cc

abbrev channel : ℕ → ℕ → Channel
channel width shift = record { width = width; shift = shift }

same_channels : (a b c d : ℕ) → a ≡ c → b ≡ d → channel a b ≡ channel c d
same_channels a b c d p q = rw (p, q) refl

same_channel : (one other : Channel) → (eqb one.width other.width && eqb one.shift other.shift) ≡ true →
    one ≡ other
same_channel one other e =
    let (a, b) = both_true (eqb one.width other.width) (eqb one.shift other.shift) e in
    same_channels one.width one.shift other.width other.shift (eqb-true _ _ a) (eqb-true _ _ b)

abbrev bits_match : PixelFormat → PixelFormat → Bool
bits_match f g = eqb f.bits_per_pixel g.bits_per_pixel

same_formats : (f g : PixelFormat) → f.bits_per_pixel ≡ g.bits_per_pixel → f.depth ≡ g.depth →
    f.big_endian ≡ g.big_endian → f.red ≡ g.red → f.green ≡ g.green → f.blue ≡ g.blue →
    pixel_format f.bits_per_pixel f.depth f.big_endian f.red f.green f.blue
    ≡ pixel_format g.bits_per_pixel g.depth g.big_endian g.red g.green g.blue
same_formats f g a b c d e h = rw (a, b, c, d, e, h) refl

pub same_format : (f g : PixelFormat) → (bits_match f g && (eqb f.depth g.depth
    && (beq f.big_endian g.big_endian && ((eqb f.red.width g.red.width && eqb f.red.shift g.red.shift)
    && ((eqb f.green.width g.green.width && eqb f.green.shift g.green.shift)
    && (eqb f.blue.width g.blue.width && eqb f.blue.shift g.blue.shift)))))) ≡ true → f ≡ g
same_format f g is =
    let (bits, a) = both_true (bits_match f g) _ is in
    let (depth, b) = both_true (eqb f.depth g.depth) _ a in
    let (order, d) = both_true (beq f.big_endian g.big_endian) _ b in
    let (red, e) = both_true (eqb f.red.width g.red.width && eqb f.red.shift g.red.shift) _ d in
    let (green, blue) = both_true (eqb f.green.width g.green.width && eqb f.green.shift g.green.shift)
    (eqb f.blue.width g.blue.width && eqb f.blue.shift g.blue.shift) e in
    same_formats f g (eqb-true _ _ bits) (eqb-true _ _ depth) (same_flag f.big_endian g.big_endian order)
    (same_channel f.red g.red red) (same_channel f.green g.green green) (same_channel f.blue g.blue blue)

-- an encoding more is the same in both lists
pub encoding_more : (list others : List Encoding) (i : ℕ) → i < length list → length list ≡ length others →
    is_same (slice_index_or list i Raw) (slice_index_or others i Raw) ≡ true → take i list ≡ take i others →
    take (i + 1) list ≡ take (i + 1) others
encoding_more list others i below sizes same so_far =
    take_more_same list others i Raw below (rw (← sizes) below) so_far (same_is _ _ same)

pub encodings_same : (list others : List Encoding) (n : ℕ) → length list ≡ length others → n ≡ length list →
    take n list ≡ take n others → list ≡ others
encodings_same list others n sizes all same =
    sym (take_all n list (omega arith)) ∙ (same ∙ take_all n others (omega arith))

-- ---- hints

abbrev hint_of : Rect → ℕ → ℕ → Hint
hint_of to sx sy = record { to = to; sx = sx; sy = sy }

same_hints : (a b : Rect) (c d e f : ℕ) → a ≡ b → c ≡ d → e ≡ f → hint_of a c e ≡ hint_of b d f
same_hints a b c d e f p q r = rw (p, q, r) refl

pub same_hint : (one other : Hint) → ((eqb one.to.x other.to.x && (eqb one.to.y other.to.y
    && (eqb one.to.w other.to.w && eqb one.to.h other.to.h)))
    && (eqb one.sx other.sx && eqb one.sy other.sy)) ≡ true → one ≡ other
same_hint one other e =
    let (to, from) = both_true (eqb one.to.x other.to.x && (eqb one.to.y other.to.y
    && (eqb one.to.w other.to.w && eqb one.to.h other.to.h))) _ e in
    let (x, y) = both_true (eqb one.sx other.sx) (eqb one.sy other.sy) from in
    same_hints one.to other.to one.sx other.sx one.sy other.sy (same_rect one.to other.to to) (eqb-true _ _ x)
    (eqb-true _ _ y)

-- a hint more is the same in both lists
pub hint_more : (hints others : List Hint) (i : ℕ) (hint : Hint) → slice_get hints i ≡ Some hint →
    slice_get others i ≡ Some hint → take i hints ≡ take i others → take (i + 1) hints ≡ take (i + 1) others
hint_more hints others i hint here there so_far =
    take_next hints i hint here ∙
    (ap (λ (h : List Hint). h ++ hint ∷ []) so_far ∙ sym (take_next others i hint there))

pub hints_same : (hints others : List Hint) (n : ℕ) → length hints ≡ length others → n ≡ length hints →
    take n hints ≡ take n others → hints ≡ others
hints_same hints others n sizes all same =
    sym (take_all n hints (omega arith)) ∙ (same ∙ take_all n others (omega arith))
