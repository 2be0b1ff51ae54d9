-- Eight colours as pixels, in any format.
use Rattle.std.proofs.Common.{◌≡◌, ◌∙◌, ℕ, ◌<◌, zero, suc, List, [], ◌∷◌, length, map, slice_index, slice_index_or, sym}
use Rattle.std.proofs.Common.{refl, ap, arith}
use Rattle.std.proofs.lemmas.Grind.{same_number_lists}
use Rattle.std.proofs.lemmas.List.{get_or-map, get_or_default, length-map, same_lists}
use mir.Syntax.{w16}
use mir.Val.{Fits}
use Rattle.rfb_pixel.specs.declared.colour.Colour.{Colour}
use Rattle.rfb_pixel.specs.Format.{IsColour, PixelFormat, pixel_of}
use Rattle.rfb_pixel.specs.bits.Lanes.{ArePacked, colours_in, of_three}

-- each of eight places by itself
pub eight_below : (P : ℕ → Type 0) → P 0 → P 1 → P 2 → P 3 → P 4 → P 5 → P 6 → P 7 → (k : ℕ) → k < 8 → P k
eight_below P a b c d e f g h zero below = a
eight_below P a b c d e f g h (suc zero) below = b
eight_below P a b c d e f g h (suc (suc zero)) below = c
eight_below P a b c d e f g h (suc (suc (suc zero))) below = d
eight_below P a b c d e f g h (suc (suc (suc (suc zero)))) below = e
eight_below P a b c d e f g h (suc (suc (suc (suc (suc zero))))) below = f
eight_below P a b c d e f g h (suc (suc (suc (suc (suc (suc zero)))))) below = g
eight_below P a b c d e f g h (suc (suc (suc (suc (suc (suc (suc zero))))))) below = h
eight_below P a b c d e f g h (suc (suc (suc (suc (suc (suc (suc (suc k)))))))) below = absurd (omega arith)

-- eight colours of a row, each as a pixel
pub eight_packed : (pixel : Colour → ℕ) {lanes : List ℕ} {read row : List Colour} → lanes ≡ map pixel read →
    read ≡ row → length row ≡ 8 → (k : ℕ) (d : Colour) → k < 8 →
    slice_index lanes k ≡ pixel (slice_index_or row k d)
eight_packed pixel {lanes} {read} {row} is same long k d below =
    ap (λ l. slice_index l k) (is ∙ ap (map pixel) same) ∙ get_or-map pixel row k d 0 (omega (arith, long, below))

-- a row of eight is its eight colours
pub eight_read : (row : List Colour) (none : Colour) → length row ≡ 8 →
    slice_index_or row 0 none ∷ slice_index_or row 1 none ∷ slice_index_or row 2 none ∷ slice_index_or row 3 none
    ∷ slice_index_or row 4 none ∷ slice_index_or row 5 none ∷ slice_index_or row 6 none ∷ slice_index_or row 7 none ∷ []
    ≡ row
eight_read row none long =
    same_lists _ _ (sym long) (λ k d below. eight_below (λ k. slice_index_or (slice_index_or row 0 none
    ∷ slice_index_or row 1 none ∷ slice_index_or row 2 none ∷ slice_index_or row 3 none
    ∷ slice_index_or row 4 none ∷ slice_index_or row 5 none ∷ slice_index_or row 6 none ∷ slice_index_or row 7 none
    ∷ []) k d ≡ slice_index_or row k d)
    (at 0 d (omega arith)) (at 1 d (omega arith)) (at 2 d (omega arith)) (at 3 d (omega arith))
    (at 4 d (omega arith)) (at 5 d (omega arith)) (at 6 d (omega arith)) (at 7 d (omega arith)) k below)
  where
    at : (k : ℕ) (d : Colour) → k < 8 → slice_index_or row k none ≡ slice_index_or row k d
    at k d below = get_or_default row k none d (omega (arith, long, below))

-- eight colours one by one, where a lane of each is its pixel
pub eight_same : (lane pixel : Colour → ℕ) (a b c d e f g h : Colour) → lane a ≡ pixel a → lane b ≡ pixel b →
    lane c ≡ pixel c → lane d ≡ pixel d →
    lane e ≡ pixel e → lane f ≡ pixel f → lane g ≡ pixel g → lane h ≡ pixel h →
    lane a ∷ lane b ∷ lane c ∷ lane d ∷ lane e ∷ lane f ∷ lane g ∷ lane h ∷ []
    ≡ map pixel (a ∷ b ∷ c ∷ d ∷ e ∷ f ∷ g ∷ h ∷ [])
eight_same lane pixel a b c d e f g h is_a is_b is_c is_d is_e is_f is_g is_h =
    rw (is_a, is_b, is_c, is_d, is_e, is_f, is_g, is_h) refl

-- colours of components that fit sixteen bits
pub three_fit : (r g b : ℕ) → Fits w16 r → Fits w16 g → Fits w16 b → IsColour (of_three r g b)
three_fit r g b red green blue = (omega (arith, red.fits), omega (arith, green.fits), omega (arith, blue.fits))

-- the eight colours in three vectors, where a lane of each colour is its pixel
pub eight_in : (lane pixel : Colour → ℕ) → ((c : Colour) → IsColour c → lane c ≡ pixel c) →
    (x y z : List ℕ) → ((i : ℕ) → Fits w16 (slice_index x i)) → ((i : ℕ) → Fits w16 (slice_index y i)) →
    ((i : ℕ) → Fits w16 (slice_index z i)) → map lane (colours_in x y z) ≡ map pixel (colours_in x y z)
eight_in lane pixel is x y z in_x in_y in_z =
    eight_same lane pixel _ _ _ _ _ _ _ _
    (is _ (three_fit _ _ _ (in_x 0) (in_x 1) (in_x 2)))
    (is _ (three_fit _ _ _ (in_x 3) (in_x 4) (in_x 5)))
    (is _ (three_fit _ _ _ (in_x 6) (in_x 7) (in_y 0)))
    (is _ (three_fit _ _ _ (in_y 1) (in_y 2) (in_y 3)))
    (is _ (three_fit _ _ _ (in_y 4) (in_y 5) (in_y 6)))
    (is _ (three_fit _ _ _ (in_y 7) (in_z 0) (in_z 1)))
    (is _ (three_fit _ _ _ (in_z 2) (in_z 3) (in_z 4)))
    (is _ (three_fit _ _ _ (in_z 5) (in_z 6) (in_z 7)))

-- a row whose pixels are all packed
pub packed_whole : (f : PixelFormat) (colours : List Colour) (pixels : List ℕ) (n : ℕ) → n ≡ length colours →
    length pixels ≡ length colours → ArePacked f n colours pixels → pixels ≡ map (pixel_of f) colours
packed_whole f colours pixels n all long packed =
    let none : Colour = record { r = 0; g = 0; b = 0 } in
    same_number_lists pixels (map (pixel_of f) colours) (omega (arith, long, length-map colours (pixel_of f)))
    (λ k below. (packed k none (omega (arith, all, long, below))).0
    ∙ sym (get_or-map (pixel_of f) colours k none 0 (omega (arith, long, below))))
