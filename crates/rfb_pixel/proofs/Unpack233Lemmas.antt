-- Eight pixels of bgr233 as colours.
use Rattle.std.proofs.Common.{◌≡◌, ◌∙◌, ℕ, ◌+◌, ◌*◌, ◌/◌, ◌%◌, ◌<◌, List, drop, sym, ap, arith}
use Rattle.std.proofs.lemmas.List.{get_or-drop}
use Rattle.std.proofs.lemmas.Nat.{and_mask}
use lib.ListN.{get_or}
use mir.Syntax.{w8}
use mir.Val.{Fits}
use Rattle.rfb_pixel.specs.Channel.{rescaled}
use Rattle.rfb_pixel.specs.Format.{colour_of, pixel_number, bgr233}
use Rattle.rfb_pixel.specs.bits.Lanes.{of_three}
use Rattle.rfb_pixel.proofs.FormatLemmas.{same_colour}
use Rattle.rfb_pixel.proofs.UnpackLemmas.{upper}

-- a field in the upper bits of a lane, as a component
abbrev pub component : ℕ → ℕ → ℕ
component factor x = (x + x * factor % 4294967296 / 65536) % 65536

three : (v : ℕ) → v < 8 → component 9362 (v * 8192) ≡ rescaled 7 65535 v
three v small = omega (arith, small)

two : (v : ℕ) → v < 4 → component 21845 (v * 16384) ≡ rescaled 3 65535 v
two v small = omega (arith, small)

red_in : (p : ℕ) → p < 256 → component 9362 (upper 8192 8191 p) ≡ rescaled 7 65535 (p / 1 % 8)
red_in p fits =
    let is : upper 8192 8191 p ≡ p / 1 % 8 * 8192 = rw (and_mask (p * 8192 % 65536) 13) (omega (arith, fits)) in
    ap (component 9362) is ∙ three (p / 1 % 8) (omega arith)

green_in : (p : ℕ) → p < 256 → component 9362 (upper 1024 8191 p) ≡ rescaled 7 65535 (p / 8 % 8)
green_in p fits =
    let is : upper 1024 8191 p ≡ p / 8 % 8 * 8192 = rw (and_mask (p * 1024 % 65536) 13) (omega (arith, fits)) in
    ap (component 9362) is ∙ three (p / 8 % 8) (omega arith)

blue_in : (p : ℕ) → p < 256 → component 21845 (upper 256 16383 p) ≡ rescaled 3 65535 (p / 64 % 4)
blue_in p fits =
    let is : upper 256 16383 p ≡ p / 64 % 4 * 16384 = rw (and_mask (p * 256 % 65536) 14) (omega (arith, fits)) in
    ap (component 21845) is ∙ two (p / 64 % 4) (omega arith)

-- three lanes of a pixel are its colour
pub shown : (bytes : List ℕ) (k : ℕ) → Fits w8 (get_or bytes k 0) →
    of_three (component 9362 (upper 8192 8191 (get_or bytes k 0))) (component 9362 (upper 1024 8191 (get_or bytes k 0)))
    (component 21845 (upper 256 16383 (get_or bytes k 0))) ≡ colour_of bgr233 (pixel_number bgr233 (drop (k * 1) bytes))
shown bytes k fit =
    let p = get_or bytes k 0 in
    let one : k * 1 ≡ k = omega arith in
    let none : k + 0 ≡ k = omega arith in
    let first : get_or (drop k bytes) 0 0 ≡ p = get_or-drop k bytes 0 0 ∙ ap (λ i. get_or bytes i 0) none in
    let is : pixel_number bgr233 (drop (k * 1) bytes) ≡ p = rw one (omega (arith, first)) in
    same_colour _ (colour_of bgr233 p) (red_in p fit.fits) (green_in p fit.fits) (blue_in p fit.fits)
    ∙ ap (colour_of bgr233) (sym is)
