-- Eight pixels of rgb565 as colours.
use Rattle.std.proofs.Common.{◌≡◌, ◌∙◌, ℕ, ◌+◌, ◌-◌, ◌^◌, ◌*◌, ◌/◌, ◌%◌, ◌<◌, zero, suc, List, drop, take, length, ap}
use Rattle.std.proofs.Common.{refl, arith, length-drop}
use Rattle.std.specs.Prelude.{bit_and}
use Rattle.std.proofs.lemmas.Nat.{and_mask}
use Rattle.std.proofs.lemmas.Simd.{below_from_Fits, chunk-fits, get_or_wider}
use Rattle.std.proofs.lemmas.List.{take_all}
use Rattle.byteorder.specs.Endian.{little_number}
use lib.Lanes.{digits_l, number_l}
use lib.ListN.{get_or}
use mir.Syntax.{w8}
use mir.Val.{Fits}
use Rattle.rfb_pixel.specs.Channel.{rescaled}
use Rattle.rfb_pixel.specs.Format.{colour_of, rgb565}
use Rattle.rfb_pixel.specs.bits.Lanes.{of_three}
use Rattle.rfb_pixel.proofs.FormatLemmas.{same_colour}
use Rattle.rfb_pixel.proofs.UnpackLemmas.{two}

pub numbers : (bytes : List ℕ) → length bytes ≡ 16 → ((i : ℕ) → Fits w8 (get_or bytes i 0)) → (k : ℕ) → k < 8 →
    get_or (digits_l 65536 8 (number_l 256 (take 16 bytes))) k 0 ≡ little_number 2 (drop (2 * k) bytes)
numbers bytes long fit k below =
    get_or_wider 256 2 65536 8 (take 16 bytes) k refl
    (below_from_Fits w8 (take 16 bytes) (chunk-fits w8 0 16 bytes fit)) below
    ∙ ap (λ l. number_l 256 (take 2 (drop (2 * k) l))) (take_all 16 bytes (omega (arith, long)))
    ∙ two (drop (2 * k) bytes) (omega (arith, length-drop (2 * k) bytes))

-- each of them fits two bytes
digits_below : (n x k : ℕ) → get_or (digits_l 65536 n x) k 0 < 65536
digits_below zero x k = omega arith
digits_below (suc n) x zero = omega arith
digits_below (suc n) x (suc k) = digits_below n (x / 65536) k

pub numbers_below : (bytes : List ℕ) → (k : ℕ) → get_or (digits_l 65536 8 (number_l 256 (take 16 bytes))) k 0 < 65536
numbers_below bytes k = digits_below 8 (number_l 256 (take 16 bytes)) k

-- a field at its place in the pixel
abbrev pub field : ℕ → ℕ → ℕ → ℕ
field high low p = (bit_and p high + (65536 - bit_and (bit_and p high) low)) % 65536

-- and its component
abbrev pub component : ℕ → ℕ → ℕ → ℕ → ℕ
component scale bias factor q = (q * scale % 65536 + (q + bias) % 65536 * factor % 4294967296 / 65536) % 65536

upper_five : (v : ℕ) → v < 32 → component 1 0 2114 (v * 2048) ≡ rescaled 31 65535 v
upper_five v small = omega (arith, small)

middle_six : (v : ℕ) → v < 64 → component 32 1 33255 (v * 32) ≡ rescaled 63 65535 v
middle_six v small = omega (arith, small)

lower_five : (v : ℕ) → v < 32 → component 2114 0 4096 v ≡ rescaled 31 65535 v
lower_five v small = omega (arith, small)

red_in : (p : ℕ) → p < 65536 → component 1 0 2114 (field 65535 2047 p) ≡ rescaled 31 65535 (p / 2048 % 32)
red_in p fits =
    let is : field 65535 2047 p ≡ p / 2048 % 32 * 2048 =
    rw (and_mask p 16, and_mask (p % 2 ^ 16) 11) (omega (arith, fits)) in
    ap (component 1 0 2114) is ∙ upper_five (p / 2048 % 32) (omega arith)

green_in : (p : ℕ) → p < 65536 → component 32 1 33255 (field 2047 31 p) ≡ rescaled 63 65535 (p / 32 % 64)
green_in p fits =
    let is : field 2047 31 p ≡ p / 32 % 64 * 32 = rw (and_mask p 11, and_mask (p % 2 ^ 11) 5) (omega (arith, fits)) in
    ap (component 32 1 33255) is ∙ middle_six (p / 32 % 64) (omega arith)

blue_in : (p : ℕ) → p < 65536 → component 2114 0 4096 (field 31 0 p) ≡ rescaled 31 65535 (p / 1 % 32)
blue_in p fits =
    let is : field 31 0 p ≡ p / 1 % 32 = rw (and_mask p 5, and_mask (p % 2 ^ 5) 0) (omega (arith, fits)) in
    ap (component 2114 0 4096) is ∙ lower_five (p / 1 % 32) (omega arith)

-- three lanes of a pixel are its colour
pub shown : (p q : ℕ) → p < 65536 → p ≡ q →
    of_three (component 1 0 2114 (field 65535 2047 p)) (component 32 1 33255 (field 2047 31 p))
    (component 2114 0 4096 (field 31 0 p)) ≡ colour_of rgb565 q
shown p q fits is =
    same_colour _ (colour_of rgb565 p) (red_in p fits) (green_in p fits) (blue_in p fits) ∙ ap (colour_of rgb565) is
