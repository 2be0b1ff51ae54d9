-- Colours of three bytes each, of a row of them.
use Rattle.std.proofs.Common.{◌≡◌, ◌∙◌, ℕ, ◌+◌, ◌*◌, ◌<◌, List, drop, take, ap, arith, refl}
use Rattle.std.specs.Prelude.{slice_index}
use Rattle.std.proofs.lemmas.List.{get_or-drop, get_or-take}
use Rattle.rfb_pixel.specs.Bytes.{byte_colour}
use Rattle.rfb_pixel.specs.Format.{colour_of_bytes}

-- a byte of a part that is long enough, which begins at another place
byte_of_part : (bytes : List ℕ) (start part i j : ℕ) → i < part → start + i ≡ j → slice_index (take part
    (drop start bytes)) i ≡ slice_index bytes j
byte_of_part bytes start part i j low same =
    get_or-take part (drop start bytes) i 0 low ∙ get_or-drop start bytes i 0 ∙ ap (slice_index bytes) same

same_bytes : (r g b x y z : ℕ) → r ≡ x → g ≡ y → b ≡ z → colour_of_bytes r g b ≡ colour_of_bytes x y z
same_bytes r g b x y z red green blue = rw (red, green, blue) refl

-- the colour of place k of row n, by the bytes of that row
pub byte_colour_of_row : (bytes : List ℕ) (n w k n' w' part : ℕ) → n' ≡ n → w' ≡ w → part ≡ w' * 3 → k < w →
    byte_colour (take part (drop (n' * (w' * 3)) bytes)) k ≡ byte_colour bytes (n * w + k)
byte_colour_of_row bytes n w k n' w' part rows columns parts below =
    let start = n' * (w' * 3) in
    let from : start ≡ 3 * (n * w) = rw (rows, columns) (omega arith) in
    same_bytes _ _ _ _ _ _
    (byte_of_part bytes start part (3 * k) (3 * (n * w + k)) (omega (arith, parts, columns, below)) (omega
    (arith, from)))
    (byte_of_part bytes start part (3 * k + 1) (3 * (n * w + k) + 1) (omega (arith, parts, columns, below)) (omega
    (arith, from)))
    (byte_of_part bytes start part (3 * k + 2) (3 * (n * w + k) + 2) (omega (arith, parts, columns, below)) (omega
    (arith, from)))
