-- Rows of pixels put one after another.
use Rattle.std.proofs.Common.{◌≡◌, ℕ, ◌+◌, ◌-◌, ◌*◌, ◌<◌, ◌≤◌, inl, inr, List, ◌++◌, length, map, take, get_or}
use Rattle.std.proofs.Common.{slice_index, ◌∙◌, ap, sym, arith, length-append, length-take, get_or-take}
use Rattle.std.proofs.Common.{take-take}
use Rattle.std.proofs.Math.Pow.{pow_pos}
use Rattle.std.proofs.lemmas.Bool.{cases_lt}
use Rattle.std.proofs.lemmas.List.{get_or_append_left, get_or-append-add, get_or-map, get_or_default, get_or_past}
use Rattle.std.proofs.lemmas.List.{length-take-le, length-map}
use Rattle.std.proofs.lemmas.Slice.{take-put_mid}
use borrow.Rule.Slice.PartMut.{put_mid}
use Rattle.rfb_pixel.specs.declared.colour.Colour.{Colour}
use Rattle.rfb_pixel.specs.Format.{PixelFormat, pixel_of, ArePixels, size_of}
use Rattle.rfb_picture.specs.declared.rect.Rect.{Rect}
use Rattle.rfb_picture.specs.Grid.{Grid, grid, row_of}
use Rattle.rfb_picture.proofs.GridLaws.{place_below, slice_index_or-row_of}
use Rattle.rfb_codec.specs.Pixels.{IsPixel}
use Rattle.rfb_codec.specs.encoder.Encode.{PacksRows}
use Rattle.rfb_codec.specs.Codec.{PacksRect}

-- one row more of a rectangle, of which `span` columns are packed
rows_packed_by : (f : PixelFormat) (picture : Grid Colour) (rect : Rect) (n span : ℕ)
    (old row : List ℕ) (colours : List Colour) →
    length old ≡ n * rect.w → rect.w ≤ span → length colours ≡ span →
    colours ≡ row_of picture rect.x (rect.y + n) span → row ≡ map (pixel_of f) colours →
    PacksRows f picture rect n old → PacksRows f picture rect (n + 1) (old ++ row)
rows_packed_by f picture rect n span old row colours size more wide are is before x y d p q = elim (cases_lt y n) [
  | inl above ↦
      let below = place_below rect.w n x y p above in
      get_or_append_left old row 0 (y * rect.w + x) (omega (arith, size, below)) ∙ before x y d p above
  | inr from ↦
      let same : y ≡ n = omega arith in
      let within : x < length colours = omega (arith, wide, more) in
      rw same
      (ap (λ (k : ℕ). get_or (old ++ row) (k + x) 0) (sym size) ∙ get_or-append-add old row x 0
      ∙ ap (λ (xs : List ℕ). get_or xs x 0) is ∙ get_or-map (pixel_of f) colours x d 0 within
      ∙ ap (λ (xs : List Colour). pixel_of f (get_or xs x d)) are
      ∙ ap (pixel_of f) (slice_index_or-row_of picture rect.x (rect.y + n) span x d (omega (arith, more))))
]

-- the same of the rectangle's own columns
pub rows_packed : (f : PixelFormat) (picture : Grid Colour) (rect : Rect) (n : ℕ)
    (old row : List ℕ) (colours : List Colour) →
    length old ≡ n * rect.w → length colours ≡ rect.w →
    colours ≡ row_of picture rect.x (rect.y + n) rect.w → row ≡ map (pixel_of f) colours →
    PacksRows f picture rect n old → PacksRows f picture rect (n + 1) (old ++ row)
rows_packed f picture rect n old row colours size wide are is before =
    rows_packed_by f picture rect n rect.w old row colours size (omega arith) wide are is before

-- pixels after pixels
pub pixels_after : (f : PixelFormat) (old row : List ℕ) → ArePixels f old → ArePixels f row → ArePixels f (old ++ row)
pixels_after f old row before here i within = elim (cases_lt i (length old)) [
  | inl above ↦ rw (get_or_append_left old row 0 i above) (before i above)
  | inr from ↦
      let split : i ≡ length old + (i - length old) = omega arith in
      let all = length-append old row in
      rw split (rw (get_or-append-add old row (i - length old) 0) (here (i - length old) (omega (arith, all))))
]

-- the first pixels alone
first_packed : (f : PixelFormat) (picture : Grid Colour) (rect : Rect) (n : ℕ) (pixels : List ℕ) →
    PacksRows f picture rect n pixels → PacksRows f picture rect n (take (n * rect.w) pixels)
first_packed f picture rect n pixels rows x y d p q =
    let below = place_below rect.w n x y p q in
    get_or-take (n * rect.w) pixels (y * rect.w + x) 0 below ∙ rows x y d p q

first_pixels : (f : PixelFormat) (n : ℕ) (pixels : List ℕ) → ArePixels f pixels → ArePixels f (take n pixels)
first_pixels f n pixels are i within =
    let size = length-take n pixels in
    rw (get_or-take n pixels i 0 (omega (arith, size))) (are i (omega (arith, size)))

-- a row of `span` columns written after the rows before it is one row more of the first pixels
pub row_written : (f : PixelFormat) (picture : Grid Colour) (rect : Rect) (n start k span : ℕ)
    (pixels row : List ℕ) (colours : List Colour) →
    start ≡ n * rect.w → rect.w ≤ span → start + span ≤ length pixels → length colours ≡ span →
    colours ≡ row_of picture rect.x (rect.y + n) span → row ≡ map (pixel_of f) colours →
    PacksRows f picture rect n (take (n * rect.w) pixels) × ArePixels f (take (n * rect.w) pixels) → ArePixels f row →
    PacksRows f picture rect (n + 1) (take ((n + 1) * rect.w) (put_mid start k pixels row))
    × ArePixels f (take ((n + 1) * rect.w) (put_mid start k pixels row))
row_written f picture rect n start k span pixels row colours at more room wide are is before fit =
    let long : length row ≡ span = ap length is ∙ length-map colours (pixel_of f) ∙ wide in
    let within : start ≤ length pixels = omega (arith, room) in
    let size : length (take (n * rect.w) pixels) ≡ n * rect.w =
    length-take-le (n * rect.w) pixels (omega (arith, at, within)) in
    let all = take-put_mid start k pixels row (start + span) (omega (arith, long)) within in
    let end : ℕ = (n + 1) * rect.w in
    let part : take end (put_mid start k pixels row) ≡ take end (take start pixels ++ row) =
    sym (take-take end (start + span) (put_mid start k pixels row) (omega (arith, at, more)))
    ∙ ap (λ (xs : List ℕ). take end xs) all in
    rw (part, at) (
      first_packed f picture rect (n + 1) (take (n * rect.w) pixels ++ row)
          (rows_packed_by f picture rect n span (take (n * rect.w) pixels) row colours size more wide are is before.0),
      first_pixels f ((n + 1) * rect.w) (take (n * rect.w) pixels ++ row)
          (pixels_after f (take (n * rect.w) pixels) row before.1 fit),
    )

-- past the end there is none, and 0 is one
pub pixels_everywhere : (f : PixelFormat) (pixels : List ℕ) → ArePixels f pixels → (i : ℕ) →
    IsPixel f (slice_index pixels i)
pixels_everywhere f pixels are i = elim (cases_lt i (length pixels)) [
  | inl within ↦ are i within
  | inr past ↦ rw (get_or_past pixels i 0 past) (pow_pos (8 * size_of f))
]

-- as many pixels as the rectangle has places are its block
pub packed_grid : (f : PixelFormat) (picture : Grid Colour) (rect : Rect) (pixels : List ℕ) →
    length pixels ≡ rect.h * rect.w → PacksRows f picture rect rect.h pixels →
    PacksRect f picture rect (grid rect.w rect.h pixels)
packed_grid f picture rect pixels size rows x y d e p q =
    let below = place_below rect.w rect.h x y p q in
    get_or_default pixels (y * rect.w + x) e 0 (omega (arith, size, below)) ∙ rows x y d p q
