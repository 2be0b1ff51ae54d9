-- Laws of the bytes of pixels, one after another.
use Rattle.std.proofs.Common.{◌≡◌, ℕ, zero, suc, ◌+◌, ◌-◌, ◌*◌, ◌%◌, ◌^◌, ◌<◌, ◌≤◌, List, [], ◌∷◌, ◌++◌, Bool, true}
use Rattle.std.proofs.Common.{false, cond, length, take, drop, slice_index, arith, ap, ◌∙◌, sym}
use Rattle.std.proofs.Common.{length-append, append_assoc}
use Rattle.std.proofs.Math.Nat.{mod-eq_of_lt, mul-le-mul_right}
use Rattle.std.proofs.Math.Seq.{take-add}
use Rattle.std.proofs.lemmas.List.{drop_at, drop-drop, get_or_default, length-take-le, length-drop}
use Rattle.std.proofs.lemmas.Grind.{flat_map-append}
use Rattle.std.specs.List.{flat_map}
use Rattle.byteorder.specs.Endian.{big_bytes, little_bytes}
use Rattle.byteorder.specs.Numbers.{length-bytes_high_first, length-bytes_low_first}
use Rattle.rfb_pixel.specs.Format.{PixelFormat, size_of, pixel_bytes, pixel_number}
use Rattle.rfb_pixel.proofs.FormatLaws.{pixel_number-pixel_bytes}
use Rattle.rfb_picture.specs.Grid.{Grid, IsGrid}
use Rattle.rfb_picture.proofs.GridLaws.{place_below}
use Rattle.rfb_codec.specs.Pixels.{HasPixels}
use Rattle.rfb_codec.specs.Raw.{StandsRaw}

-- a pixel has as many bytes as its format says
pub length-pixel_bytes : (f : PixelFormat) (pixel : ℕ) → length (pixel_bytes f pixel) ≡ size_of f
length-pixel_bytes f pixel = ordered f.big_endian
  where
    ordered : (b : Bool) → length (cond b (big_bytes (size_of f) pixel) (little_bytes (size_of f) pixel)) ≡ size_of f
    ordered true = length-bytes_high_first (size_of f) pixel
    ordered false = length-bytes_low_first 0 (size_of f) pixel

-- how many bytes pixels have
pub length-pixels : (f : PixelFormat) (pixels : List ℕ) →
    length (flat_map (pixel_bytes f) pixels) ≡ length pixels * size_of f
length-pixels f [] = omega arith
length-pixels f (p ∷ pixels) =
    let more = length-pixels f pixels in
    let here = length-pixel_bytes f p in
    rw length-append (omega (arith, more, here))

-- after the bytes of the pixels before it, a pixel is read
pub pixel_number-pixels : (f : PixelFormat) (pixels : List ℕ) (i : ℕ) → i < length pixels →
    pixel_number f (drop (i * size_of f) (flat_map (pixel_bytes f) pixels)) ≡ slice_index pixels i % 2 ^ (8 * size_of f)
pixel_number-pixels f [] i within = absurd (omega arith)
pixel_number-pixels f (p ∷ pixels) zero within =
    let none : zero * size_of f ≡ 0 = omega arith in
    ap (λ (n : ℕ). pixel_number f (drop n (flat_map (pixel_bytes f) (p ∷ pixels)))) none
    ∙ pixel_number-pixel_bytes f p (flat_map (pixel_bytes f) pixels)
pixel_number-pixels f (p ∷ pixels) (suc i) within =
    let rest = flat_map (pixel_bytes f) pixels in
    let far : suc i * size_of f ≡ size_of f + i * size_of f = omega arith in
    let below : i < length pixels = omega arith in
    ap (λ (n : ℕ). pixel_number f (drop n (pixel_bytes f p ++ rest))) far
    ∙ ap (pixel_number f) (sym (drop-drop (i * size_of f) (size_of f) (pixel_bytes f p ++ rest))
    ∙ ap (drop (i * size_of f)) (drop_at (pixel_bytes f p) rest (size_of f) (length-pixel_bytes f p)))
    ∙ pixel_number-pixels f pixels i below

-- the bytes of a block's pixels are its Raw data
pub stands_raw : (f : PixelFormat) (block : Grid ℕ) → IsGrid block → HasPixels f block →
    StandsRaw f block (flat_map (pixel_bytes f) block.places)
stands_raw f block whole small = record {
  size = length-pixels f block.places ∙ ap (λ (n : ℕ). n * size_of f) whole;
  shows = λ x y d left below.
      let place = y * block.width + x in
      let under : place < block.height * block.width = place_below block.width block.height x y left below in
      let within : place < length block.places = omega (arith, whole) in
      get_or_default block.places place d 0 within
      ∙ sym (pixel_number-pixels f block.places place within ∙ mod-eq_of_lt (small place));
}

-- ---- part by part

-- a part: it has as many pixels as places, and with the bytes of the pixels before it its bytes are those
-- up to its end, which are no more than all
pub record IsPart (pixels : List ℕ) (start end size : ℕ) : Type 0 where
  pub long : length (take (end - start) (drop start pixels)) ≡ end - start
  pub bytes : start * size + (end - start) * size ≡ end * size
  pub room : end * size ≤ length pixels * size

pub a_part : (pixels : List ℕ) (start end size : ℕ) → start ≤ end → end ≤ length pixels →
    IsPart pixels start end size
a_part pixels start end size l within =
    let rest : end - start ≤ length (drop start pixels) = rw length-drop (omega arith) in
    let split : start + (end - start) ≡ end = omega arith in
    let both : (start + (end - start)) * size ≡ end * size = ap (λ (n : ℕ). n * size) split in
    record {
      long = length-take-le (end - start) (drop start pixels) rest;
      bytes = omega (arith, both);
      room = mul-le-mul_right size within;
    }

-- one part more is appended
pub part_more : (f : PixelFormat) (pixels before : List ℕ) (start end : ℕ) →
    start ≤ end → (before ++ flat_map (pixel_bytes f) (take start pixels)) ++ flat_map (pixel_bytes f)
    (take (end - start) (drop start pixels)) ≡ before ++ flat_map (pixel_bytes f) (take end pixels)
part_more f pixels before start end l =
    let split : start + (end - start) ≡ end = omega arith in
    let whole : take end pixels ≡ take start pixels ++ take (end - start) (drop start pixels) =
    ap (λ (n : ℕ). take n pixels) (sym split) ∙ take-add start (end - start) pixels in
    append_assoc before (flat_map (pixel_bytes f) (take start pixels))
    (flat_map (pixel_bytes f) (take (end - start) (drop start pixels)))
    ∙ ap (λ (more : List ℕ). before ++ more) (sym (ap (flat_map (pixel_bytes f)) whole
    ∙ flat_map-append (pixel_bytes f) (take start pixels) (take (end - start) (drop start pixels))))
