-- Laws of the bytes that a cover is written as.
use Rattle.std.proofs.Common.{◌≡◌, ℕ, ◌+◌, ◌*◌, ◌/◌, ◌^◌, ◌<◌, ◌≤◌, List, [], ◌∷◌, ◌++◌, length, arith, refl, ap, ◌∙◌}
use Rattle.std.proofs.Common.{sym, append-nil, length-append, slice_index}
use Rattle.std.proofs.Math.Nat.{mod-eq_of_lt, mul-le-mul_right}
use Rattle.std.proofs.lemmas.Nat.{div_below}
use Rattle.std.proofs.lemmas.List.{drop_at, get_or_default}
use Rattle.std.specs.List.{flat_map}
use Rattle.byteorder.specs.Endian.{big_bytes}
use Rattle.byteorder.specs.Numbers.{big_number-reads_back}
use Rattle.rfb_pixel.specs.Format.{PixelFormat, size_of, pixel_bytes, pixel_number}
use Rattle.rfb_pixel.proofs.FormatLaws.{pixel_number-pixel_bytes}
use Rattle.rfb_picture.specs.declared.rect.Rect.{Rect}
use Rattle.rfb_picture.specs.Grid.{Grid, IsGrid}
use Rattle.rfb_picture.proofs.GridLaws.{place_below}
use Rattle.rfb_wire.specs.Fields.{IsRectAt, rect_bytes}
use Rattle.rfb_wire.specs.stream.Prefix.{Listed}
use Rattle.rfb_wire.specs.RectHead.{IsOnScreen}
use Rattle.rfb_codec.specs.declared.subrect.Subrect.{Subrect}
use Rattle.rfb_codec.specs.Pixels.{IsPixel, HasPixels}
use Rattle.rfb_codec.specs.Rre.{SpellsRreHead, SpellsSubrect, SpellsInside}
use Rattle.rfb_codec.specs.Choice.{IsPixelOf, IsBackground, AreRuleSubs, subrect_bytes, StandsRreByRule}
use Rattle.rfb_codec.specs.declared.choice.palette.Palette.TheVariants.{One}
use Rattle.rfb_codec.specs.encoder.Cover.{ArePartsOf, IsCover}
use Rattle.rfb_codec.specs.encoder.Palette.{HasPalette}
use Rattle.rfb_codec.proofs.PixelLemmas.{length-pixel_bytes}

-- a pixel of the format is read back from its bytes
pub pixel_read : (f : PixelFormat) (pixel : ℕ) (rest : List ℕ) → IsPixel f pixel →
    pixel_number f (pixel_bytes f pixel ++ rest) ≡ pixel
pixel_read f pixel rest small = pixel_number-pixel_bytes f pixel rest ∙ mod-eq_of_lt small

-- one of a block's pixels is one of the format
pub pixel_of_block : (f : PixelFormat) (block : Grid ℕ) (pixel : ℕ) → HasPixels f block →
    IsPixelOf block.places pixel → IsPixel f pixel
pixel_of_block f block pixel small is = rw (is.2) (small is.0)

-- a rectangle is read back from its bytes
rect_read : (rect : Rect) → rect.x < 65536 → rect.y < 65536 → rect.w < 65536 → rect.h < 65536 →
    IsRectAt 0 rect (rect_bytes rect)
rect_read rect x y w h = record {
  x_position = big_number-reads_back 2 rect.x [] x;
  y_position = big_number-reads_back 2 rect.y [] y;
  width = big_number-reads_back 2 rect.w [] w;
  height = big_number-reads_back 2 rect.h [] h;
}

-- how many bytes a subrectangle has
pub length-subrect : (f : PixelFormat) (s : Subrect) → length (subrect_bytes f s) ≡ size_of f + 8
length-subrect f s = let pixel = length-pixel_bytes f s.pixel in rw length-append (omega (arith, pixel))

-- it is read back from them
subrect_read : (f : PixelFormat) (s : Subrect) → IsPixel f s.pixel → IsOnScreen 64 64 s.rect →
    SpellsSubrect f s (subrect_bytes f s)
subrect_read f s small inside = record {
  size = length-subrect f s;
  pixel_is = pixel_read f s.pixel (rect_bytes s.rect) small;
  rect_is = rw (drop_at (pixel_bytes f s.pixel) (rect_bytes s.rect) (size_of f) (length-pixel_bytes f s.pixel))
      (rect_read s.rect (omega arith) (omega arith) (omega arith) (omega arith));
}

-- how many bytes subrectangles have
pub length-subrects : (f : PixelFormat) (subs : List Subrect) →
    length (flat_map (subrect_bytes f) subs) ≡ length subs * (size_of f + 8)
length-subrects f [] = omega arith
length-subrects f (s ∷ subs) =
    let here = length-subrect f s in
    let more = length-subrects f subs in
    rw length-append (omega (arith, here, more))

-- the parts of a block are listed
subrects_listed : (f : PixelFormat) (block : Grid ℕ) (background : ℕ) (subs : List Subrect) → block.width ≤ 64 →
    block.height ≤ 64 → HasPixels f block → ArePartsOf block.width block.height block.places background subs →
    Listed (SpellsInside f block.width block.height) subs (flat_map (subrect_bytes f) subs)
subrects_listed f block background [] wide high small parts = refl
subrects_listed f block background (s ∷ subs) wide high small parts =
    let inside : IsOnScreen 64 64 s.rect = (omega (arith, parts.0.inside), omega (arith, parts.0.inside)) in (
      subrect_bytes f s,
      flat_map (subrect_bytes f) subs,
      refl,
      (subrect_read f s (pixel_of_block f block s.pixel small parts.0.pixel) inside, parts.0.inside),
      subrects_listed f block background subs wide high small parts.1,
    )

-- the bytes of a head
abbrev pub rre_head : PixelFormat → ℕ → ℕ → List ℕ
rre_head f count background = big_bytes 4 count ++ pixel_bytes f background

head_read : (f : PixelFormat) (count background : ℕ) → count < 2 ^ 32 → IsPixel f background →
    SpellsRreHead f count background (rre_head f count background)
head_read f count background few small = record {
  size = let pixel = length-pixel_bytes f background in omega (arith, pixel);
  count_is = big_number-reads_back 4 count (pixel_bytes f background) few;
  background_is = ap (pixel_number f) (sym (append-nil (pixel_bytes f background))) ∙ pixel_read f background [] small;
}

-- the bytes of the rule's cover stand for the block, by the rule
pub stands_rre : (f : PixelFormat) (block : Grid ℕ) (background : ℕ) (subs : List Subrect) →
    IsGrid block → block.width ≤ 64 → block.height ≤ 64 → length subs < 2 ^ 32 → HasPixels f block →
    IsBackground block.places background → IsCover block.width block.height block.places background subs →
    AreRuleSubs block.width block.height block.places background subs →
    StandsRreByRule f block (rre_head f (length subs) background ++ flat_map (subrect_bytes f) subs)
stands_rre f block background subs whole wide high few small chosen cover rule = record {
  stands = record {
    background = background;
    subs = subs;
    head = rre_head f (length subs) background;
    list = flat_map (subrect_bytes f) subs;
    whole = refl;
    head_is = head_read f (length subs) background few (pixel_of_block f block background small chosen.there);
    listed = subrects_listed f block background subs wide high small cover.parts;
    shows = λ x y d left below.
        let under = place_below block.width block.height x y left below in
        get_or_default block.places (y * block.width + x) d 0 (omega (arith, whole)) ∙ sym (cover.shows x y left below);
  };
  choice = record { background_is = chosen; subs_are = rule };
  bytes_are = refl;
}

-- where fewer subrectangles than this are shorter than Raw, a third of the places is no fewer
pub limit_fits : (places size n : ℕ) → places ≤ 3 * n → size ≤ 4 → places * size / (size + 8) ≤ n
limit_fits places size n few small =
    let bytes : places * size ≤ 3 * n * size = mul-le-mul_right size few in
    let pixels : size * n ≤ 4 * n = mul-le-mul_right n small in
    let below : places * size / (size + 8) < n + 1 =
    div_below (places * size) (size + 8) (n + 1) (omega arith) (omega (arith, bytes, pixels)) in
    omega arith

-- of a block of one pixel no subrectangle is needed
pub none_needed : (width height : ℕ) (pixels : List ℕ) (pixel : ℕ) → length pixels ≡ height * width →
    HasPalette (One pixel) pixels → AreRuleSubs width height pixels pixel [] × IsCover width height pixels pixel []
none_needed width height pixels pixel whole one =
    let there : (x y : ℕ) → x < width → y < height → slice_index pixels (y * width + x) ≡ pixel =
    λ x y left below. let under = place_below width height x y left below in
    one (y * width + x) (omega (arith, whole)) in (
      record { each = tt; none = λ x y left below is. is.0 (there x y left below) },
      record { parts = tt; shows = λ x y left below. sym (there x y left below) },
    )
