-- Rows of a screen that are packed, put over a picture of pixels and appended, one after another.
use Rattle.std.proofs.Common.{◌≡◌, ℕ, ◌+◌, ◌-◌, ◌*◌, ◌<◌}
use Rattle.std.proofs.Common.{List, [], ◌++◌, length, map, get_or, take}
use Rattle.std.proofs.Common.{Bool, true, false, if◌then◌else◌, refl, ap, sym, ◌∙◌, arith, append_assoc}
use Rattle.std.proofs.Common.{append-nil, length-append}
use Rattle.std.proofs.lemmas.List.{get_or-map, length-map, take_at}
use Rattle.std.proofs.lemmas.Grind.{flat_map-append}
use Rattle.std.specs.List.{flat_map}
use Rattle.rfb_pixel.specs.declared.colour.Colour.{Colour}
use Rattle.rfb_pixel.specs.Format.{PixelFormat, pixel_of, pixel_bytes, size_of, ArePixels}
use Rattle.rfb_picture.specs.declared.rect.Rect.{Rect}
use Rattle.rfb_picture.specs.Rect.{contains}
use Rattle.rfb_picture.specs.Grid.{Grid, grid, IsGrid, at_or, row_of, with_row}
use Rattle.rfb_picture.proofs.GridLaws.{contains_true, slice_index_or-row_of}
use Rattle.rfb_codec.specs.Codec.{PacksRect}
use Rattle.rfb_codec.specs.encoder.Encode.{PacksRows}
use Rattle.rfb_codec.proofs.BlockLemmas.{rows_packed, pixels_after, pixels_everywhere, packed_grid}
use Rattle.rfb_codec.proofs.PixelLemmas.{stands_raw, length-pixels}
use Rattle.rfb_server.specs.Server.{black}
use Rattle.rfb_server.specs.Request.{wanted_at}
use Rattle.rfb_server.specs.update.Rectangle.{AppendsRaw}
use Rattle.rfb_server.proofs.RecordLemmas.{IsPut, IsRowOf, put_start, put_more}

-- so many rows of the rectangle are packed, put over a picture, and appended
pub record AreSent (f : PixelFormat) (screen : Grid Colour) (rect : Rect) (n : ℕ) (first now : Grid ℕ)
    (before after : List ℕ) : Type 0 where
  pub pixels : List ℕ
  pub long : length pixels ≡ n * rect.w
  pub packed : PacksRows f screen rect n pixels
  pub fits : ArePixels f pixels
  pub put : IsPut rect n (wanted_at screen f) first now
  pub appended : after ≡ before ++ flat_map (pixel_bytes f) pixels

pub none_sent : (f : PixelFormat) (screen : Grid Colour) (rect : Rect) (first : Grid ℕ) (before : List ℕ) →
    IsGrid first → AreSent f screen rect 0 first first before before
none_sent f screen rect first before whole = record {
  pixels = [];
  long = omega arith;
  packed = λ x y d p q. absurd (omega (arith, q));
  fits = λ i within. absurd (omega (arith, within));
  put = put_start rect (wanted_at screen f) first whole;
  appended = sym (append-nil before);
}

-- the pixels of a row of the screen
row_packed : (f : PixelFormat) (screen : Grid Colour) (rect : Rect) (n : ℕ) (row : List ℕ)
    (colours : List Colour) →
    length colours ≡ rect.w → colours ≡ row_of screen rect.x (rect.y + n) rect.w →
    row ≡ map (pixel_of f) colours →
    IsRowOf rect (wanted_at screen f) n row
row_packed f screen rect n row colours wide are is = λ x d left right.
    let within : x - rect.x < length colours = omega (arith, wide, right) in
    let column : rect.x + (x - rect.x) ≡ x = omega (arith, left) in
    ap (λ (xs : List ℕ). get_or xs (x - rect.x) d) is ∙ get_or-map (pixel_of f) colours (x - rect.x) black d within
    ∙ ap (λ (xs : List Colour). pixel_of f (get_or xs (x - rect.x) black)) are
    ∙ ap (pixel_of f) (slice_index_or-row_of screen rect.x (rect.y + n) rect.w (x - rect.x) black right)
    ∙ ap (λ (k : ℕ). pixel_of f (at_or screen k (rect.y + n) black)) column

-- a row stands in front of its room, and its bytes in front of theirs
pub record AreFronts (f : PixelFormat) (columns size : ℕ) (row after bytes beyond : List ℕ) : Type 0 where
  pub row_is : take columns (row ++ after) ≡ row
  pub bytes_are : take (columns * size) (bytes ++ beyond) ≡ flat_map (pixel_bytes f) row
  pub many : length (flat_map (pixel_bytes f) row) ≡ columns * size

pub fronts : (f : PixelFormat) (columns size : ℕ) (row after bytes beyond : List ℕ) (colours : List Colour) →
    length colours ≡ columns → row ≡ map (pixel_of f) colours → size ≡ size_of f →
    bytes ≡ flat_map (pixel_bytes f) (take columns (row ++ after)) → AreFronts f columns size row after bytes beyond
fronts f columns size row after bytes beyond colours wide is sized spelled =
    let long : length row ≡ columns = ap length is ∙ length-map colours (pixel_of f) ∙ wide in
    let row_is : take columns (row ++ after) ≡ row = take_at row after columns long in
    let many : length (flat_map (pixel_bytes f) row) ≡ columns * size =
    rw (← long, sized) (length-pixels f row) in
    let bytes_are : bytes ≡ flat_map (pixel_bytes f) row = spelled ∙ ap (flat_map (pixel_bytes f)) row_is in
    record {
      row_is = row_is;
      bytes_are = take_at bytes beyond (columns * size) (ap length bytes_are ∙ many) ∙ bytes_are;
      many = many;
    }

-- one row more
pub row_sent : (f : PixelFormat) (screen : Grid Colour) (rect : Rect) (n : ℕ) (first now : Grid ℕ)
    (before mid after row : List ℕ) (colours : List Colour) →
    length colours ≡ rect.w → colours ≡ row_of screen rect.x (rect.y + n) rect.w →
    row ≡ map (pixel_of f) colours →
    ArePixels f row → after ≡ mid ++ flat_map (pixel_bytes f) row →
    AreSent f screen rect n first now before mid →
    AreSent f screen rect (n + 1) first (with_row rect.x (rect.y + n) row now) before after
row_sent f screen rect n first now before mid after row colours wide are is fit more sent =
    let long : length row ≡ rect.w = ap length is ∙ length-map colours (pixel_of f) ∙ wide in
    let all = length-append sent.pixels row in
    record {
      pixels = sent.pixels ++ row;
      long = omega (arith, all, long, sent.long);
      packed = rows_packed f screen rect n sent.pixels row colours sent.long wide are is sent.packed;
      fits = pixels_after f sent.pixels row sent.fits fit;
      put = put_more rect n (wanted_at screen f) first now row long (row_packed f screen rect n row colours wide are is)
          sent.put;
      appended = more ∙ ap (λ (xs : List ℕ). xs ++ flat_map (pixel_bytes f) row) sent.appended
          ∙ append_assoc before (flat_map (pixel_bytes f) sent.pixels) (flat_map (pixel_bytes f) row)
          ∙ ap (λ (xs : List ℕ). before ++ xs) (sym (flat_map-append (pixel_bytes f) sent.pixels row));
    }

-- what all rows of the rectangle make
pub rows_sent : (f : PixelFormat) (screen : Grid Colour) (rect : Rect) (first now : Grid ℕ)
    (before after : List ℕ) →
    AreSent f screen rect rect.h first now before after →
    (block : Grid ℕ) × AppendsRaw f screen rect block before after
    × ((x y : ℕ) → x < first.width → y < first.height →
    at_or now x y 0 ≡ (if contains rect x y then at_or block (x - rect.x) (y - rect.y) 0 else at_or first x y 0))
rows_sent f screen rect first now before after sent = (
  block,
  appends,
  λ x y p q.
      sent.put.each x y p q ∙ by x y (contains rect x y) refl,
)
  where
    block : Grid ℕ
    block = grid rect.w rect.h sent.pixels

    packed : PacksRect f screen rect block
    packed = packed_grid f screen rect sent.pixels sent.long sent.packed

    appends : AppendsRaw f screen rect block before after
    appends =
        let stands = stands_raw f block sent.long (pixels_everywhere f sent.pixels sent.fits) in
        record {
          sized = record { width_is = refl; height_is = refl; whole = sent.long };
          packed = packed;
          appended = (flat_map (pixel_bytes f) sent.pixels, sent.appended, stands, omega (arith, stands.size));
        }

    by : (x y : ℕ) (here : Bool) → contains rect x y ≡ here →
        (if here then wanted_at screen f x y else at_or first x y 0)
        ≡ (if here then at_or block (x - rect.x) (y - rect.y) 0 else at_or first x y 0)
    by x y true e =
        let (a, b, c, d) = contains_true rect x y e in
        let column : rect.x + (x - rect.x) ≡ x = omega arith in
        let row : rect.y + (y - rect.y) ≡ y = omega arith in
        let pixel = packed (x - rect.x) (y - rect.y) black 0 (omega arith) (omega arith) in
        sym (rw (column, row) at pixel)
    by x y false e = refl
