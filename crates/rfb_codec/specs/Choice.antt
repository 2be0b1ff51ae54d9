-- This project's rule for senders: which background is chosen for the pixels of a block or a tile,
-- and which subrectangles over it; and when RRE gives a block up. Pixels are row by row.
use Rattle.std.specs.Prelude.{◌≡◌, ◌≢◌, ℕ, ◌+◌, ◌*◌, ◌<◌, ◌≤◌, ◌||◌, ◌⊎◌, Bool, false, nat_eq, count_by, List, [], ◌∷◌}
use Rattle.std.specs.Prelude.{◌++◌, length, slice_index}
use Rattle.std.specs.List.{flat_map}
use Rattle.byteorder.specs.Endian.{big_bytes}
use Rattle.rfb_pixel.specs.Format.{PixelFormat, size_of, pixel_bytes}
use Rattle.rfb_picture.specs.Rect.{contains}
use Rattle.rfb_picture.specs.Grid.{Grid}
use Rattle.rfb_wire.specs.Fields.{rect_bytes}
use Rattle.rfb_wire.specs.RectHead.{IsOnScreen}
use Rattle.rfb_codec.specs.declared.subrect.Subrect.{Subrect}
use Rattle.rfb_codec.specs.Rre.{StandsRre}
use Rattle.rfb_codec.specs.Codec.{raw_of}

-- ---- the background

-- one of the pixels has this value
abbrev pub IsPixelOf : List ℕ → ℕ → Type 0
IsPixelOf pixels pixel = (i : ℕ) × (i < length pixels) × (pixel ≡ slice_index pixels i)

-- how many places have the pixel
abbrev pub places_of : ℕ → List ℕ → ℕ
places_of pixel pixels = count_by (λ p. nat_eq p pixel) pixels

-- it is the pixel that the most places have, and the least of those that as many have
pub record IsBackground (pixels : List ℕ) (pixel : ℕ) : Type 0 where
  pub there : IsPixelOf pixels pixel
  pub most : (other : ℕ) → IsPixelOf pixels other → places_of other pixels ≤ places_of pixel pixels
  pub least : (other : ℕ) → IsPixelOf pixels other →
      places_of other pixels ≡ places_of pixel pixels → pixel ≤ other

-- ---- the subrectangles

-- a place lies in one of them
abbrev pub is_in_any : List Subrect → ℕ → ℕ → Bool
is_in_any [] x y = false
is_in_any (s ∷ subs) x y = contains s.rect x y || is_in_any subs x y

-- the place has another pixel than the background, and lies in none of them
abbrev pub IsLeft : ℕ → List ℕ → ℕ → List Subrect → ℕ → ℕ → Type 0
IsLeft width pixels background subs x y =
    (slice_index pixels (y * width + x) ≢ background) × (is_in_any subs x y ≡ false)

-- place (i, j) comes before place (x, y): rows go from the top, each from the left
abbrev pub IsBefore : ℕ → ℕ → ℕ → ℕ → Type 0
IsBefore i j x y = (j < y) ⊎ ((j ≡ y) × (i < x))

-- the place has that pixel, and lies in none of them
abbrev pub IsFree : ℕ → List ℕ → List Subrect → ℕ → ℕ → ℕ → Type 0
IsFree width pixels subs pixel x y =
    (slice_index pixels (y * width + x) ≡ pixel) × (is_in_any subs x y ≡ false)

-- all places of row y from column x up to end are so
abbrev pub IsFreeRun : ℕ → List ℕ → List Subrect → ℕ → ℕ → ℕ → ℕ → Type 0
IsFreeRun width pixels subs pixel x end y =
    (i : ℕ) → x ≤ i → i < end → IsFree width pixels subs pixel i y

-- after those subrectangles comes this one. It begins at the first place that is left, and has its
-- pixel. Its first row is the longest run of free places. As many further rows belong to it as are
-- free under the whole run
pub record IsNextSub (width height : ℕ) (pixels : List ℕ) (background : ℕ) (before : List Subrect)
    (s : Subrect) : Type 0 where
  pub inside : IsOnScreen width height s.rect
  pub wide : 0 < s.rect.w
  pub high : 0 < s.rect.h
  pub left : IsLeft width pixels background before s.rect.x s.rect.y
  pub first : (x y : ℕ) → x < width → y < height → IsBefore x y s.rect.x s.rect.y →
      IsLeft width pixels background before x y → ⊥
  pub pixel : s.pixel ≡ slice_index pixels (s.rect.y * width + s.rect.x)
  pub rows : (y : ℕ) → s.rect.y ≤ y → y < s.rect.y + s.rect.h →
      IsFreeRun width pixels before s.pixel s.rect.x (s.rect.x + s.rect.w) y
  pub longest : s.rect.x + s.rect.w < width →
      IsFree width pixels before s.pixel (s.rect.x + s.rect.w) s.rect.y → ⊥
  pub lowest : s.rect.y + s.rect.h < height →
      IsFreeRun width pixels before s.pixel s.rect.x (s.rect.x + s.rect.w)
      (s.rect.y + s.rect.h) → ⊥

-- after those come these, one after another
abbrev pub AreNextSubs : ℕ → ℕ → List ℕ → ℕ → List Subrect → List Subrect → Type 0
AreNextSubs width height pixels background before [] = Unit {0}
AreNextSubs width height pixels background before (s ∷ subs) =
    IsNextSub width height pixels background before s ×
    AreNextSubs width height pixels background (before ++ s ∷ []) subs

-- they are the subrectangles of the rule: no place is left after them
pub record AreRuleSubs (width height : ℕ) (pixels : List ℕ) (background : ℕ) (subs : List Subrect)
    : Type 0 where
  pub each : AreNextSubs width height pixels background [] subs
  pub none : (x y : ℕ) → x < width → y < height → IsLeft width pixels background subs x y → ⊥

-- ---- RRE

-- the block's background and subrectangles are those of the rule
pub record IsRuleChoice (block : Grid ℕ) (background : ℕ) (subs : List Subrect) : Type 0 where
  pub background_is : IsBackground block.places background
  pub subs_are : AreRuleSubs block.width block.height block.places background subs

-- the bytes that a subrectangle is sent as
abbrev pub subrect_bytes : PixelFormat → Subrect → List ℕ
subrect_bytes f s = pixel_bytes f s.pixel ++ rect_bytes s.rect

-- those of all data: how many subrectangles there are, the background, and they
abbrev pub rre_bytes : PixelFormat → ℕ → List Subrect → List ℕ
rre_bytes f background subs =
    (big_bytes 4 (length subs) ++ pixel_bytes f background) ++ flat_map (subrect_bytes f) subs

-- the bytes stand for the block, by the rule: they are those of its choice, and no others
pub record StandsRreByRule (f : PixelFormat) (block : Grid ℕ) (bytes : List ℕ) : Type 0 where
  pub stands : StandsRre f block bytes
  pub choice : IsRuleChoice block stands.background stands.subs
  pub bytes_are : bytes ≡ rre_bytes f stands.background stands.subs

-- by the rule the data would be no shorter than Raw
abbrev pub IsNoShorter : PixelFormat → Grid ℕ → Type 0
IsNoShorter f block = (background : ℕ) (subs : List Subrect) →
    IsRuleChoice block background subs →
    raw_of f block ≤ 4 + size_of f + length subs * (size_of f + 8)
