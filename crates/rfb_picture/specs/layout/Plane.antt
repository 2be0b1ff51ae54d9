-- How a `Plane` holds which places are marked, as bits of words: a row is `across` words wide. No
-- public clause reads these words.
use Rattle.std.specs.Prelude.{ℕ, Bool, true, false, List, ◌≡◌, ◌+◌, ◌*◌, ◌/◌, ◌%◌, ◌^◌, ◌<◌, ◌≤◌, ◌&&◌, ◌||◌, length}
use Rattle.std.specs.Prelude.{nat_eq, nat_le, nat_lt, not, slice_index_or}
use Rattle.rfb_picture.specs.declared.rect.Rect.{Rect}
use Rattle.rfb_picture.specs.Rect.{contains}
use Rattle.rfb_picture.specs.Grid.{Grid, grid, changed, uniform}
use Rattle.rfb_picture.specs.Places.{has_bit}

-- the places of that width and height, each true where it is marked
abbrev pub marked : ℕ → ℕ → (ℕ → ℕ → Bool) → Grid Bool
marked width height mark =
    grid width height (changed (λ x y _. mark x y) (uniform width height false)).places

-- bit i of word k of row y is set
abbrev pub has_at : List ℕ → ℕ → ℕ → ℕ → ℕ → Bool
has_at words across y k i = has_bit (slice_index_or words (y * across + k) 0) i

-- the mask has bit i, and bit i of word k of row y is set
abbrev pub has_masked : List ℕ → ℕ → ℕ → ℕ → ℕ → ℕ → Bool
has_masked words across k mask y i = has_at words across y k i && has_bit mask i

-- each bit of the mask is set in word k of each row from the first up to another
abbrev pub HasMasked : List ℕ → ℕ → ℕ → ℕ → ℕ → ℕ → Type 0
HasMasked words across k mask from to =
    (y i : ℕ) → from ≤ y → y < to → i < 64 → has_bit mask i ≡ true →
    has_at words across y k i ≡ true

-- row y is from the first up to another, and the word is that of a column of words
abbrev pub in_words : ℕ → ℕ → ℕ → ℕ → ℕ → Bool
in_words column from to k y = nat_eq k column && (nat_le from y && nat_lt y to)

-- the words of a column, from the first row up to another, got the bits of the mask
abbrev pub ColumnAdded : ℕ → ℕ → ℕ → ℕ → ℕ → List ℕ → List ℕ → Type 0
ColumnAdded across column from to mask old new =
    (k y i : ℕ) → k < across →
    has_at new across y k i
    ≡ (has_at old across y k i || (in_words column from to k y && has_bit mask i))

-- the words got the bits of the rectangle's places
abbrev pub PlacesAdded : ℕ → Rect → List ℕ → List ℕ → Type 0
PlacesAdded across rect old new =
    (k y i : ℕ) → k < across → i < 64 →
    has_at new across y k i ≡ (has_at old across y k i || contains rect (k * 64 + i) y)

-- a word has a bit for each place of a column of words from one place up to another
abbrev pub IsBetween : ℕ → ℕ → ℕ → ℕ → Type 0
IsBetween column from to word =
    (i : ℕ) → i < 64 →
    has_bit word i ≡ (nat_le from (column * 64 + i) && nat_lt (column * 64 + i) to)

-- word k of each row from the first up to another lost the bits that the other words have there
abbrev pub ColumnLost : ℕ → ℕ → ℕ → ℕ → List ℕ → List ℕ → List ℕ → Type 0
ColumnLost across column from to other old new =
    (k y i : ℕ) → k < across → i < 64 →
    has_at new across y k i
    ≡ (has_at old across y k i
    && not (in_words column from to k y && has_at other across y k i))

-- so did each word of the rows from the first up to another
abbrev pub RowsLost : ℕ → ℕ → ℕ → List ℕ → List ℕ → List ℕ → Type 0
RowsLost across from to other old new =
    (k y i : ℕ) → k < across → i < 64 →
    has_at new across y k i
    ≡ (has_at old across y k i
    && not ((nat_le from y && nat_lt y to) && has_at other across y k i))

-- the words from one number up to another have no bit, in both of two lists
abbrev pub AreUnused : List ℕ → List ℕ → ℕ → ℕ → Type 0
AreUnused words other from to =
    (i : ℕ) → from ≤ i → i < to →
    (slice_index_or words i 0 ≡ 0) × (slice_index_or other i 0 ≡ 0)

-- place (x, y) is marked: a word holds 64 places of a row, the lowest bit the leftmost place
abbrev pub has_place : List ℕ → ℕ → ℕ → ℕ → Bool
has_place words across x y = has_at words across y (x / 64) (x % 64)

-- the places of that width and height, each true where its bit is set
abbrev pub plane : ℕ → ℕ → ℕ → List ℕ → Grid Bool
plane width height across words = marked width height (has_place words across)

-- the sizes fit 16 bits, a row has as few words as hold its places, and there is a word for each
pub record IsPlane (width height across : ℕ) (words : List ℕ) : Type 0 where
  pub narrow : width < 2 ^ 16
  pub low : height < 2 ^ 16
  pub room : width ≤ across * 64
  pub least : across * 64 < width + 64
  pub size : length words ≡ height * across

-- each row that has a mark is one from the first up to the last
abbrev pub MarksWithin : ℕ → ℕ → ℕ → List ℕ → ℕ → ℕ → Type 0
MarksWithin width height across words first last =
    (x y : ℕ) → x < width → y < height → has_place words across x y ≡ true →
    (first ≤ y) × (y < last)

-- a plane, and the rows that its marks are in
pub record IsSpanned (width height across : ℕ) (words : List ℕ) (first last : ℕ) : Type 0 where
  pub sound : IsPlane width height across words
  pub low : last ≤ height
  pub within : MarksWithin width height across words first last
