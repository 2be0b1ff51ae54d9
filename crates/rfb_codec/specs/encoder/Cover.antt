-- The cover of a block over its background: subrectangles that with it show the block.
-- No public clause reads these words.
use Rattle.std.specs.Prelude.{◌≡◌, ◌≢◌, ℕ, ◌+◌, ◌*◌, ◌<◌, ◌≤◌}
use Rattle.std.specs.Prelude.{◌==◌, ◌&&◌, ◌||◌, not, nat_le, nat_lt}
use Rattle.std.specs.Prelude.{List, [], ◌∷◌, length, slice_index}
use Rattle.rfb_picture.specs.Places.{has_bit}
use Rattle.rfb_wire.specs.RectHead.{IsOnScreen}
use Rattle.rfb_codec.specs.declared.subrect.Subrect.{Subrect}
use Rattle.rfb_codec.specs.Rre.{pixel_at}
use Rattle.rfb_codec.specs.Choice.{IsPixelOf, IsLeft, AreNextSubs, is_in_any}

-- a subrectangle over that background in a block of that width and height: it has one of the
-- pixels, another than the background, and places that there are
pub record IsPartOf (width height : ℕ) (pixels : List ℕ) (background : ℕ) (s : Subrect)
    : Type 0 where
  pub pixel : IsPixelOf pixels s.pixel
  pub other : s.pixel ≢ background
  pub inside : IsOnScreen width height s.rect
  pub wide : 0 < s.rect.w
  pub high : 0 < s.rect.h

-- each of them is one
abbrev pub ArePartsOf : ℕ → ℕ → List ℕ → ℕ → List Subrect → Type 0
ArePartsOf width height pixels background [] = Unit {0}
ArePartsOf width height pixels background (s ∷ subs) =
    IsPartOf width height pixels background s × ArePartsOf width height pixels background subs

-- over the background the subrectangles show the pixels, which are row by row
pub record IsCover (width height : ℕ) (pixels : List ℕ) (background : ℕ) (subs : List Subrect)
    : Type 0 where
  pub parts : ArePartsOf width height pixels background subs
  pub shows : (x y : ℕ) → x < width → y < height →
      pixel_at background subs x y ≡ slice_index pixels (y * width + x)

-- as many of the rule's subrectangles as that were taken, and a place is left
pub record IsGivenUp (width height : ℕ) (pixels : List ℕ) (background limit : ℕ)
    (subs : List Subrect) : Type 0 where
  pub full : length subs ≡ limit
  pub each : AreNextSubs width height pixels background [] subs
  pub x : ℕ
  pub y : ℕ
  pub column : x < width
  pub row : y < height
  pub left : IsLeft width pixels background subs x y

-- ---- the rule's choices

-- bit i of the word says whether place i of row y is left: it has another pixel than the background,
-- and lies in none of the subrectangles. Past the row's end no bit is set
abbrev pub TellsLeft : ℕ → List ℕ → ℕ → List Subrect → ℕ → ℕ → Type 0
TellsLeft width pixels background subs y word = (i : ℕ) → i < 64 → has_bit word i ≡
    (nat_lt i width && not (slice_index pixels (y * width + i) == background || is_in_any subs i y))

-- the word lacks the bits of the columns from x up to end, and has the others that it had
abbrev pub IsWithout : ℕ → ℕ → ℕ → ℕ → Type 0
IsWithout x end old new =
    (i : ℕ) → i < 64 → has_bit new i ≡ (has_bit old i && not (nat_le x i && nat_lt i end))

-- the words of the rows from y up to lower are so, and the others what they were
abbrev pub AreTaken : ℕ → ℕ → ℕ → ℕ → List ℕ → List ℕ → Type 0
AreTaken x end y lower old new = (i j : ℕ) → i < 64 → has_bit (slice_index new j) i ≡
    (has_bit (slice_index old j) i &&
    not ((nat_le x i && nat_lt i end) && (nat_le y j && nat_lt j lower)))

-- all places of the rows from y up to lower, from column x up to end, have that pixel
abbrev pub HasRuns : ℕ → List ℕ → ℕ → ℕ → ℕ → ℕ → ℕ → Type 0
HasRuns width pixels pixel x end y lower = (i j : ℕ) → x ≤ i → i < end → y ≤ j → j < lower →
    slice_index pixels (j * width + i) ≡ pixel

-- all places of row y from column x up to end have that pixel
abbrev pub HasRun : ℕ → List ℕ → ℕ → ℕ → ℕ → ℕ → Type 0
HasRun width pixels pixel x end y =
    (i : ℕ) → x ≤ i → i < end → slice_index pixels (y * width + i) ≡ pixel
