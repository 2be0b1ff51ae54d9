-- What the functions beneath a `Picture` do to its places, a list, row after row: the value at each
-- afterwards, or d where there is no such place. No public clause reads these words.
use Rattle.std.specs.Prelude.{ℕ, List, ◌≡◌, ◌+◌, ◌-◌, ◌*◌, ◌<◌, ◌&&◌, Bool, nat_le, nat_lt, length, slice_index_or}
use Rattle.std.specs.Prelude.{if◌then◌else◌}
use Rattle.rfb_picture.specs.declared.rect.Rect.{Rect}
use Rattle.rfb_picture.specs.Rect.{contains}
use Rattle.rfb_picture.specs.layout.Lines.{place_in}

-- place i is one of the count places from the first on
abbrev pub in_run : ℕ → ℕ → ℕ → Bool
in_run start count i = nat_le start i && nat_lt i (start + count)

module _ {X : Type 0} where
  -- count places from the first on have the value, and the others what they had
  abbrev pub RunFilled : ℕ → ℕ → X → List X → List X → Type 0
  RunFilled start count value old new =
      (i : ℕ) (d : X) →
      slice_index_or new i d ≡ (if in_run start count i then value else slice_index_or old i d)

  -- the rectangle's places have the value, and the others what they had, in lines of that width
  abbrev pub RowsFilled : List ℕ → ℕ → Rect → X → List X → List X → Type 0
  RowsFilled lines width rect value old new =
      (x y : ℕ) (d : X) → x < width → y < length lines →
      slice_index_or new (place_in lines width x y) d
      ≡ (if contains rect x y then value else slice_index_or old (place_in lines width x y) d)

  -- the places from the first on have the values of a row, and the others what they had
  abbrev pub RunPut : ℕ → List X → List X → List X → Type 0
  RunPut start row old new =
      (i : ℕ) (d : X) →
      slice_index_or new i d
      ≡ (if in_run start (length row) i then slice_index_or row (i - start) d
      else slice_index_or old i d)

  -- the rectangle's places have the values of a list, row after row, and the others what they had,
  -- in lines of that width
  abbrev pub RowsPut : List ℕ → ℕ → Rect → List X → List X → List X → Type 0
  RowsPut lines width rect rows old new =
      (x y : ℕ) (d : X) → x < width → y < length lines →
      slice_index_or new (place_in lines width x y) d
      ≡ (if contains rect x y then slice_index_or rows ((y - rect.y) * rect.w + (x - rect.x)) d
      else slice_index_or old (place_in lines width x y) d)

  -- count places from one on have what those from another on had, and the others what they had
  abbrev pub RunCopied : ℕ → ℕ → ℕ → List X → List X → Type 0
  RunCopied from to count old new =
      (i : ℕ) (d : X) →
      slice_index_or new i d
      ≡ (if in_run to count i then slice_index_or old (from + (i - to)) d
      else slice_index_or old i d)

  -- the rectangle's places have what the rectangle of that size at (sx, sy) had, and the others
  -- what they had, in lines of that width
  abbrev pub RowsCopied : List ℕ → ℕ → Rect → ℕ → ℕ → List X → List X → Type 0
  RowsCopied lines width dst sx sy old new =
      (x y : ℕ) (d : X) → x < width → y < length lines →
      slice_index_or new (place_in lines width x y) d
      ≡ (if contains dst x y
      then slice_index_or old (place_in lines width (sx + (x - dst.x)) (sy + (y - dst.y))) d
      else slice_index_or old (place_in lines width x y) d)
