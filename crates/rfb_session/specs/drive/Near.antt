-- Whether colours lie near one another, place by place.
use Rattle.std.specs.Prelude.{◌≡◌, ◌+◌, ◌*◌, ◌<◌, ◌&&◌, ℕ, Bool, true, false, List, [], ◌∷◌}
use Rattle.std.specs.Prelude.{if◌then◌else◌}
use Rattle.std.specs.Prelude.{nat_le, length, slice_index_or}
use Rattle.rfb_pixel.specs.declared.colour.Colour.{Colour}

-- a component lies within that many of 255 of another; of a component's 65,535 each of these is 257
abbrev pub is_close : ℕ → ℕ → ℕ → Bool
is_close within a b = nat_le a (b + 257 * within) && nat_le b (a + 257 * within)

-- each component does
abbrev pub is_near : ℕ → Colour → Colour → Bool
is_near within a b =
    is_close within a.r b.r && is_close within a.g b.g && is_close within a.b b.b

-- the colours at each place lie near one another
abbrev pub AreNear : ℕ → List Colour → List Colour → Type 0
AreNear within row expected =
    (k : ℕ) (d : Colour) → k < length row →
    is_near within (slice_index_or row k d) (slice_index_or expected k d) ≡ true

-- the colours at this place are too far apart, and at no place before it
pub record IsFirstFar (within : ℕ) (row expected : List Colour) (place : ℕ) : Type 0 where
  pub inside : place < length row
  pub far : (d : Colour) →
      is_near within (slice_index_or row place d) (slice_index_or expected place d) ≡ false
  pub near_before : (k : ℕ) (d : Colour) → k < place →
      is_near within (slice_index_or row k d) (slice_index_or expected k d) ≡ true

-- at how many places they are too far apart
unfoldable pub far_places : ℕ → List Colour → List Colour → ℕ
far_places within [] expected = 0
far_places within (a ∷ row) [] = 0
far_places within (a ∷ row) (b ∷ expected) =
    (if is_near within a b then 0 else 1) + far_places within row expected
