-- The background that an encoder chooses, by this project's rule.
-- No public clause reads these words.
use Rattle.std.specs.Prelude.{◌≡◌, ◌≢◌, ℕ, zero, suc, ◌+◌, ◌-◌, Bool, nat_le, ◌==◌, if◌then◌else◌, ◌*◌, ◌/◌, ◌%◌, ◌<◌}
use Rattle.std.specs.Prelude.{◌≤◌, ◌⊎◌, slice_index, List, [], ◌∷◌, length, set, All}
use Rattle.rfb_codec.specs.declared.choice.background.Stop.{Stop}
use Rattle.rfb_codec.specs.declared.choice.background.Stop.TheVariants.{Pixels, Room}
use Rattle.rfb_codec.specs.Choice.{IsPixelOf, places_of}

-- no two of them are the same
abbrev pub AllDiffer : List ℕ → Type 0
AllDiffer [] = Unit {0}
AllDiffer (pixel ∷ others) = All (λ other. other ≢ pixel) others × AllDiffer others

-- there are more different pixels than that
pub record HasMore (most : ℕ) (pixels : List ℕ) : Type 0 where
  pub some : List ℕ
  pub many : most < length some
  pub there : All (λ pixel. IsPixelOf pixels pixel) some
  pub differ : AllDiffer some

-- why a tally of the pixels has no result: `most` pixels were allowed, and `room` places aside
abbrev pub IsStopped : Stop → ℕ → ℕ → List ℕ → Type 0
IsStopped Pixels most room pixels = HasMore most pixels
IsStopped Room most room pixels = room < length pixels

-- places from one up to an end have one pixel
abbrev pub IsRun : List ℕ → ℕ → ℕ → Type 0
IsRun pixels start end =
    (i : ℕ) → start ≤ i → i < end → slice_index pixels i ≡ slice_index pixels start

-- at the end of those, if it is a place, is another
abbrev pub EndsRun : List ℕ → ℕ → ℕ → Type 0
EndsRun pixels start end = end < length pixels → slice_index pixels end ≢ slice_index pixels start

-- a pixel that `count` places have comes before another that `most` have
abbrev pub Leads : ℕ → ℕ → ℕ → ℕ → Type 0
Leads count pixel most better = (most < count) ⊎ ((most ≡ count) × (pixel < better))

-- the pixel that the most places have, of these places and of one that `most` places have: the least
-- among equals
pub record IsLed (aside : List ℕ) (better most result : ℕ) : Type 0 where
  pub count : ℕ
  pub from : ((result ≡ better) × (count ≡ most)) ⊎ ((0 < count) × (count ≤ places_of result aside))
  pub kept : most ≤ count
  pub before : most ≡ count → result ≤ better
  pub each : (other : ℕ) → places_of other aside ≤ count
  pub tied : (other : ℕ) → 0 < places_of other aside → places_of other aside ≡ count →
      result ≤ other

-- how many of the first places have another pixel than the place after them
abbrev pub changes_in : List ℕ → ℕ → ℕ
changes_in pixels zero = 0
changes_in pixels (suc n) =
    changes_in pixels n + (if slice_index pixels (n + 1) == slice_index pixels n then 0 else 1)

-- three places of four, or more, have another pixel than the place after them
abbrev pub is_restless : List ℕ → Bool
is_restless pixels = nat_le (length pixels * 3) (changes_in pixels (length pixels - 1) * 4)

-- a number that spreads pixels: the remainder by the slots of a table is the slot of the pixel
unfoldable pub hash_of : ℕ → ℕ
hash_of pixel = pixel * 2654435761 % 4294967296 / 65536

-- the slot of a pixel in a table of that many slots
abbrev pub slot_of : ℕ → ℕ → ℕ
slot_of slots pixel = hash_of pixel % slots

-- the slot belongs to the pixel at place `first` - 1. If it was vacant, that is the one at `start`
-- from now on, which was still allowed
abbrev pub Claims : (slot start : ℕ) → List ℕ → List ℕ → ℕ → ℕ → ℕ → Type 0
Claims slot start firsts firsts' free free' first =
    ((slice_index firsts slot ≡ 0) × (free ≢ 0) × (firsts' ≡ set firsts slot (start + 1))
    × (free' ≡ free - 1) × (first ≡ start + 1))
    ⊎ ((slice_index firsts slot ≢ 0) × (firsts' ≡ firsts) × (free' ≡ free)
    × (first ≡ slice_index firsts slot))
