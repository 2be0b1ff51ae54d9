-- Where two rows of pixel values differ.
use Rattle.std.specs.Prelude.{◌≡◌, ◌≢◌, ℕ, ◌+◌, ◌<◌, ◌==◌, ◌&&◌, not, nat_eq, nat_lt, if◌then◌else◌, List, [], ◌∷◌}
use Rattle.std.specs.Prelude.{length, slice_index}
use Rattle.std.specs.Int.{bit_at}

-- the rows differ at this place, and at no place before it
pub record IsFirstDiff (a b : List ℕ) (i : ℕ) : Type 0 where
  pub within : i < length a
  pub differ : slice_index a i ≢ slice_index b i
  pub same_before : (k : ℕ) → k < i → slice_index a k ≡ slice_index b k

-- the rows differ at this place, and at no place after it
pub record IsLastDiff (a b : List ℕ) (i : ℕ) : Type 0 where
  pub within : i < length a
  pub differ : slice_index a i ≢ slice_index b i
  pub same_after : (k : ℕ) → i < k → k < length a → slice_index a k ≡ slice_index b k

-- at how many places two rows have the same pixel
unfoldable pub equal_places : List ℕ → List ℕ → ℕ
equal_places [] b = 0
equal_places (x ∷ a) [] = 0
equal_places (x ∷ a) (y ∷ b) = (if x == y then 1 else 0) + equal_places a b

-- bit i of the word is set where place i of two rows differs; past their end no bit is set
abbrev pub TellsDifferences : List ℕ → List ℕ → ℕ → Type 0
TellsDifferences a b word = (i : ℕ) → i < 64 →
    nat_eq (bit_at word i) 1 ≡ (nat_lt i (length a) && not (slice_index a i == slice_index b i))

-- bit i of the word is set where place i of the row has another pixel; past its end no bit is set
abbrev pub TellsOthers : List ℕ → ℕ → ℕ → Type 0
TellsOthers row pixel word = (i : ℕ) → i < 64 →
    nat_eq (bit_at word i) 1 ≡ (nat_lt i (length row) && not (slice_index row i == pixel))
