-- The numbers of a script.
use Rattle.std.specs.Prelude.{ℕ, List, ◌<◌, ◌≤◌, ◌^◌, length, EachIndex, slice_index}
use Rattle.std.specs.Int.{IsInRange}
use Rattle.std.specs.Str.Parse.{digits_value}

-- Each character is a decimal digit, '0' to '9'.
abbrev pub IsDigits : List ℕ → Type 0
IsDigits word = EachIndex word (λ k. IsInRange 48 57 (slice_index word k))

-- The word is 1 to 10 decimal digits.
abbrev pub AreFewDigits : List ℕ → Type 0
AreFewDigits word = IsDigits word × (1 ≤ length word) × (length word ≤ 10)

-- The word is 1 to 10 decimal digits, whose value is at most 65,535.
abbrev pub IsNumber : List ℕ → Type 0
IsNumber word =
    IsDigits word × (1 ≤ length word) × (length word ≤ 10) × (digits_value 10 word < 2 ^ 16)

-- The same below 2 to the 32nd.
abbrev pub IsCount : List ℕ → Type 0
IsCount word =
    IsDigits word × (1 ≤ length word) × (length word ≤ 10) × (digits_value 10 word < 2 ^ 32)
