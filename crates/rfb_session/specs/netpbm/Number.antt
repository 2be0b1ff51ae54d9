-- A number in the head of a portable pixmap: blanks and comments, and then decimal digits.
use Rattle.std.specs.Prelude.{◌≡◌, ◌≤◌, ◌⊎◌, ◌+◌, ◌-◌, ◌*◌, ◌++◌, ⊤, ℕ, Bool, true, false, not, ◌||◌, ◌==◌, List, []}
use Rattle.std.specs.Prelude.{◌∷◌, length}
use Rattle.std.specs.Int.{IsInRange}

-- ---- blanks and comments

-- a space, a tab, a newline or a carriage return
abbrev pub is_blank : ℕ → Bool
is_blank c = (c == 32) || ((c == 9) || ((c == 10) || (c == 13)))

-- a comment ends with its line, at a newline or at a carriage return
abbrev pub ends_line : ℕ → Bool
ends_line c = (c == 10) || (c == 13)

-- blanks and whole comments, each from `#` to the end of its line; or the same where a comment has
-- begun before, if the first word says so
abbrev pub IsGap : Bool → List ℕ → Type 0
IsGap false [] = ⊤
IsGap true [] = ⊥
IsGap false (c ∷ cs) = ((is_blank c ≡ true) × IsGap false cs) ⊎ ((c ≡ 35) × IsGap true cs)
IsGap true (c ∷ cs) = IsGap (not (ends_line c)) cs

-- ---- digits

-- a character is a decimal digit, '0' to '9'
abbrev pub IsDigit : ℕ → Type 0
IsDigit c = IsInRange 48 57 c

-- each of them is
abbrev pub AreDigits : List ℕ → Type 0
AreDigits [] = ⊤
AreDigits (c ∷ cs) = IsDigit c × AreDigits cs

-- the number that they write after those of n
abbrev pub value_after : ℕ → List ℕ → ℕ
value_after n [] = n
value_after n (c ∷ cs) = value_after (10 * n + (c - 48)) cs

-- the number that they write
abbrev pub value_of : List ℕ → ℕ
value_of digits = value_after 0 digits

-- a text does not begin with one
abbrev pub BeginsNoDigit : List ℕ → Type 0
BeginsNoDigit [] = ⊤
BeginsNoDigit (c ∷ cs) = ¬ (IsDigit c)

-- ---- a number

-- bytes begin with a gap and all of a number's digits, and this follows
pub record NextNumber (bytes digits rest : List ℕ) : Type 0 where
  pub gap : List ℕ
  pub parts : bytes ≡ gap ++ (digits ++ rest)
  pub is_gap : IsGap false gap
  pub are_digits : AreDigits digits
  pub some : 1 ≤ length digits
  pub whole : BeginsNoDigit rest

-- there is no such number
abbrev pub NoNumberNext : List ℕ → Type 0
NoNumberNext bytes = (digits rest : List ℕ) → ¬ (NextNumber bytes digits rest)
