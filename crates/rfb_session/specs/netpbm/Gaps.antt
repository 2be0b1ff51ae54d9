-- Blanks, comments and digits as they are passed over from the left.
use Rattle.std.specs.Prelude.{◌≡◌, ℕ, Bool, true, false, not, ◌==◌, ◌++◌, List, [], ◌∷◌, if◌then◌else◌}
use Rattle.rfb_session.specs.netpbm.Number.{AreDigits, BeginsNoDigit, ends_line, is_blank}

-- what follows blanks and comments; nothing does where a comment does not end
abbrev pub after_gap : Bool → List ℕ → List ℕ
after_gap open_comment [] = []
after_gap false (c ∷ cs) =
    if c == 35 then after_gap true cs
    else (if is_blank c then after_gap false cs else c ∷ cs)
after_gap true (c ∷ cs) = after_gap (not (ends_line c)) cs

-- all digits at the front, and what follows
pub record FirstDigits (bytes digits rest : List ℕ) : Type 0 where
  pub parts : bytes ≡ digits ++ rest
  pub are_digits : AreDigits digits
  pub whole : BeginsNoDigit rest
