-- The lines of a rig, as they come.
use Rattle.std.specs.Prelude.{◌≡◌, ◌==◌, ◌+◌, ◌<◌, ◌≤◌, ◌⊎◌, ℕ, Bool, true, false, List, [], ◌∷◌, ◌++◌}
use Rattle.std.specs.Prelude.{length, take, drop, nat_le, not, ◌&&◌}
use Rattle.std.specs.List.{list_any}
use Rattle.rfb_wire.specs.stream.FaultPlace.{counted_on}
use Rattle.rfb_session.specs.declared.drive.driver.input.Input.{Input}
use Rattle.rfb_session.specs.declared.drive.driver.input.Upcoming.{Upcoming}
use Rattle.rfb_session.specs.declared.drive.driver.input.Upcoming.TheVariants.{Partial, Line, TooLong, Over}
use Rattle.rfb_session.specs.owner.Lines.{IsOneLine}

-- ---- what comes next

-- the first bytes are a line: after it comes a newline, or nothing comes any more
pub record IsLineOf (bytes : List ℕ) (ended : Bool) (count : ℕ) : Type 0 where
  pub within : count ≤ length bytes
  pub one : IsOneLine (take count bytes)
  pub short : count ≤ 65536
  pub ends : ((rest : List ℕ) × (drop count bytes ≡ 10 ∷ rest))
      ⊎ ((count ≡ length bytes) × (0 < count) × (ended ≡ true))

-- no newline is among the first 65,537 bytes
pub record IsTooLong (bytes : List ℕ) : Type 0 where
  pub long : 65536 < length bytes
  pub one : IsOneLine (take 65537 bytes)

-- a line has begun, or none has, and its newline has not come
pub record IsPart (bytes : List ℕ) (ended : Bool) : Type 0 where
  pub one : IsOneLine bytes
  pub short : length bytes ≤ 65536
  pub more : ended ≡ false

abbrev pub IsUpcoming : List ℕ → Bool → Upcoming → Type 0
IsUpcoming bytes ended Partial = IsPart bytes ended
IsUpcoming bytes ended (Line count) = IsLineOf bytes ended count
IsUpcoming bytes ended TooLong = IsTooLong bytes
IsUpcoming bytes ended Over = (bytes ≡ []) × (ended ≡ true)

abbrev pub is_partial : Upcoming → Bool
is_partial Partial = true
is_partial (Line count) = false
is_partial TooLong = false
is_partial Over = false

abbrev pub is_over : Upcoming → Bool
is_over Partial = false
is_over (Line count) = false
is_over TooLong = false
is_over Over = true

-- ---- what changes

abbrev pub with_bytes : List ℕ → Input → Input
with_bytes bytes input = record input { waiting = input.waiting ++ bytes }

abbrev pub ended : Input → Input
ended input = record input { has_ended = true }

-- a line of so many bytes is taken, with its newline, and counted
abbrev pub taken : ℕ → Input → Input
taken count input = record input {
  waiting = drop (count + 1) input.waiting;
  count = counted_on input.count 1;
}

-- a line that says nothing: an empty one, and one that begins with #
abbrev pub is_skipped : List ℕ → Bool
is_skipped [] = true
is_skipped (byte ∷ line) = byte == 35

-- what has come is a part of a line, or nothing, and more may come
abbrev pub is_no_line : List ℕ → Bool
is_no_line bytes = nat_le (length bytes) 65536 && not (list_any (λ byte. byte == 10) bytes)

abbrev pub part_only : List ℕ → Bool → Bool
part_only bytes ended = not ended && is_no_line bytes
