-- What a desk has: its share, the lines that wait for the owner, and what is known of each viewer.
use Rattle.std.specs.Prelude.{◌≡◌, ◌+◌, ℕ, zero, suc, Bool, true, false, ◌&&◌, ◌||◌, not, nat_eq}
use Rattle.std.specs.Prelude.{nat_lt, List, None, slice_index_or, cond}
use Rattle.rfb_picture.specs.Places.{has_bit}
use Rattle.rfb_session.specs.declared.console.desk.Desk.{Desk}
use Rattle.rfb_session.specs.declared.console.guest.Guest.{Guest}
use Rattle.rfb_session.specs.declared.console.guest.Progress.{Progress}
use Rattle.rfb_session.specs.declared.console.guest.Progress.TheVariants.{Absent, Shaking, Failing}

-- there is no viewer
abbrev pub nobody : Guest
nobody = record { progress = Absent; since = None; idle = None; told = 0 }

-- one has just come
abbrev pub newcomer : Guest
newcomer = record { progress = Shaking; since = None; idle = None; told = 0 }

abbrev pub guest_at : Desk → ℕ → Guest
guest_at desk k = slice_index_or desk.guests k nobody

abbrev pub lines_of : Desk → List ℕ
lines_of desk = desk.lines.items

-- there is a viewer
abbrev pub is_here : Progress → Bool
is_here Absent = false
is_here progress = true

-- it has failed
abbrev pub is_failing : Progress → Bool
is_failing Failing = true
is_failing progress = false

-- no more is read there: there is no viewer, or it has failed
abbrev pub is_over : Progress → Bool
is_over progress = not (is_here progress) || is_failing progress

-- more of its viewer is read: there is one, it has not failed, and few bytes of lines wait that report it
abbrev pub is_heard : Desk → ℕ → Bool
is_heard desk k = not (is_over (guest_at desk k).progress) && nat_lt (guest_at desk k).told 4096

-- its handshake is not done, or it has failed: it gives way to whoever comes
abbrev pub gives_way : Progress → Bool
gives_way Shaking = true
gives_way Failing = true
gives_way progress = false

-- how many there are at the first `count` seats, and at all
abbrev pub seated_in : Desk → ℕ → ℕ
seated_in desk zero = 0
seated_in desk (suc count) = seated_in desk count + cond (is_here (guest_at desk count).progress) 1 0

abbrev pub seated : Desk → ℕ
seated desk = seated_in desk 8

-- some viewer's handshake was done, and there is none now
abbrev pub is_idle : Desk → Bool
is_idle desk = desk.came && nat_eq (seated desk) 0

-- the going of the viewers at a set of seats is reported, but for those that were reported to have failed
abbrev pub tells_in : Desk → ℕ → ℕ → Bool
tells_in desk set k = has_bit set k && not (is_over (guest_at desk k).progress)

-- the rules, the hold, the seat that is first in the next turn and when the latest large update was composed are as
-- they were
pub record KeepsRules (old new : Desk) : Type 0 where
  pub rules : new.rules ≡ old.rules
  pub hold : new.hold ≡ old.hold
  pub first : new.first ≡ old.first
  pub large : new.large ≡ old.large

-- what is known of every other viewer is as it was
abbrev pub OtherGuests : Desk → ℕ → Desk → Type 0
OtherGuests old k new = (j : ℕ) → nat_eq j k ≡ false → guest_at new j ≡ guest_at old j
