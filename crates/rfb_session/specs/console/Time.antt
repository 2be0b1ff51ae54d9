-- What time does to a viewer.
use Rattle.std.specs.Prelude.{ℕ, ◌+◌, ◌-◌, ◌≤◌, ◌<◌, nat_le, Bool, true, false, cond, List, [], ◌∷◌, Option, Some, None}
use Rattle.rfb_session.specs.declared.console.guest.Guest.{Guest}
use Rattle.rfb_session.specs.declared.console.plan.Rules.{Rules}
use Rattle.rfb_session.specs.console.Desk.{gives_way}

-- the time at which something began, which is now if no earlier one is known
abbrev pub begun : ℕ → Option ℕ → ℕ
begun now None = now
begun now (Some since) = since

-- a viewer whose handshake is not done, or that has failed, and one for which bytes wait: since when
abbrev pub stamped : ℕ → Bool → Guest → Guest
stamped now waits guest = record guest {
  since = cond (gives_way guest.progress) (Some (begun now guest.since)) None;
  idle = cond waits (Some (begun now guest.idle)) None;
}

-- since when the handshake of a viewer that gives way lasts, or since when it fails; before a turn has given the time,
-- it is later than any time
abbrev pub undone_since : Guest → ℕ
undone_since guest = begun 18446744073709551615 guest.since

-- it is so for that long at least
abbrev pub has_lasted : ℕ → ℕ → Option ℕ → Bool
has_lasted limit now None = false
has_lasted limit now (Some since) = nat_le limit (now - since)

-- its handshake, or its failing, lasts too long
abbrev pub is_slow : Rules → ℕ → Guest → Bool
is_slow rules now guest = has_lasted rules.handshake now guest.since

-- bytes wait for it for too long
abbrev pub lasts : Option ℕ → ℕ → Option ℕ → Bool
lasts None now since = false
lasts (Some limit) now since = has_lasted limit now since

abbrev pub is_stuck : Rules → ℕ → Guest → Bool
is_stuck rules now guest = lasts rules.timeout now guest.idle

-- bytes wait
abbrev pub waits_for : List ℕ → Bool
waits_for [] = false
waits_for (byte ∷ bytes) = true

-- ---- times to wake

-- something is wanted at that time or before
abbrev pub IsBy : ℕ → Option ℕ → Type 0
IsBy limit None = ⊥
IsBy limit (Some time) = time ≤ limit

-- the same of the time at which what began then, if it did, has lasted so long
abbrev pub IsByEnd : ℕ → Option ℕ → Option ℕ → Type 0
IsByEnd limit None next = Unit {0}
IsByEnd limit (Some since) next = IsBy (since + limit) next

-- and where there is a limit at all
abbrev pub IsByLimit : Option ℕ → Option ℕ → Option ℕ → Type 0
IsByLimit None since next = Unit {0}
IsByLimit (Some limit) since next = IsByEnd limit since next

-- a time comes before it is wanted
abbrev pub IsBefore : ℕ → Option ℕ → Type 0
IsBefore time None = Unit {0}
IsBefore time (Some next) = time < next
