-- The first of all that happens, and what comes after it.
use Rattle.std.proofs.Common.{◌≡◌, ◌≢◌, ◌++◌, ℕ, List, [], ◌∷◌, refl, subst}
use Rattle.rfb_session.specs.doors.Events.{Stepping, came, left}
use Rattle.rfb_session.specs.doors.Tenants.{Happening, Told, Opened, Declined, IsKept, Meets, Goes, events_in}
use Rattle.rfb_session.specs.doors.Lives.{Opening, Declining}
use Rattle.rfb_session.specs.console.History.{left_in}
use Rattle.rfb_session.proofs.ConsoleMoveLemmas.{came_in}

-- a door is not given away by it
abbrev pub IsKeptBy : ℕ → Happening → Type 0
IsKeptBy d (Told event) = Unit {0}
IsKeptBy d (Opened door from) = d ≢ door
IsKeptBy d (Declined from) = Unit {0}

-- a door that is kept is not given away by the first, and kept after it
pub kept_first : (d : ℕ) (h : Happening) (more : List Happening) → IsKept d (h ∷ more) →
    IsKeptBy d h × IsKept d more
kept_first d (Told event) more kept = (tt, kept)
kept_first d (Opened door from) more kept = kept
kept_first d (Declined from) more kept = (tt, kept)

module _ {C : Type 0} (steps : Stepping C) (opens : Opening C) (declines : Declining C) where
  -- what was so before each thing, if it is so after it, was so before all of them, if it is so after them
  pub so_before : (P : C → Type 0) →
      ((old : C) (h : Happening) (new : C) → Meets steps opens declines old h new → P new → P old) →
      (old new : C) (happenings : List Happening) → Goes steps opens declines old happenings new → P new → P old
  so_before P back old new [] goes is = subst P goes is
  so_before P back old new (h ∷ more) one is =
      back old h one.0 one.1 (so_before P back one.0 new more one.2 is)

-- the bytes that came and left are those of the first, and those that came and left after it
pub bytes_first : (d : ℕ) (h : Happening) (more : List Happening) →
    (came d (events_in (h ∷ more)) ≡ came_in d h ++ came d (events_in more))
    × (left d (events_in (h ∷ more)) ≡ left_in d h ++ left d (events_in more))
bytes_first d (Told event) more = (refl, refl)
bytes_first d (Opened door from) more = (refl, refl)
bytes_first d (Declined from) more = (refl, refl)
