-- A door at which a device may be, and what is known of it: of an empty one, that it has no bytes.
use Rattle.std.specs.Prelude.{ℕ, Bool, true, false, List, [], Option, Some}
use Rattle.rfb_session.specs.declared.doors.place.Place.{Place}
use Rattle.rfb_session.specs.declared.doors.place.Place.TheVariants.{Empty, Held}

module _ {D : Type 0} where
  abbrev pub known_in : (D → Option (List ℕ)) → Place D → Option (List ℕ)
  known_in known Empty = Some []
  known_in known (Held device) = known device

  abbrev pub number_in : (D → ℕ) → Place D → ℕ
  number_in number Empty = 0
  number_in number (Held device) = number device

  abbrev pub is_held : Place D → Bool
  is_held Empty = false
  is_held (Held device) = true
