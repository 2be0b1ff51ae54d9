-- Tables that have something under each name, whatever it is.
use Rattle.std.specs.Prelude.{ℕ, Bool, List, [], ◌∷◌, Option, None, Some, map, if◌then◌else◌}
use Rattle.std.specs.Borrow.{Bor}

module _ {V : Type 0} where
  -- the entries of a table that is made of references
  abbrev pub entries : List (Bor (List ℕ) × V) → List (List ℕ × V)
  entries table = map (λ entry. (entry.0.now, entry.1)) table

  -- what the first entry of this name has. What counts as the same name is given
  abbrev pub found_by : (List ℕ → List ℕ → Bool) → List (List ℕ × V) → List ℕ → Option V
  found_by are_same [] name = None
  found_by are_same (entry ∷ table) name =
      if are_same entry.0 name then Some entry.1 else found_by are_same table name
