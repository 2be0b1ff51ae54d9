-- Slots, in which whoever has a session that follows a screen may sit: the viewers of a hub, and
-- those of a share.
use Rattle.std.specs.Prelude.{◌≡◌, ℕ, Bool, true, false, List, Option, Some, None, slice_index_or}

module _ {X : Type 0} where
  -- the seat of slot k, where it is taken; past the last slot there is none
  abbrev pub seat_at : ℕ → List (Option X) → Option X
  seat_at k slots = slice_index_or slots k None

  abbrev pub is_taken : Option X → Bool
  is_taken None = false
  is_taken (Some seat) = true

  -- a slot that is empty stays so, and of a seat there becomes what the relation says
  abbrev pub OnSlot : (X → X → Type 0) → Option X → Option X → Type 0
  OnSlot Becomes None None = Unit {0}
  OnSlot Becomes (Some old) (Some new) = Becomes old new
  OnSlot Becomes old new = ⊥

  -- a slot that is reported as emptied is empty; any other has what it had
  abbrev pub StaysUnless : Bool → Option X → Option X → Type 0
  StaysUnless ended old new = (ended ≡ true → new ≡ None) × (ended ≡ false → new ≡ old)
