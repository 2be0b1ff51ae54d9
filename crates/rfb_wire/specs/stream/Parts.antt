-- The parts that the reading of a grammar is put together of.
use Rattle.std.specs.Prelude.{ℕ, zero, suc, Bool, true, false, List, [], ◌∷◌, ◌++◌, ◌-◌, Option, Some, None, nat_le}
use Rattle.std.specs.Prelude.{slice_index, length, take, drop, if◌then◌else◌}
use Rattle.rfb_wire.specs.stream.Prefix.{Next, More, Got, Bad, Reading}

-- n bytes
abbrev pub piece : {F : Type 0} → ℕ → Reading (List ℕ) F
piece n bytes = if nat_le n (length bytes) then Got (take n bytes) (drop n bytes) else More

module _ {A F : Type 0} where
  -- no bytes: the item is known from what was read before
  abbrev pub done : A → Reading A F
  done a bytes = Got a bytes

  -- no bytes: what was read before is judged, and is the item or a fault
  abbrev pub judged : Option F → A → Reading A F
  judged None a bytes = Got a bytes
  judged (Some f) a bytes = Bad f

  -- nothing is ever read
  abbrev pub waiting : Reading A F
  waiting bytes = More

  -- no bytes: what was read before is refused
  abbrev pub refused : F → Reading A F
  refused f bytes = Bad f

  -- the bytes that an item took, in place of the item
  abbrev pub taken : List ℕ → Next A F → Next (List ℕ) F
  taken bytes More = More
  taken bytes (Got a rest) = Got (take (length bytes - length rest) bytes) rest
  taken bytes (Bad f) = Bad f

  -- a part that gives the bytes it took
  abbrev pub kept : Reading A F → Reading (List ℕ) F
  kept p bytes = taken bytes (p bytes)

module _ {A B F : Type 0} where
  -- what is read after an item
  abbrev pub continue_with : (A → Reading B F) → Next A F → Next B F
  continue_with k More = More
  continue_with k (Got a rest) = k a rest
  continue_with k (Bad f) = Bad f

  -- one part, and after it another that the item names
  abbrev pub and_then : Reading A F → (A → Reading B F) → Reading B F
  and_then p k bytes = continue_with k (p bytes)

module _ {A F : Type 0} where
  -- n bytes, and what they say
  abbrev pub valued : ℕ → (List ℕ → A) → Reading A F
  valued n value = and_then (piece n) (λ bytes. done (value bytes))

  -- n bytes, judged, and what they say if they are good
  abbrev pub checked : ℕ → (List ℕ → Option F) → (List ℕ → A) → Reading A F
  checked n fault value = and_then (piece n) (λ bytes. judged (fault bytes) (value bytes))

  -- a part that is there or not
  abbrev pub optional : Bool → Reading A F → Reading (Option A) F
  optional false p = done None
  optional true p = and_then p (λ a. done (Some a))

  -- n parts, each named by the items before it; those of the list come first
  abbrev pub each : ℕ → (List A → Reading A F) → List A → Reading (List A) F
  each zero p before = done []
  each (suc n) p before =
      and_then (p before) (λ a. and_then (each n p (before ++ a ∷ [])) (λ more. done (a ∷ more)))

  -- one part n times
  abbrev pub many : ℕ → Reading A F → Reading (List A) F
  many n p = each n (λ _. p) []

module _ {A F : Type 0} where
  -- the rest of a head of that size, or a fault where there is no such head
  abbrev pub rest_of_head : (ℕ → F) → (List ℕ → A) → ℕ → Option ℕ → Reading A F
  rest_of_head unknown head_in first None = refused (unknown first)
  rest_of_head unknown head_in first (Some size) =
      valued (size - 1) (λ rest. head_in (first ∷ rest))

  -- a head whose first byte decides how many bytes it has
  abbrev pub headed : (ℕ → Option ℕ) → (ℕ → F) → (List ℕ → A) → Reading A F
  headed size unknown head_in =
      and_then (valued 1 (λ bytes. slice_index bytes 0))
      (λ first. rest_of_head unknown head_in first (size first))

module _ {A B F H : Type 0} where
  -- what was read, its item and its fault named otherwise
  abbrev pub named : (A → B) → (F → H) → Next A F → Next B H
  named item fault More = More
  named item fault (Got a rest) = Got (item a) rest
  named item fault (Bad f) = Bad (fault f)

  -- a part whose items and faults are named otherwise
  abbrev pub renamed : (A → B) → (F → H) → Reading A F → Reading B H
  renamed item fault p bytes = named item fault (p bytes)
