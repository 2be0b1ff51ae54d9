-- Heads, whose first byte decides the rest. What bytes that are no whole head are, by the relation
-- between heads and their bytes. What follows a head that says how much follows.
use Rattle.std.specs.Prelude.{◌≡◌, ℕ, ◌<◌, List, [], ◌∷◌, ◌++◌, length}
use Rattle.rfb_wire.specs.stream.Prefix.{Listed}

module _ {V : Type 0} where
  -- no head begins with this byte
  abbrev pub BeginsNone : (V → List ℕ → Type 0) → ℕ → Type 0
  BeginsNone Spells first = (v : V) (rest : List ℕ) → Spells v (first ∷ rest) → ⊥

  -- the bytes are this one alone, with which no head begins
  abbrev pub IsNoHead : (V → List ℕ → Type 0) → ℕ → List ℕ → Type 0
  IsNoHead Spells first bytes = (bytes ≡ first ∷ []) × BeginsNone Spells first

  -- n bytes are missing: one before the type byte, and then those that make the bytes a head,
  -- whatever they are
  abbrev pub Misses : (V → List ℕ → Type 0) → ℕ → List ℕ → Type 0
  Misses Spells n [] = n ≡ 1
  Misses Spells n (first ∷ rest) =
      (0 < n) × ((missing : List ℕ) → length missing ≡ n →
      (v : V) × Spells v (first ∷ rest ++ missing))

-- a list, after a head that says how many items it has
pub record SpellsList {A : Type 0} (SpellsHead : ℕ → List ℕ → Type 0) (SpellsItem : A → List ℕ → Type 0)
    (items : List A) (bytes : List ℕ) : Type 0 where
  pub head : List ℕ
  pub list : List ℕ
  pub whole : bytes ≡ head ++ list
  pub head_is : SpellsHead (length items) head
  pub listed : Listed SpellsItem items list

-- a text, after a head that says how many bytes it has
pub record SpellsText (SpellsHead : ℕ → List ℕ → Type 0) (text bytes : List ℕ) : Type 0 where
  pub head : List ℕ
  pub whole : bytes ≡ head ++ text
  pub head_is : SpellsHead (length text) head
