-- What a list of bytes begins with, and the readings that a grammar is built of.
use Rattle.std.specs.Prelude.{ℕ, Bool, true, false, List, [], ◌∷◌, ◌++◌, ◌≡◌, Option, Some, None}

-- bytes begin with an item and the rest after it, or show a fault, or are too few to show either
pub data Next (A F : Type 0) : Type 0 where
  More : Next A F
  Got : (item : A) → (rest : List ℕ) → Next A F
  Bad : (fault : F) → Next A F

-- a reading: what each list of bytes begins with
abbrev pub Reading : Type 0 → Type 0 → Type 0
Reading A F = List ℕ → Next A F

-- what bytes say: which of them are an item, no more and no less, and which end in a fault
pub record Says (A F : Type 0) : Type 1 where
  pub item : A → List ℕ → Type 0
  pub fault : F → List ℕ → Type 0

module _ {A F : Type 0} where
  -- the reading gives exactly the items and the faults that bytes say, whatever follows them
  pub record Reads (p : Reading A F) (s : Says A F) : Type 0 where
    pub found : (bytes : List ℕ) (a : A) (rest : List ℕ) → p bytes ≡ Got a rest →
        (front : List ℕ) × (bytes ≡ front ++ rest) × s.item a front
    pub only : (a : A) (front rest : List ℕ) → s.item a front → p (front ++ rest) ≡ Got a rest
    pub blamed : (bytes : List ℕ) (f : F) → p bytes ≡ Bad f →
        (front rest : List ℕ) × (bytes ≡ front ++ rest) × s.fault f front
    pub blames : (f : F) (front rest : List ℕ) → s.fault f front → p (front ++ rest) ≡ Bad f

  -- both say the same of each list of bytes
  pub record Same (s t : Says A F) : Type 0 where
    pub item : (a : A) (bytes : List ℕ) → s.item a bytes → t.item a bytes
    pub fault : (f : F) (bytes : List ℕ) → s.fault f bytes → t.fault f bytes
    pub item_back : (a : A) (bytes : List ℕ) → t.item a bytes → s.item a bytes
    pub fault_back : (f : F) (bytes : List ℕ) → t.fault f bytes → s.fault f bytes

module _ {A : Type 0} where
  -- bytes are one item's after another's
  abbrev pub Listed : (A → List ℕ → Type 0) → List A → List ℕ → Type 0
  Listed R [] bytes = bytes ≡ []
  Listed R (a ∷ more) bytes =
      (front back : List ℕ) × (bytes ≡ front ++ back) × R a front × Listed R more back

  -- bytes are one item's after another's, where each may depend on the items before it
  abbrev pub ListedAfter : (List A → A → List ℕ → Type 0) → List A → List A → List ℕ → Type 0
  ListedAfter R before [] bytes = bytes ≡ []
  ListedAfter R before (a ∷ more) bytes =
      (front back : List ℕ) × (bytes ≡ front ++ back) × R before a front
      × ListedAfter R (before ++ a ∷ []) more back

  -- an item that is there or not
  abbrev pub Optionally : Bool → (A → List ℕ → Type 0) → Option A → List ℕ → Type 0
  Optionally false R item bytes = (item ≡ None) × (bytes ≡ [])
  Optionally true R item bytes = (a : A) × (item ≡ Some a) × R a bytes
