-- Lines of a text, one after another: which of them ask for what.
use Rattle.std.specs.Prelude.{◌≡◌, ◌+◌, ℕ, List, [], ◌∷◌, ◌++◌, All, length}

-- every line is empty
abbrev pub AreEmpty : List (List ℕ) → Type 0
AreEmpty lines = All (λ line. line ≡ []) lines

module _ {A : Type 0} (number : A → ℕ) (Asks : List ℕ → A → Type 0) where
  -- lines, numbered from this on, ask for these things in their order, each with the number of its
  -- line; empty lines ask for nothing
  abbrev pub AskInOrder : ℕ → List (List ℕ) → List A → Type 0
  AskInOrder n [] [] = Unit {0}
  AskInOrder n [] (a ∷ all) = ⊥
  AskInOrder n ([] ∷ lines) all = AskInOrder (n + 1) lines all
  AskInOrder n ((char ∷ line) ∷ lines) [] = ⊥
  AskInOrder n ((char ∷ line) ∷ lines) (a ∷ all) =
      (number a ≡ n) × Asks (char ∷ line) a × AskInOrder (n + 1) lines all

-- lines, numbered from this on: empty ones, one for which this holds, and later ones
pub record AreLed (First : List ℕ → Type 0) (Later : ℕ → List (List ℕ) → Type 0) (n : ℕ)
    (lines : List (List ℕ)) : Type 0 where
  pub blank : List (List ℕ)
  pub first : List ℕ
  pub later : List (List ℕ)
  pub whole : lines ≡ blank ++ first ∷ later
  pub blank_is : AreEmpty blank
  pub first_is : First first
  pub later_are : Later (n + length blank + 1) later

-- the first line that is bad after those before it has this number
pub record IsFirst (IsBad : List (List ℕ) → List ℕ → Type 0) (lines : List (List ℕ)) (n : ℕ)
    : Type 0 where
  pub before : List (List ℕ)
  pub line : List ℕ
  pub after : List (List ℕ)
  pub whole : lines ≡ before ++ line ∷ after
  pub count : n ≡ length before + 1
  pub bad : IsBad before line
