-- What an engine did with its end, as a list of steps: bytes that the end was fed, in turn with acts of the engine's
-- own. Each further step makes the list longer.
use Rattle.std.specs.Prelude.{◌≡◌, ℕ, ◌+◌, List, [], ◌∷◌, ◌++◌, Option, ⊤}
use Rattle.rfb_wire.specs.stream.End.{Machine, Takes}

-- a step: bytes that the end was fed, with what it told of them; or an act
pub data Step (E A : Type 0) : Type 0 where
  Fed : (bytes : List ℕ) → (event : Option E) → Step E A
  Did : (act : A) → Step E A

-- an end as engines run it: what it was made with, and by that its machine; and what it stands for. Further what an act
-- makes of a state, what is sent at a step, and how many updates a step ends
pub record Driven (V C S P I F E A : Type 0) : Type 1 where
  pub machine : C → Machine S P I F E
  pub stands : C → V → S → List ℕ → Type 0
  pub does : S → A → S → Type 0
  pub sends : Step E A → List ℕ
  pub updates : Step E A → ℕ

module _ {E A : Type 0} where
  -- the bytes that an end was fed in a step, and in steps, the latest first
  abbrev pub fed_at : Step E A → List ℕ
  fed_at (Fed bytes event) = bytes
  fed_at (Did act) = []

  abbrev pub fed_in : List (Step E A) → List ℕ
  fed_in [] = []
  fed_in (step ∷ before) = fed_in before ++ fed_at step

  -- each of these steps feeds
  abbrev pub AreFed : List (Step E A) → Type 0
  AreFed [] = ⊤
  AreFed (Fed bytes event ∷ before) = AreFed before
  AreFed (Did act ∷ before) = ⊥

module _ {V C S P I F E A : Type 0} where
  -- an end of all of these
  abbrev pub driven : (C → Machine S P I F E) → (C → V → S → List ℕ → Type 0) →
      (S → A → S → Type 0) → (Step E A → List ℕ) → (Step E A → ℕ) → Driven V C S P I F E A
  driven machine stands does sends updates = record {
    machine = machine;
    stands = stands;
    does = does;
    sends = sends;
    updates = updates;
  }

  -- one step, from a state and the bytes that came of the next item to others
  abbrev pub StepsTo : Driven V C S P I F E A → C → S → List ℕ → Step E A → S → List ℕ → Type 0
  StepsTo d made s prefix (Fed bytes event) t rest =
      Takes (d.machine made) s prefix bytes event t rest
  StepsTo d made s prefix (Did act) t rest = d.does s act t × (rest ≡ prefix)

  -- steps one after another, the latest first in the list
  abbrev pub Runs : Driven V C S P I F E A → C → S → List ℕ → List (Step E A) → S → List ℕ → Type 0
  Runs d made s prefix [] t rest = (t ≡ s) × (rest ≡ prefix)
  Runs d made s prefix (step ∷ before) t rest =
      (mid : S) × (left : List ℕ) × Runs d made s prefix before mid left
      × StepsTo d made mid left step t rest

  -- what is sent in all of them, and how many updates ended
  abbrev pub sent_in : Driven V C S P I F E A → List (Step E A) → List ℕ
  sent_in d [] = []
  sent_in d (step ∷ before) = sent_in d before ++ d.sends step

  abbrev pub updates_in : Driven V C S P I F E A → List (Step E A) → ℕ
  updates_in d [] = 0
  updates_in d (step ∷ before) = updates_in d before + d.updates step

  -- steps lead from a state and a prefix to one that the end then stands for: it was fed those
  -- bytes, those are sent, and `updates` updates ended
  pub record Ran (d : Driven V C S P I F E A) (made : C) (s : S) (prefix : List ℕ) (new : V)
      (fed sent : List ℕ) (updates : ℕ) : Type 0 where
    pub steps : List (Step E A)
    pub state : S
    pub rest : List ℕ
    pub runs : Runs d made s prefix steps state rest
    pub stands : d.stands made new state rest
    pub fed_is : fed ≡ fed_in steps
    pub sent_is : sent ≡ sent_in d steps
    pub updates_are : updates ≡ updates_in d steps

  -- whatever it stood for
  abbrev pub RunsOn : Driven V C S P I F E A → V → List ℕ → List ℕ → ℕ → V → Type 0
  RunsOn d old fed sent updates new =
      (made : C) (s : S) (prefix : List ℕ) → d.stands made old s prefix →
      Ran d made s prefix new fed sent updates

  -- the same, and nothing was done with it but feeding
  abbrev pub FeedsOn : Driven V C S P I F E A → V → List ℕ → List ℕ → ℕ → V → Type 0
  FeedsOn d old fed sent updates new =
      (made : C) (s : S) (prefix : List ℕ) → d.stands made old s prefix →
      (r : Ran d made s prefix new fed sent updates) × AreFed r.steps

module _ {V : Type 0} where
  -- of some bytes, for which `known` holds, an end was fed the first and went on so to `last`; and it ended at the
  -- bytes after them
  pub record EndsAmong (known : List ℕ → Type 0) (goes : List ℕ → V → Type 0)
      (ends_at : V → List ℕ → Type 0) : Type 0 where
    pub fed : List ℕ
    pub slice : List ℕ
    pub last : V
    pub bytes_are : known (fed ++ slice)
    pub runs : goes fed last
    pub ends : ends_at last slice

  -- an end that had failed before took no byte, sent none and told of nothing
  pub record TakesNone (old : V) (fed sent : List ℕ) (told : ℕ) (new : V) : Type 0 where
    pub unfed : fed ≡ []
    pub unsent : sent ≡ []
    pub untold : told ≡ 0
    pub same : new ≡ old
