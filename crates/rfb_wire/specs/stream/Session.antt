-- Sessions: calls one after another and how they end, and what they make of a queue.
use Rattle.std.specs.Prelude.{ℕ, List, [], ◌≡◌, Option, Some, None, ⊤}
use Rattle.rfb_wire.specs.stream.Prefix.{More}
use Rattle.rfb_wire.specs.stream.End.{Machine, told, Refuses, RunsOut, Call, CallsTo, DeliversItems}

module _ {S P I F E : Type 0} where
  -- a prefix is too few bytes for an item
  abbrev pub Waits : Machine S P I F E → S → List ℕ → Type 0
  Waits m s prefix = m.grammar.next (m.point s) prefix ≡ More

  -- calls, and then a slice that is refused by a fault; or none
  abbrev pub IsSession : Machine S P I F E → S → List ℕ → List (Call E) → List ℕ → Option F → Type 0
  IsSession m old prefix calls slice None =
      (slice ≡ []) × (new : S) × (rest : List ℕ) × CallsTo m old prefix calls new rest
  IsSession m old prefix calls slice (Some fault) =
      (new : S) × (rest : List ℕ) × CallsTo m old prefix calls new rest
      × Refuses m new rest slice fault

  -- calls, and then a slice at which memory is wanted that there is not, wherever it is asked for
  abbrev pub IsStarved : Machine S P I F E → S → List ℕ → List (Call E) → List ℕ → Type 0
  IsStarved m old prefix calls slice =
      (new : S) × (rest : List ℕ) × CallsTo m old prefix calls new rest
      × RunsOut m (λ _ _. ⊤) new rest slice

  -- bytes that were delivered of those in flight by any number of calls, with these events
  abbrev pub DeliversAll : Machine S P I F E → S → List ℕ → List I → List ℕ → List ℕ → List E →
      S → List ℕ → Type 0
  DeliversAll m old prefix queue bytes later events =
      DeliversItems m old prefix queue bytes later (λ done. events ≡ told m old done)
