-- A stream of two grammars: items of the first, until one of them leads to a point of the second.
use Rattle.std.specs.Prelude.{ℕ, List, [], ◌∷◌, ◌++◌, map, ◌≡◌, Option, Some, None, ⊤}
use Rattle.rfb_wire.specs.stream.Prefix.{Reading, Says}
use Rattle.rfb_wire.specs.stream.Parts.{renamed}
use Rattle.rfb_wire.specs.stream.Grammar.{Grammar}

-- a point or an item of the first or of the second of two grammars
pub data Stage (A B : Type 0) : Type 0 where
  First : (value : A) → Stage A B
  Second : (value : B) → Stage A B

-- the point after an item of the first: one of the second, if it leads there
abbrev pub turn : {P Q : Type 0} → Option Q → P → Stage P Q
turn None p = First p
turn (Some q) p = Second q

-- each item has its own bytes
abbrev pub size_in : {I J : Type 0} → (I → ℕ) → (J → ℕ) → Stage I J → ℕ
size_in one two (First i) = one i
size_in one two (Second j) = two j

-- items of the first up to one that leads over, and items of the second after it
abbrev pub in_both : {I J : Type 0} → List I → I → List J → List (Stage I J)
in_both items last others = map (λ i. First i) (items ++ last ∷ []) ++ map (λ j. Second j) others

-- two grammars, the point of the second that an item of the first leads to,
-- and what their faults are
pub record Two (P I F Q J G H : Type 0) : Type 0 where
  pub first : Grammar P I F
  pub leads : P → I → Option Q
  pub second : Grammar Q J G
  pub first_fault : F → H
  pub second_fault : G → H

module _ {P I F Q J G H : Type 0} where
  -- what comes next: an item of the grammar that the point belongs to
  abbrev pub next_in : Two P I F Q J G H → Stage P Q → Reading (Stage I J) H
  next_in two (First p) = renamed (λ i. First i) two.first_fault (two.first.next p)
  next_in two (Second q) = renamed (λ j. Second j) two.second_fault (two.second.next q)

  -- the point after an item; one of the other grammar is at no point
  abbrev pub past_in : Two P I F Q J G H → Stage P Q → Stage I J → Stage P Q
  past_in two (First p) (First i) = turn (two.leads p i) (two.first.past p i)
  past_in two (First p) (Second j) = First p
  past_in two (Second q) (First i) = Second q
  past_in two (Second q) (Second j) = Second (two.second.past q j)

  -- the grammar of both
  abbrev pub sequel : Two P I F Q J G H → Grammar (Stage P Q) (Stage I J) H
  sequel two =
      record {
        next = next_in two;
        past = past_in two;
        size = size_in two.first.size two.second.size;
      }

  -- what bytes say at a point of either
  abbrev pub ItemIn : Two P I F Q J G H → (P → Says I F) → (Q → Says J G) → Stage P Q → Stage I J →
      List ℕ → Type 0
  ItemIn two one other (First p) (First i) bytes = (one p).item i bytes
  ItemIn two one other (First p) (Second j) bytes = ⊥
  ItemIn two one other (Second q) (First i) bytes = ⊥
  ItemIn two one other (Second q) (Second j) bytes = (other q).item j bytes

  abbrev pub FaultIn : Two P I F Q J G H → (P → Says I F) → (Q → Says J G) → Stage P Q → H →
      List ℕ → Type 0
  FaultIn two one other (First p) h bytes =
      (f : F) × (h ≡ two.first_fault f) × (one p).fault f bytes
  FaultIn two one other (Second q) h bytes =
      (f : G) × (h ≡ two.second_fault f) × (other q).fault f bytes

  abbrev pub sequel_says : Two P I F Q J G H → (P → Says I F) → (Q → Says J G) → Stage P Q →
      Says (Stage I J) H
  sequel_says two one other s =
      record { item = ItemIn two one other s; fault = FaultIn two one other s }

  -- none of these items but the last leads over to the second
  abbrev pub StaysFirst : Two P I F Q J G H → P → List I → Type 0
  StaysFirst two p [] = ⊤
  StaysFirst two p (i ∷ []) = ⊤
  StaysFirst two p (i ∷ j ∷ items) =
      (two.leads p i ≡ None) × StaysFirst two (two.first.past p i) (j ∷ items)
