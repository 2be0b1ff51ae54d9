-- The rectangles of an update's pixels, cell by cell: further cells that have none, and one that has
-- one.
use Rattle.std.proofs.Common.{ℕ, ◌+◌, ◌≤◌, List, [], ◌∷◌, ◌++◌, arith, inl, inr}
use Rattle.std.proofs.lemmas.Bool.{cases_lt}
use Rattle.rfb_server.specs.Server.{ServerState}
use Rattle.rfb_server.specs.Cells.{cell_of}
use Rattle.rfb_server.specs.Composition.{Part, NoneNeeds, IsBoxOf, AreBoxes}

module _ (across : ℕ) (s : ServerState) where
  none_more : (from n m : ℕ) → NoneNeeds across s from n → NoneNeeds across s n m → NoneNeeds across s from m
  none_more from n m none more x y p q above below =
      elim (cases_lt (cell_of across x y) n) [
        | inl less ↦ none x y p q above less
        | inr other ↦ more x y p q other below
      ]

  pub boxes_none : (from n m : ℕ) (parts : List Part) → n ≤ m → AreBoxes across s from n parts →
      NoneNeeds across s n m → AreBoxes across s from m parts
  boxes_none from n m [] order none more = none_more from n m none more
  boxes_none from n m (part ∷ parts) order (index, after, below, none, box, rest) more =
      (index, after, omega (arith, below, order), none, box, boxes_none (index + 1) n m parts order rest more)

  pub boxes_push : (from n : ℕ) (parts : List Part) (part : Part) → from ≤ n → AreBoxes across s from n parts →
      IsBoxOf across s n part.head.rect →
      AreBoxes across s from (n + 1) (parts ++ part ∷ [])
  boxes_push from n [] part order none box =
      (n, order, omega arith, none, box, λ x y p q above below. absurd (omega (arith, above, below)))
  boxes_push from n (first ∷ parts) part order (index, after, below, none, here, rest) box = (
    index,
    after,
    omega (arith, below),
    none,
    here,
    boxes_push (index + 1) n parts part (omega (arith, below)) rest box,
  )
