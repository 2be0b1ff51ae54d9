-- Places of a row that are moved along it, some at once.
use Rattle.std.proofs.Common.{ℕ, ◌≡◌, ◌+◌, ◌-◌, ◌≤◌, ◌∙◌, ◌⊎◌, List, length}
use Rattle.std.proofs.Common.{slice_index_or, ap}
use Rattle.std.proofs.Common.{arith, inl, inr, true, false}
use Rattle.std.proofs.lemmas.Bool.{cases_lt}
use Rattle.std.proofs.lemmas.Bool.Decides.{nat_tests}
use Rattle.rfb_picture.specs.layout.Runs.{RunCopied, in_run}

-- the first of the places to be moved have what their source had at first
pub record AreMoved {X : Type 0} (from to done count : ℕ) (old now : List X) : Type 0 where
  pub within : done ≤ count
  pub moved : RunCopied from to done old now
  pub len : length now ≡ length old

-- from the left, where the source lies to the right, or ends before the target
pub left_more : {X : Type 0} (from to n m : ℕ) (old cur new : List X) →
    (to ≤ from) ⊎ (from + (n + m) ≤ to) →
    RunCopied from to n old cur → RunCopied (from + n) (to + n) m cur new → RunCopied from to (n + m) old new
left_more from to n m old cur new beside first next = λ i d.
    elim (cases_lt i to) [
      | inl low ↦
          let a : in_run (to + n) m i ≡ false = grind (arith, nat_tests) in
          let b : in_run to n i ≡ false = grind (arith, nat_tests) in
          let c : in_run to (n + m) i ≡ false = grind (arith, nat_tests) in
          rw c (rw a at (next i d) ∙ rw b at (first i d))
      | inr high ↦ elim (cases_lt i (to + n)) [
        | inl there ↦
            let a : in_run (to + n) m i ≡ false = grind (arith, nat_tests) in
            let b : in_run to n i ≡ true = grind (arith, nat_tests) in
            let c : in_run to (n + m) i ≡ true = grind (arith, nat_tests) in
            rw c (rw a at (next i d) ∙ rw b at (first i d))
        | inr after ↦ elim (cases_lt i (to + (n + m))) [
          | inl here ↦
              let j = from + n + (i - (to + n)) in
              let a : in_run (to + n) m i ≡ true = grind (arith, nat_tests) in
              let b : in_run to n j ≡ false = elim beside [
                | inl left ↦ grind (arith, nat_tests)
                | inr before ↦ grind (arith, nat_tests)
              ] in
              let c : in_run to (n + m) i ≡ true = grind (arith, nat_tests) in
              let place : j ≡ from + (i - to) = omega (arith, high, after) in
              rw c (rw a at (next i d) ∙ rw b at (first j d) ∙ ap (λ k. slice_index_or old k d) place)
          | inr beyond ↦
              let a : in_run (to + n) m i ≡ false = grind (arith, nat_tests) in
              let b : in_run to n i ≡ false = grind (arith, nat_tests) in
              let c : in_run to (n + m) i ≡ false = grind (arith, nat_tests) in
              rw c (rw a at (next i d) ∙ rw b at (first i d))
        ]
      ]
    ]

-- from the right, where the source lies to the left
pub right_more : {X : Type 0} (from to n m : ℕ) (old cur new : List X) → from ≤ to →
    RunCopied (from + m) (to + m) n old cur → RunCopied from to m cur new → RunCopied from to (n + m) old new
right_more from to n m old cur new right first next = λ i d.
    elim (cases_lt i to) [
      | inl low ↦
          let a : in_run to m i ≡ false = grind (arith, nat_tests) in
          let b : in_run (to + m) n i ≡ false = grind (arith, nat_tests) in
          let c : in_run to (n + m) i ≡ false = grind (arith, nat_tests) in
          rw c (rw a at (next i d) ∙ rw b at (first i d))
      | inr high ↦ elim (cases_lt i (to + m)) [
        | inl here ↦
            let j = from + (i - to) in
            let a : in_run to m i ≡ true = grind (arith, nat_tests) in
            let b : in_run (to + m) n j ≡ false = grind (arith, nat_tests) in
            let c : in_run to (n + m) i ≡ true = grind (arith, nat_tests) in
            rw c (rw a at (next i d) ∙ rw b at (first j d))
        | inr after ↦ elim (cases_lt i (to + (n + m))) [
          | inl there ↦
              let a : in_run to m i ≡ false = grind (arith, nat_tests) in
              let b : in_run (to + m) n i ≡ true = grind (arith, nat_tests) in
              let c : in_run to (n + m) i ≡ true = grind (arith, nat_tests) in
              let place : from + m + (i - (to + m)) ≡ from + (i - to) = omega (arith, high, after) in
              rw c (rw a at (next i d) ∙ rw b at (first i d) ∙ ap (λ k. slice_index_or old k d) place)
          | inr beyond ↦
              let a : in_run to m i ≡ false = grind (arith, nat_tests) in
              let b : in_run (to + m) n i ≡ false = grind (arith, nat_tests) in
              let c : in_run to (n + m) i ≡ false = grind (arith, nat_tests) in
              rw c (rw a at (next i d) ∙ rw b at (first i d))
        ]
      ]
    ]
