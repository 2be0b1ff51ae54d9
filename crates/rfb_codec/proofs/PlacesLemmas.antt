-- How many places have a pixel: at a run, in parts of a list, and in one that is sorted.
use Rattle.std.proofs.Common.{◌≡◌, ◌≢◌, ℕ, zero, suc, ◌+◌, ◌<◌, ◌≤◌, List, ◌++◌, true, false, cond, length, nat_eq}
use Rattle.std.proofs.Common.{get_or, slice_index, take, replicate, arith, refl, inl, inr}
use Rattle.std.specs.List.Sorted.{IsPermutation}
use Rattle.std.proofs.lemmas.List.Sorted.{sum_by-IsPermutation}
use Rattle.std.proofs.lemmas.List.Sums.{count_by_more_yes, count_by_more_no, sum_by-cons, sum_by-append}
use Rattle.std.proofs.lemmas.List.Sums.{get_or-le-sum_by}
use Rattle.std.proofs.lemmas.List.{take_all}
use Rattle.std.proofs.lemmas.Bool.{cases_eq}
use Rattle.std.proofs.lemmas.Bool.Decides.{nat_tests}
use Rattle.rfb_codec.specs.Choice.{IsPixelOf, places_of}

pub more_yes : (p : ℕ) (xs : List ℕ) (i : ℕ) → i < length xs → get_or xs i 0 ≡ p →
    places_of p (take (i + 1) xs) ≡ places_of p (take i xs) + 1
more_yes p xs i below is =
    let yes : nat_eq (get_or xs i 0) p ≡ true = grind (arith, nat_tests) in
    count_by_more_yes (λ (q : ℕ). nat_eq q p) xs i 0 below yes

pub more_no : (p : ℕ) (xs : List ℕ) (i : ℕ) → i < length xs → get_or xs i 0 ≢ p →
    places_of p (take (i + 1) xs) ≡ places_of p (take i xs)
more_no p xs i below is =
    let no : nat_eq (get_or xs i 0) p ≡ false = grind (arith, nat_tests) in
    count_by_more_no (λ (q : ℕ). nat_eq q p) xs i 0 below no

-- a run of the pixel adds its length
pub run_counted : (p : ℕ) (xs : List ℕ) (i n : ℕ) → i + n ≤ length xs →
    ((k : ℕ) → i ≤ k → k < i + n → get_or xs k 0 ≡ p) → places_of p (take (i + n) xs) ≡ places_of p (take i xs) + n
run_counted p xs i zero within run = let none : i + 0 ≡ i = omega arith in rw none (omega arith)
run_counted p xs i (suc n) within run =
    let before = run_counted p xs i n (omega arith) (λ k from below. run k from (omega arith)) in
    let more = more_yes p xs (i + n) (omega arith) (run (i + n) (omega arith) (omega arith)) in
    let next : i + suc n ≡ i + n + 1 = omega arith in
    rw next (omega (arith, before, more))

-- a run of others adds none
pub run_passed : (p : ℕ) (xs : List ℕ) (i n : ℕ) → i + n ≤ length xs →
    ((k : ℕ) → i ≤ k → k < i + n → get_or xs k 0 ≢ p) → places_of p (take (i + n) xs) ≡ places_of p (take i xs)
run_passed p xs i zero within run = let none : i + 0 ≡ i = omega arith in rw none refl
run_passed p xs i (suc n) within run =
    let before = run_passed p xs i n (omega arith) (λ k from below. run k from (omega arith)) in
    let more = more_no p xs (i + n) (omega arith) (run (i + n) (omega arith) (omega arith)) in
    let next : i + suc n ≡ i + n + 1 = omega arith in
    rw next (omega (arith, before, more))

-- no place before has it
pub none_before : (p : ℕ) (xs : List ℕ) (i : ℕ) → i ≤ length xs → ((k : ℕ) → k < i → get_or xs k 0 ≢ p) →
    places_of p (take i xs) ≡ 0
none_before p xs i within none =
    let start : 0 + i ≡ i = omega arith in
    rw start at (run_passed p xs 0 i (omega arith) (λ k from below. none k (omega arith)))

-- a pixel that some place has is one of the pixels
some_before : (p : ℕ) (xs : List ℕ) (i : ℕ) → i ≤ length xs → 0 < places_of p (take i xs) →
    (k : ℕ) × (k < length xs) × (p ≡ slice_index xs k)
some_before p xs zero within some = absurd (omega arith)
some_before p xs (suc i) within some =
    elim (cases_eq (get_or xs i 0) p) [
      | inl is ↦ (i, omega arith, omega (arith, is))
      | inr not ↦
          let more = more_no p xs i (omega arith) not in
          let next : suc i ≡ i + 1 = omega arith in
          let was : 0 < places_of p (take (i + 1) xs) = rw next at some in
          some_before p xs i (omega arith) (omega (arith, more, was))
    ]

pub is_pixel : (p : ℕ) (xs : List ℕ) → 0 < places_of p xs → IsPixelOf xs p
is_pixel p xs some =
    let all : take (length xs) xs ≡ xs = take_all (length xs) xs (omega arith) in
    some_before p xs (length xs) (omega arith) (rw all some)

-- and one of the pixels has a place
pub has_place : (p : ℕ) (xs : List ℕ) → IsPixelOf xs p → 0 < places_of p xs
has_place p xs is =
    let yes : nat_eq (get_or xs is.0 0) p ≡ true = grind (arith, nat_tests, is.2) in
    let least = get_or-le-sum_by (λ (q : ℕ). cond (nat_eq q p) 1 0) xs is.0 0 is.1 in
    let one : 1 ≤ places_of p xs = rw yes at least in
    omega (arith, one)

pub places-append : (p : ℕ) (xs ys : List ℕ) → places_of p (xs ++ ys) ≡ places_of p xs + places_of p ys
places-append p xs ys = sum_by-append (λ (q : ℕ). cond (nat_eq q p) 1 0) xs ys

pub places-sorted : (p : ℕ) (xs ys : List ℕ) → IsPermutation xs ys → places_of p ys ≡ places_of p xs
places-sorted p xs ys same = sum_by-IsPermutation (λ (q : ℕ). cond (nat_eq q p) 1 0) xs ys same

pub copies_counted : (p n : ℕ) → places_of p (replicate n p) ≡ n
copies_counted p zero = refl
copies_counted p (suc n) =
    let yes : nat_eq p p ≡ true = grind (arith, nat_tests) in
    let cons = sum_by-cons (λ (q : ℕ). cond (nat_eq q p) 1 0) p (replicate n p) in
    let one : places_of p (replicate (suc n) p) ≡ 1 + places_of p (replicate n p) = rw yes at cons in
    omega (arith, one, copies_counted p n)

pub copies_passed : (p q n : ℕ) → q ≢ p → places_of p (replicate n q) ≡ 0
copies_passed p q zero differ = refl
copies_passed p q (suc n) differ =
    let no : nat_eq q p ≡ false = grind (arith, nat_tests) in
    let cons = sum_by-cons (λ (r : ℕ). cond (nat_eq r p) 1 0) q (replicate n q) in
    let none : places_of p (replicate (suc n) q) ≡ 0 + places_of p (replicate n q) = rw no at cons in
    omega (arith, none, copies_passed p q n differ)
