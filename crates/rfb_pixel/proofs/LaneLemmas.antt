-- Sixteen places of two rows, compared at once.
use Rattle.std.proofs.Common.{◌≡◌, ◌∙◌, ℕ, ◌+◌, ◌-◌, ◌/◌, ◌%◌, ◌^◌, ◌<◌, ◌≤◌, List, Bool, true, false, cond, not}
use Rattle.std.proofs.Common.{length, map, slice_index, sym, ap, inl, inr, arith}
use Rattle.std.specs.Bool.{OnTrue}
use Rattle.std.proofs.lemmas.Bool.{OnTrue_from, eqb-true}
use Rattle.std.proofs.lemmas.Bool.Decides.{eqb_tells}
use Rattle.std.proofs.lemmas.Simd.{tops_compared, mask_l-mod, bit_mask_l, get_or-zip2, get_or-chunk, length-zip2}
use Rattle.std.proofs.lemmas.Simd.{length-chunk}
use Rattle.std.proofs.Math.Dec.{eqb}
use lib.Lanes.{mask_l, zip2, chunk, top}
use lib.ListN.{get_or}
use mir.Syntax.{w32}
use mir.Val.{bits, hbits}

-- the lanes that differ
abbrev pub differ : List ℕ → List ℕ → List Bool
differ xs ys = zip2 (λ a b. not (eqb a b)) xs ys

none_differ : (xs ys : List ℕ) (i : ℕ) → length xs ≡ 16 → length ys ≡ 16 → i < 16 → mask_l (differ xs ys) ≡ 0 →
    get_or xs i 0 ≡ get_or ys i 0
none_differ xs ys i long_x long_y low none =
    let bit = bit_mask_l (differ xs ys) i in
    let lane = get_or-zip2 (λ a b. not (eqb a b)) xs ys i 0 0 false (omega arith) (omega arith) in
    elim (eqb_tells (get_or xs i 0) (get_or ys i 0)) [
      | inl same ↦ same.1
      | inr other ↦
          let is : get_or (differ xs ys) i false ≡ true = lane ∙ ap not other.0 in
          let one : 0 / 2 ^ i % 2 ≡ 1 = rw (none, is) at bit in
          absurd (omega (arith, one))
    ]

pub same_chunks : (xs ys : List ℕ) (at : ℕ) → at + 16 ≤ length xs → at + 16 ≤ length ys →
    OnTrue (eqb (mask_l (map (top (hbits w32))
    (zip2 (λ a b. cond (not (eqb a b)) (2 ^ bits w32 - 1) 0) (chunk at 16 xs) (chunk at 16 ys))) % 2 ^ 64) 0)
    ((k : ℕ) → at ≤ k → k < at + 16 → slice_index xs k ≡ slice_index ys k)
same_chunks xs ys at left right =
    OnTrue_from (eqb (mask_l (map (top (hbits w32))
    (zip2 (λ a b. cond (not (eqb a b)) (2 ^ bits w32 - 1) 0) (chunk at 16 xs) (chunk at 16 ys))) % 2 ^ 64) 0)
    ((k : ℕ) → at ≤ k → k < at + 16 → slice_index xs k ≡ slice_index ys k) (λ all k from to.
    let long_x = length-chunk at 16 xs left in
    let long_y = length-chunk at 16 ys right in
    let ms = differ (chunk at 16 xs) (chunk at 16 ys) in
    let long : length ms ≡ 16 =
    length-zip2 (λ a b. not (eqb a b)) (chunk at 16 xs) (chunk at 16 ys) (long_x ∙ sym long_y) ∙ long_x in
    let tops = tops_compared w32 (λ a b. not (eqb a b)) (chunk at 16 xs) (chunk at 16 ys) in
    let none : mask_l ms ≡ 0 =
    sym (mask_l-mod ms 64 (omega (arith, long))) ∙ ap (λ ms. mask_l ms % 2 ^ 64) (sym tops) ∙ eqb-true _ 0 all in
    let same = none_differ (chunk at 16 xs) (chunk at 16 ys) (k - at) long_x long_y (omega arith) none in
    let place : at + (k - at) ≡ k = omega arith in
    let x = get_or-chunk at 16 xs (k - at) 0 (omega arith) in
    let y = get_or-chunk at 16 ys (k - at) 0 (omega arith) in
    ap (λ i. get_or xs i 0) (sym place) ∙ sym x ∙ same ∙ y ∙ ap (λ i. get_or ys i 0) place)
