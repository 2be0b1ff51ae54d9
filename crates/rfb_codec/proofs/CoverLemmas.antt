-- Bits of the rows of a cover under way: the columns of a run, and words without them.
use Rattle.std.proofs.Common.{◌≡◌, ℕ, ◌+◌, ◌-◌, ◌*◌, ◌/◌, ◌%◌, ◌^◌}
use Rattle.std.proofs.Common.{◌<◌, ◌≤◌, Bool, true, false, ◌&&◌, not}
use Rattle.std.proofs.Common.{nat_le, nat_lt, arith, refl, ◌∙◌, inl, inr, bit_and, List, length}
use Rattle.std.proofs.Common.{slice_set, slice_index, slice_index_or}
use Rattle.std.proofs.lemmas.List.{get_or-set_same, get_or-set_other}
use Rattle.std.specs.Int.{bit_at, bit_not, w64}
use Rattle.std.proofs.lemmas.Bool.{cases_lt, cases_eq, both_ways}
use Rattle.std.proofs.lemmas.Bool.Decides.{nat_tests}
use Rattle.std.proofs.lemmas.Nat.{and_le_l, pow_pos, shl_whole}
use Rattle.std.proofs.Math.Pow.{ones_lt}
use Rattle.std.proofs.lemmas.Nat.Bits.{ones_shr}
use Rattle.std.proofs.lemmas.Nat.Bits.{bit_at_ones, bit_at_ones_above, bit_at_cat_low, bit_at_cat_high, bit_at-zero}
use Rattle.rfb_picture.specs.Places.{has_bit}
use Rattle.rfb_picture.proofs.TakenWordLaws.{has_bit-without}
use Rattle.rfb_codec.specs.encoder.Cover.{IsWithout, AreTaken}

-- ---- the bits of a run

-- as many ones, moved up
ones_moved : (n x : ℕ) → n ≤ 64 → x + n ≤ 64 →
    (2 ^ 64 - 1) / 2 ^ (64 - n) * 2 ^ x % 2 ^ 64 ≡ (2 ^ n - 1) * 2 ^ x + 0
ones_moved n x few room =
    let shifted = ones_shr 64 (64 - n) (omega arith) in
    let twice : 64 - (64 - n) ≡ n = omega arith in
    rw (shifted, twice) (shl_whole (2 ^ n - 1) n x 64 (ones_lt n) (omega arith) ∙ omega arith)

pub run_bits_are : (x end i : ℕ) → x < end → end ≤ 64 → i < 64 →
    has_bit ((2 ^ 64 - 1) / 2 ^ (64 - (end - x)) * 2 ^ x % 2 ^ 64) i ≡ (nat_le x i && nat_lt i end)
run_bits_are x end i some room low =
    rw (ones_moved (end - x) x (omega arith) (omega arith)) (elim (cases_lt i x) [
      | inl below ↦
          let none : bit_at ((2 ^ (end - x) - 1) * 2 ^ x + 0) i ≡ 0 =
          bit_at_cat_low (2 ^ (end - x) - 1) x 0 i below ∙ bit_at-zero i in
          rw none (grind (arith, nat_tests))
      | inr from ↦
          let moved = bit_at_cat_high (2 ^ (end - x) - 1) x 0 i (pow_pos x) from in
          elim (cases_lt i end) [
            | inl within ↦
                let one = bit_at_ones (end - x) (i - x) (omega (arith, within, from)) in
                rw (moved, one) (grind (arith, nat_tests))
            | inr beyond ↦
                let none = bit_at_ones_above (end - x) (i - x) (omega (arith, beyond)) in
                rw (moved, none) (grind (arith, nat_tests))
          ]
    ])

-- ---- a word without them

pub without_run : (old run x end : ℕ) → run < 2 ^ 64 →
    ((i : ℕ) → i < 64 → has_bit run i ≡ (nat_le x i && nat_lt i end)) →
    IsWithout x end old (bit_and old (bit_not w64 run))
without_run old run x end small is i low = rw (← is i low) (has_bit-without old run i small low)

-- it is less where it had one
pub less_without : (old run x end : ℕ) → run < 2 ^ 64 → x < end → x < 64 → has_bit old x ≡ true →
    ((i : ℕ) → i < 64 → has_bit run i ≡ (nat_le x i && nat_lt i end)) →
    bit_and old (bit_not w64 run) < old
less_without old run x end small some low set is =
    elim (cases_eq (bit_and old (bit_not w64 run)) old) [
      | inl same ↦
          let gone = rw same at (without_run old run x end small is x low) in
          let never : has_bit old x ≡ false = gone ∙ grind (arith, nat_tests) in
          absurd (both_ways (has_bit old x) never set)
      | inr other ↦
          let most = and_le_l old (bit_not w64 run) in omega (arith, most, other)
    ]

-- ---- the words of rows without them

-- the bit of a row that was not taken yet, and now is
taken_now : (now was first cols before after : Bool) → before ≡ false → after ≡ true →
    was ≡ (first && not (cols && before)) → now ≡ (was && not cols) → now ≡ (first && not (cols && after))
taken_now now was first cols before after none some e f = f ∙ rw (e, none, some) (by first cols)
  where
    by : (a b : Bool) → ((a && not (b && false)) && not b) ≡ (a && not (b && true))
    by true true = refl
    by true false = refl
    by false b = refl

-- those of one row more
pub row_taken : (x end y row run : ℕ) (old rows : List ℕ) → run < 2 ^ 64 → y ≤ row → row < length rows →
    ((i : ℕ) → i < 64 → has_bit run i ≡ (nat_le x i && nat_lt i end)) → AreTaken x end y row old rows →
    AreTaken x end y (row + 1) old (slice_set rows row (bit_and (slice_index_or rows row 0) (bit_not w64 run)))
row_taken x end y row run old rows small from there is taken i j low =
    let value = bit_and (slice_index_or rows row 0) (bit_not w64 run) in
    let was = taken i j low in
    elim (cases_eq j row) [
      | inl here ↦
          let now = without_run (slice_index_or rows row 0) run x end small is i low in
          let set = get_or-set_same rows row value 0 there in
          let out : (nat_le y row && nat_lt row row) ≡ false = grind (arith, nat_tests) in
          let in_it : (nat_le y row && nat_lt row (row + 1)) ≡ true = grind (arith, nat_tests) in
          rw (here, set) (taken_now _ _ (has_bit (slice_index old row) i) (nat_le x i && nat_lt i end) _ _ out in_it
          (rw here at was) now)
      | inr other ↦
          let set = get_or-set_other rows row j value 0 other in
          let same : nat_lt j (row + 1) ≡ nat_lt j row = grind (arith, nat_tests) in
          rw (set, same) was
    ]
