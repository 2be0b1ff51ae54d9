-- Sets of seats, by bits.
use Rattle.std.proofs.Common.{◌≡◌, ◌≢◌, ◌<◌, ◌^◌, ◌*◌, ◌%◌, ◌/◌, ◌⊎◌, ◌&&◌}
use Rattle.std.proofs.Common.{◌||◌, ◌-◌, ◌+◌, ℕ, suc, Bool, true}
use Rattle.std.proofs.Common.{false, not, nat_eq, [], ◌∷◌}
use Rattle.std.proofs.Common.{inl, inr, refl, ◌∙◌, arith, bit_or, bit_and}
use Rattle.std.proofs.lemmas.Bool.{cases_eq}
use Rattle.std.proofs.lemmas.Bool.Decides.{nat_tests}
use Rattle.std.proofs.lemmas.Nat.Bits.{shr_and_one, bit_at_ones, bit_at_set_same, bit_at_set_other}
use Rattle.std.proofs.lemmas.Nat.Bits.{bit_at_clear_same, bit_at_clear_other, bit_at_and, bit_at_not, bit_at-lt}
use Rattle.std.specs.Int.{w8}
use Rattle.rfb_picture.specs.Places.{has_bit}
use Rattle.rfb_session.specs.Seats.{seats_from}

pub in_all : (k : ℕ) → k < 8 → has_bit 255 k ≡ true
in_all k within = rw (bit_at_ones 8 k within) refl

-- ---- one seat more, and one less

with_bit : (bits seat k : ℕ) → seat < 8 →
    has_bit (bit_or bits (1 * 2 ^ seat % 256)) k ≡ (has_bit bits k || nat_eq k seat)
with_bit bits seat k within = by (cases_eq k seat)
  where
    by : ((k ≡ seat) ⊎ (k ≢ seat)) →
        has_bit (bit_or bits (1 * 2 ^ seat % 256)) k ≡ (has_bit bits k || nat_eq k seat)
    by (inl e) = rw e (grind (arith, nat_tests, bit_at_set_same w8 bits seat within))
    by (inr differ) = rw (bit_at_set_other w8 bits seat within k differ) (grind (arith, nat_tests))

without_bit : (bits seat k : ℕ) → seat < 8 → k < 8 →
    has_bit (bit_and bits (255 - 1 * 2 ^ seat % 256)) k ≡ (has_bit bits k && not (nat_eq k seat))
without_bit bits seat k within low = by (cases_eq k seat)
  where
    by : ((k ≡ seat) ⊎ (k ≢ seat)) →
        has_bit (bit_and bits (255 - 1 * 2 ^ seat % 256)) k
        ≡ (has_bit bits k && not (nat_eq k seat))
    by (inl e) = rw e (grind (arith, nat_tests, bit_at_clear_same w8 bits seat within))
    by (inr differ) =
        rw (bit_at_clear_other w8 bits seat within k low differ) (grind (arith, nat_tests))

pub with_one : (bits set number seat k : ℕ) → bits ≡ set → number ≡ seat → number < 8 →
    has_bit (bit_or bits (1 * 2 ^ number % 256)) k ≡ (has_bit set k || nat_eq k seat)
with_one bits set number seat k is same within =
    with_bit bits number k within ∙ (λ i. has_bit (is i) k || nat_eq k (same i))

pub without_one : (bits set number seat k : ℕ) → bits ≡ set → number ≡ seat → number < 8 →
    k < 8 → has_bit (bit_and bits (255 - 1 * 2 ^ number % 256)) k
    ≡ (has_bit set k && not (nat_eq k seat))
without_one bits set number seat k is same within low =
    without_bit bits number k within low ∙ (λ i. has_bit (is i) k && not (nat_eq k (same i)))

pub without_bits : (bits other k : ℕ) → other < 256 → k < 8 →
    has_bit (bit_and bits (255 - other)) k ≡ (has_bit bits k && not (has_bit other k))
without_bits bits other k small low =
    rw (bit_at_and bits (255 - other) k, bit_at_not w8 other k small low)
    (grind (arith, nat_tests, bit_at-lt bits k, bit_at-lt other k))

-- ---- its seats, one after another

one_less : (at : ℕ) → at < 8 → 8 - at ≡ suc (8 - (at + 1))
one_less at below = omega arith

pub seat_next : (bits at : ℕ) → at < 8 → has_bit bits at ≡ true →
    seats_from bits at (8 - at) ≡ at ∷ seats_from bits (at + 1) (8 - (at + 1))
seat_next bits at below set = rw (one_less at below, set) refl

pub seat_skipped : (bits at : ℕ) → at < 8 → has_bit bits at ≡ false →
    seats_from bits at (8 - at) ≡ seats_from bits (at + 1) (8 - (at + 1))
seat_skipped bits at below clear = rw (one_less at below, clear) refl

pub none_left : (bits at : ℕ) → (at < 8 → ⊥) → seats_from bits at (8 - at) ≡ []
none_left bits at past = let e : 8 - at ≡ 0 = omega (arith, past) in rw e refl

-- the test of a bit
pub bit_is : (bits at : ℕ) (b : Bool) → nat_eq (bit_and (bits / 2 ^ at) 1) 1 ≡ b →
    has_bit bits at ≡ b
bit_is bits at b is = rw (shr_and_one bits at) at is
