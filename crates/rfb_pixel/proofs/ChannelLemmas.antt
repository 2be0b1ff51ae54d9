-- Laws of one component's field: its bits, and what rounding does.
use Rattle.std.proofs.Common.{◌≡◌, ℕ, ◌+◌, ◌-◌, ◌*◌, ◌/◌, ◌%◌, ◌^◌, ◌<◌, ◌≤◌, zero, suc, refl, sym, ◌∙◌, ap, arith}
use Rattle.std.specs.Int.{bit_at}
use Rattle.std.specs.Int.RustNames.{count_ones}
use Rattle.std.proofs.Math.Nat.{mul-le-mul_right, pow-suc}
use Rattle.std.proofs.lemmas.Nat.{div-add-mod', div-mul-add, div_below, mod_below, ones_cat, pow_below, pow_pos}
use Rattle.std.proofs.lemmas.Nat.{shr-shr, shr_split}
use Rattle.std.proofs.lemmas.Bool.{cases_lt}
use Rattle.std.proofs.Common.{inl, inr, true}
use Rattle.std.proofs.lemmas.Bool.Decides.{nat_tests}
use Rattle.std.proofs.lemmas.Nat.Bits.{bit_at-zero, bit_at_above, bit_at_cat_high, bit_at_cat_low, same_from_bits_below}
use Rattle.rfb_pixel.specs.declared.channel.Channel.{Channel}
use Rattle.rfb_pixel.specs.Channel.{IsInField, IsMax, held_in, rescaled, is_apart}
use Rattle.rfb_pixel.specs.Format.{IsApart}

-- rounding stays in the range that it goes to
pub rescaled-le : (from to v : ℕ) → 0 < from → v ≤ from → rescaled from to v ≤ to
rescaled-le from to v some within =
    let products : v * to ≤ from * to = mul-le-mul_right to within in
    let below : v * to + (from - 1) / 2 < (to + 1) * from = omega (arith, products) in
    let less = div_below (v * to + (from - 1) / 2) from (to + 1) some below in
    omega (arith, less)

-- between equal ranges rounding changes nothing
pub rescaled-same : (m v : ℕ) → 0 < m → rescaled m m v ≡ v
rescaled-same m v some = div-mul-add v m ((m - 1) / 2) (omega arith)

-- there and back, by way of a finer range, leaves a value as it was; both ranges are odd
pub rescaled-back : (m n p q v : ℕ) → m ≡ 2 * p + 1 → n ≡ 2 * q + 1 → m ≤ n →
    rescaled n m (rescaled m n v) ≡ v
rescaled-back m n p q v odd_m odd_n finer =
    let sum = v * n + (m - 1) / 2 in
    let split : sum / m * m + sum % m ≡ sum = div-add-mod' sum m in
    let low = mod_below sum m (omega arith) in
    let half_m : (m - 1) / 2 ≡ p = omega arith in
    let half_n : (n - 1) / 2 ≡ q = omega arith in
    let rest = sum / m * m + (n - 1) / 2 - v * n in
    let whole : sum / m * m + (n - 1) / 2 ≡ v * n + rest = omega arith in
    ap (λ (x : ℕ). x / n) whole ∙ div-mul-add v n rest (omega arith)

-- the maximum of a field is odd
pub max_of-odd : (w : ℕ) → 1 ≤ w → 2 ^ w - 1 ≡ 2 * (2 ^ (w - 1) - 1) + 1
max_of-odd zero some = absurd (omega arith)
max_of-odd (suc w) some =
    let double : 2 ^ suc w ≡ 2 ^ w * 2 = pow-suc 2 w in
    let less : suc w - 1 ≡ w = omega arith in
    let positive = pow_pos w in
    rw less (omega arith)

-- the low w bits of a number
bit_at-mod : (n w i : ℕ) → i < w → bit_at (n % 2 ^ w) i ≡ bit_at n i
bit_at-mod n w i low =
    sym (bit_at_cat_low (n / 2 ^ w) w (n % 2 ^ w) i low)
    ∙ ap (λ (m : ℕ). bit_at m i) (shr_split n w)

-- a bit of what a field holds is a bit of the pixel
pub bit_at-held_in : (c : Channel) (pixel i : ℕ) → i < c.width →
    bit_at (held_in c pixel) i ≡ bit_at pixel (c.shift + i)
bit_at-held_in c pixel i low =
    bit_at-mod (pixel / 2 ^ c.shift) c.width i low ∙ ap (λ (m : ℕ). m % 2) (shr-shr pixel c.shift i)

-- what a field holds is known by the field's bits alone
pub held_in-is : (c : Channel) (pixel v : ℕ) → v < 2 ^ c.width →
    ((i : ℕ) → i < c.width → bit_at pixel (c.shift + i) ≡ bit_at v i) → held_in c pixel ≡ v
held_in-is c pixel v small same =
    same_from_bits_below c.width (held_in c pixel) v
    (mod_below (pixel / 2 ^ c.shift) (2 ^ c.width) (pow_pos c.width)) small
    (λ i low. bit_at-held_in c pixel i low ∙ same i low)

-- a value at its shift has its own bits from there on
pub bit_at-placed : (shift v i : ℕ) → bit_at (v * 2 ^ shift) (shift + i) ≡ bit_at v i
bit_at-placed shift v i =
    let high = bit_at_cat_high v shift 0 (shift + i) (pow_pos shift) (omega arith) in
    let whole : v * 2 ^ shift + 0 ≡ v * 2 ^ shift = omega arith in
    let left : shift + i - shift ≡ i = omega arith in
    ap (λ (m : ℕ). bit_at m (shift + i)) (sym whole) ∙ high ∙ ap (λ (j : ℕ). bit_at v j) left

-- a field's value at its shift has no bit outside the field
pub bit_at-outside : (c : Channel) (v i : ℕ) → v < 2 ^ c.width → (IsInField c i → ⊥) →
    bit_at (v * 2 ^ c.shift) i ≡ 0
bit_at-outside c v i small outside = elim (cases_lt i c.shift) [
  | inl low ↦
      let whole : v * 2 ^ c.shift + 0 ≡ v * 2 ^ c.shift = omega arith in
      ap (λ (m : ℕ). bit_at m i) (sym whole) ∙ bit_at_cat_low v c.shift 0 i low ∙ bit_at-zero i
  | inr high ↦ elim (cases_lt i (c.shift + c.width)) [
    | inl within ↦ absurd (outside (high, within))
    | inr above ↦
        let place : c.shift + (i - c.shift) ≡ i = omega arith in
        ap (λ (j : ℕ). bit_at (v * 2 ^ c.shift) j) (sym place)
        ∙ bit_at-placed c.shift v (i - c.shift)
        ∙ bit_at_above v c.width (i - c.shift) small (omega arith)
  ]
]

-- 2^n - 1 has n ones
pub ones_of_max : (n : ℕ) → count_ones (2 ^ n - 1) ≡ n
unfolding count_ones
ones_of_max zero = refl
ones_of_max (suc n) =
    let some = pow_pos n in
    let double : 2 ^ suc n ≡ 2 ^ n * 2 = pow-suc 2 n in
    let split : 2 ^ suc n - 1 ≡ 1 * 2 ^ n + (2 ^ n - 1) = omega arith in
    ap count_ones split ∙ ones_cat n 1 (2 ^ n - 1) (omega arith)
    ∙ ap (λ (k : ℕ). 1 + k) (ones_of_max n) ∙ omega arith

-- a maximum passes the test
pub max-passes : (m : ℕ) → IsMax m → (0 < m) × (m ≡ 2 ^ count_ones m - 1)
max-passes m max =
    let some = pow_below 0 max.n (omega (arith, max.is)) in
    let width : count_ones m ≡ max.n = ap count_ones max.is.2 ∙ ones_of_max max.n in
    (omega (arith, max.is.2), rw width max.is.2)

-- two fields with one maximum are equally wide
pub same_width : (v w : ℕ) → 2 ^ v - 1 ≡ 2 ^ w - 1 → v ≡ w
same_width v w same = sym (ones_of_max v) ∙ ap count_ones same ∙ ones_of_max w

-- fields that share no bit pass the test
pub apart-passes : (a b : Channel) → 1 ≤ a.width → 1 ≤ b.width → IsApart a b → is_apart a b ≡ true
apart-passes a b some_a some_b apart = elim (cases_lt b.shift (a.shift + a.width)) [
  | inl over ↦ elim (cases_lt a.shift (b.shift + b.width)) [
    | inl under ↦ elim (cases_lt a.shift b.shift) [
      | inl left ↦ absurd (apart b.shift (omega arith, omega arith) (omega arith, omega arith))
      | inr right ↦ absurd (apart a.shift (omega arith, omega arith) (omega arith, omega arith))
    ]
    | inr below ↦ grind (arith, nat_tests)
  ]
  | inr above ↦ grind (arith, nat_tests)
]
