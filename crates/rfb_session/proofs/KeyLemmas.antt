-- Keys by their names: hexadecimal numbers, and names one by one.
use Rattle.std.proofs.Common.{◌≡◌, ◌∙◌, ◌+◌, ◌^◌, ◌<◌, ◌≤◌, ℕ, zero, suc, Bool, true, false, List, [], ◌∷◌}
use Rattle.std.proofs.Common.{Option, None, Some, Bor, refl, sym, ap, subst, length, map, take, get_or, arith, add-one}
use Rattle.std.proofs.Math.Nat.{pow-le-pow_right}
use Rattle.std.proofs.lemmas.Bool.{le-leb, lt-ltb}
use Rattle.std.proofs.lemmas.Bool.Decides.{nat_tests}
use Rattle.std.proofs.lemmas.Int.Digits.{digits_value-lt}
use Rattle.std.proofs.lemmas.List.{take_all}
use Rattle.std.specs.Char.{digit_value}
use Rattle.std.specs.Prelude.{nat_le, nat_lt, ◌&&◌}
use Rattle.std.specs.Str.Parse.{AllDigits, digits_value}
use Rattle.rfb_session.specs.drive.Keys.{AreKeys, are_hex_digits, hex_number, key_of}
use Rattle.rfb_session.specs.language.Words.{texts}
use Rattle.rfb_session.proofs.ArgumentLaws.{word}

-- ---- hexadecimal digits

pub hex_is : (ds : List ℕ) → AllDigits 16 ds → are_hex_digits ds ≡ true
hex_is [] all = refl
hex_is (d ∷ ds) all = let low : nat_lt (digit_value d) 16 ≡ true = lt-ltb _ _ all.0 in rw (low, hex_is ds all.1)

denied : (b : Bool) → (b && false) ≡ false
denied true = refl
denied false = refl

pub hex_not : (ds : List ℕ) (i : ℕ) → i < length ds → ¬ (digit_value (get_or ds i 0) < 16) → are_hex_digits ds ≡ false
hex_not [] i within other = absurd (omega arith)
hex_not (d ∷ ds) zero within other =
    let high : nat_lt (digit_value d) 16 ≡ false = grind (arith, nat_tests) in rw high
hex_not (d ∷ ds) (suc i) within other =
    rw (hex_not ds i (omega arith) other) (denied (nat_lt (digit_value d) 16))

hex_after : (ds : List ℕ) (i : ℕ) → i < length ds → AllDigits 16 (take i ds) → digit_value (get_or ds i 0) < 16 →
    AllDigits 16 (take (suc i) ds)
hex_after [] i within all low = absurd (omega arith)
hex_after (d ∷ ds) zero within all low = (low, tt)
hex_after (d ∷ ds) (suc i) within all low = (all.0, hex_after ds i (omega arith) all.1 low)

pub hex_more : (ds : List ℕ) (i : ℕ) → i < length ds → AllDigits 16 (take i ds) → digit_value (get_or ds i 0) < 16 →
    AllDigits 16 (take (i + 1) ds)
hex_more ds i within all low = rw add-one (hex_after ds i within all low)

take_short : (i : ℕ) (xs : List ℕ) → length (take i xs) ≤ i
take_short zero xs = omega arith
take_short (suc i) [] = omega arith
take_short (suc i) (x ∷ xs) = omega (arith, take_short i xs)

-- seven digits have a value below 16 to the seventh
pub hex_below : (ds : List ℕ) (i : ℕ) → AllDigits 16 (take i ds) → i ≤ 7 → digits_value 16 (take i ds) < 268435456
hex_below ds i all few =
    let short : length (take i ds) ≤ 7 = omega (arith, take_short i ds) in
    let bound : 16 ^ length (take i ds) ≤ 268435456 = pow-le-pow_right {n = 16} (omega arith) short in
    omega (arith, digits_value-lt 16 (take i ds) all, bound)

pub hex_all : (ds : List ℕ) (i : ℕ) → length ds ≤ i → AllDigits 16 (take i ds) → are_hex_digits ds ≡ true
hex_all ds i over all = hex_is ds (subst (λ (l : List ℕ). AllDigits 16 l) (take_all i ds over) all)

pub hex_some : (ds : List ℕ) (n v : ℕ) → 1 ≤ length ds → length ds ≤ 8 → are_hex_digits ds ≡ true →
    v ≡ digits_value 16 (take n ds) → length ds ≤ n → Some v ≡ hex_number ds
hex_some ds n v some few all value over =
    let a : nat_le 1 (length ds) ≡ true = le-leb _ _ some in let b : nat_le (length ds) 8 ≡ true = le-leb _ _ few in
    let e : v ≡ digits_value 16 ds = value ∙ ap (λ (l : List ℕ). digits_value 16 l) (take_all n ds over) in
    rw (a, b, all) (ap (λ (x : ℕ). Some x) e)

pub hex_none : (ds : List ℕ) → are_hex_digits ds ≡ false → hex_number ds ≡ None
hex_none ds other =
    let e = denied (nat_le 1 (length ds) && nat_le (length ds) 8) in rw (other, e) refl

-- ---- names one by one

some_length : (keys : List ℕ) → length (map (λ key. Some key) keys) ≡ length keys
some_length [] = refl
some_length (key ∷ keys) = omega (arith, some_length keys)

keys_length : (names : List (Bor (List ℕ))) → length (map key_of (texts names)) ≡ length names
keys_length [] = refl
keys_length (name ∷ names) = omega (arith, keys_length names)

no_keys : (names : List (Bor (List ℕ))) (k : ℕ) (d : Bor (List ℕ)) → k < length names →
    key_of (word names k d) ≡ None → (keys : List ℕ) → map key_of (texts names) ≡ map (λ key. Some key) keys → ⊥
no_keys [] k d within none keys e = absurd (omega arith)
no_keys (name ∷ names) k d within none [] e = absurd (cc)
no_keys (name ∷ names) zero d within none (key ∷ keys) e =
    let first : key_of name.now ≡ Some key = cc in let bad : None ≡ Some key = sym none ∙ first in absurd (cc)
no_keys (name ∷ names) (suc k) d within none (key ∷ keys) e =
    let rest : map key_of (texts names) ≡ map (λ key. Some key) keys = cc in
    no_keys names k d (omega arith) none keys rest

pub unknown_name : (names : List (Bor (List ℕ))) (k : ℕ) (d : Bor (List ℕ)) → k < length names →
    key_of (word names k d) ≡ None → (keys : List ℕ) → ¬ (AreKeys (texts names) keys)
unknown_name names k d within none keys are = no_keys names k d within none keys are.0

-- nine names are no keys
pub too_many_names : (names : List (Bor (List ℕ))) → 8 < length names → (keys : List ℕ) → ¬ (AreKeys (texts names) keys)
too_many_names names many keys are =
    let s = ap (λ (l : List (Option ℕ)). length l) are.0 in
    omega (arith, s, keys_length names, some_length keys, are.1, many)

-- those that were pushed are as many as the names
pub pushed_length : (names : List (Bor (List ℕ))) (keys : List ℕ) →
    map key_of (texts names) ≡ map (λ key. Some key) keys → length names ≡ length keys
pushed_length names keys e =
    let s = ap (λ (l : List (Option ℕ)). length l) e in omega (arith, s, keys_length names, some_length keys)

pub all_keys : (names : List (Bor (List ℕ))) (k : ℕ) (keys : List ℕ) → length names ≤ k →
    map key_of (texts (take k names)) ≡ map (λ key. Some key) keys →
    map key_of (texts names) ≡ map (λ key. Some key) keys
all_keys names k keys over named =
    subst (λ (ns : List (Bor (List ℕ))). map key_of (texts ns) ≡ map (λ key. Some key) keys)
    (take_all k names over) named
