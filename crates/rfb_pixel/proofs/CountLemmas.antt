-- At how many places two rows have the same pixel, some at once.
use Rattle.std.proofs.Common.{◌≡◌, ◌∙◌, ℕ, ◌+◌, ◌-◌, ◌%◌, ◌^◌, ◌<◌, ◌≤◌, ◌==◌, zero, suc, List, [], ◌∷◌, Bool, true}
use Rattle.std.proofs.Common.{false, cond, length, map, take, drop, slice_index, sym, ap, refl, arith}
use Rattle.std.specs.Int.RustNames.{count_ones}
use Rattle.std.proofs.lemmas.List.{drop_more}
use Rattle.std.proofs.lemmas.Simd.{tops_compared, mask_l-mod, ones-mask_l_cons, length-zip2, length-chunk}
use Rattle.std.proofs.Math.Dec.{eqb}
use Rattle.rfb_pixel.specs.Rows.{equal_places}
use lib.Lanes.{mask_l, zip2, chunk, top}
use mir.Syntax.{w32}
use mir.Val.{bits, bool_byte, hbits}

ones_equal : (xs ys : List ℕ) → count_ones (mask_l (zip2 eqb xs ys)) ≡ equal_places xs ys
unfolding count_ones equal_places
ones_equal [] ys = refl
ones_equal (x ∷ xs) [] = refl
ones_equal (x ∷ xs) (y ∷ ys) =
    ones-mask_l_cons (eqb x y) (zip2 eqb xs ys) ∙ ap (λ n. cond (eqb x y) 1 0 + n) (ones_equal xs ys)

pub equal-le : (xs ys : List ℕ) → equal_places xs ys ≤ length xs
unfolding equal_places
equal-le [] ys = omega arith
equal-le (x ∷ xs) [] = omega arith
equal-le (x ∷ xs) (y ∷ ys) = here (x == y) (equal_places xs ys) (equal-le xs ys)
  where
    here : (b : Bool) (n : ℕ) → n ≤ length xs → cond b 1 0 + n ≤ length (x ∷ xs)
    here true n less = omega (arith, less)
    here false n less = omega (arith, less)

pub equal_chunks : (xs ys : List ℕ) (at : ℕ) → at + 16 ≤ length xs → at + 16 ≤ length ys →
    count_ones (mask_l (map (top (hbits w32))
    (zip2 (λ a b. cond (eqb a b) (2 ^ bits w32 - 1) 0) (chunk at 16 xs) (chunk at 16 ys))) % 2 ^ 64)
    ≡ equal_places (chunk at 16 xs) (chunk at 16 ys)
equal_chunks xs ys at left right =
    let long_x = length-chunk at 16 xs left in
    let long_y = length-chunk at 16 ys right in
    let ms = zip2 eqb (chunk at 16 xs) (chunk at 16 ys) in
    let long : length ms ≡ 16 = length-zip2 eqb (chunk at 16 xs) (chunk at 16 ys) (long_x ∙ sym long_y) ∙ long_x in
    ap (λ ms. count_ones (mask_l ms % 2 ^ 64)) (tops_compared w32 eqb (chunk at 16 xs) (chunk at 16 ys))
    ∙ ap count_ones (mask_l-mod ms 64 (omega (arith, long)))
    ∙ ones_equal (chunk at 16 xs) (chunk at 16 ys)

-- the places of the front and those of the rest
pub equal_split : (n m : ℕ) (a b : List ℕ) → n + m ≤ length a → n + m ≤ length b → equal_places (take (n + m) a)
    (take (n + m) b) ≡ equal_places (take n a) (take n b) + equal_places (take m (drop n a)) (take m (drop n b))
unfolding equal_places
equal_split zero m a b long_a long_b = let all : zero + m ≡ m = omega arith in rw all (omega arith)
equal_split (suc n) m [] b long_a long_b = absurd (omega arith)
equal_split (suc n) m (x ∷ a) [] long_a long_b = absurd (omega arith)
equal_split (suc n) m (x ∷ a) (y ∷ b) long_a long_b =
    let next : suc n + m ≡ suc (n + m) = omega arith in
    let rest = equal_split n m a b (omega arith) (omega arith) in
    rw next (omega (arith, rest))

-- one place
pub equal_one : (a b : List ℕ) (i : ℕ) → i < length a → i < length b →
    equal_places (take 1 (drop i a)) (take 1 (drop i b)) ≡ cond (slice_index a i == slice_index b i) 1 0
unfolding equal_places
equal_one a b i low_a low_b = rw (drop_more a i 0 low_a, drop_more b i 0 low_b) (omega arith)

pub equal_none : 0 ≡ equal_places [] []
unfolding equal_places
equal_none = refl

-- a truth value as a number
pub one_if : (b : Bool) → bool_byte b ≡ cond b 1 0
one_if true = refl
one_if false = refl

pub one_at_most : (b : Bool) → cond b 1 0 ≤ 1
one_at_most true = omega arith
one_at_most false = omega arith
