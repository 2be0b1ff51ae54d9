-- Pictures compared, a row after another.
use Rattle.std.proofs.Common.{◌≡◌, ◌∙◌, ℕ, suc, ◌+◌, ◌*◌, ◌-◌, ◌<◌, ◌≤◌, Bool, true, false, cond, List, [], ◌∷◌, ◌++◌}
use Rattle.std.proofs.Common.{Option, None, Some, MatchOption, inl, inr, length, take, drop, refl, sym, ap}
use Rattle.std.proofs.Common.{IfSome, add-one, arith, length-append, length-drop, take-add}
use Rattle.std.proofs.lemmas.Bool.{cases_lt}
use Rattle.std.proofs.lemmas.List.{get_or_append_left, get_or-append_right, length-take-le}
use Rattle.std.proofs.Math.Nat.{mul-le-mul_right}
use Rattle.rfb_picture.specs.Grid.{Grid, row_of}
use Rattle.rfb_pixel.specs.declared.colour.Colour.{Colour}
use Rattle.rfb_session.specs.declared.drive.comparing.Difference.{Difference}
use Rattle.rfb_session.specs.declared.drive.near.RowDifference.{RowDifference}
use Rattle.rfb_session.specs.drive.Near.{AreNear, IsFirstFar, far_places, is_near}
use Rattle.rfb_session.specs.drive.Compare.{Differs, joined, rows_of}

-- ---- rows one after another, each with as many places as was expected

near_append : (n : ℕ) (a b r s : List Colour) → length a ≡ length b → length r ≡ length s → AreNear n a b →
    AreNear n r s →
    AreNear n (a ++ r) (b ++ s)
near_append n a b r s same sames above here k d inside = elim (cases_lt k (length a)) [
  | inl low ↦
      rw (get_or_append_left a r d k low, get_or_append_left b s d k (omega arith)) (above k d low)
  | inr high ↦
      let len = length-append a r in
      rw (get_or-append_right a r (length a) k d refl high, get_or-append_right b s (length a) k d (sym same) high)
      (here (k - length a) d (omega arith))
]

count_append : (n : ℕ) (a b r s : List Colour) → length a ≡ length b →
    far_places n (a ++ r) (b ++ s) ≡ far_places n a b + far_places n r s
unfolding far_places
count_append n [] [] r s same = omega arith
count_append n [] (y ∷ b) r s same = absurd (omega arith)
count_append n (x ∷ a) [] r s same = absurd (omega arith)
count_append n (x ∷ a) (y ∷ b) r s same = let rest = count_append n a b r s (omega arith) in omega (arith, rest)

none_far : (n : ℕ) (a b : List Colour) → length a ≡ length b → AreNear n a b → far_places n a b ≡ 0
unfolding far_places
none_far n [] b same near = refl
none_far n (x ∷ a) [] same near = absurd (omega arith)
none_far n (x ∷ a) (y ∷ b) same near =
    let first : is_near n x y ≡ true = near 0 x (omega arith) in
    let rest = none_far n a b (omega arith) (λ k d low. near (suc k) d (omega arith)) in rw first (omega (arith, rest))

-- a place above is the first still
first_above : (n : ℕ) (a b r s : List Colour) (i : ℕ) → length a ≡ length b → IsFirstFar n a b i →
    IsFirstFar n (a ++ r) (b ++ s) i
first_above n a b r s i same first = record {
  inside = omega (arith, first.inside, length-append a r);
  far = λ d.
      let low = first.inside in
      rw (get_or_append_left a r d i low, get_or_append_left b s d i (omega (arith, low))) (first.far d);
  near_before = λ k d before.
      let low : k < length a = omega (arith, first.inside, before) in
      rw (get_or_append_left a r d k low, get_or_append_left b s d k (omega (arith, low)))
      (first.near_before k d before);
}

-- a place of the next row is the first, where those above are near
first_here : (n : ℕ) (a b r s : List Colour) (i j : ℕ) → length a ≡ length b → AreNear n a b → IsFirstFar n r s i →
    j ≡ length a + i → IsFirstFar n (a ++ r) (b ++ s) j
first_here n a b r s i j same above first is = record {
  inside = omega (arith, first.inside, length-append a r);
  far = λ d.
      let e : j - length a ≡ i = omega arith in
      rw (
        get_or-append_right a r (length a) j d refl (omega arith),
        get_or-append_right b s (length a) j d (sym same) (omega arith),
        e,
      ) (first.far d);
  near_before = λ k d before. elim (cases_lt k (length a)) [
    | inl low ↦
        rw (get_or_append_left a r d k low, get_or_append_left b s d k (omega arith)) (above k d low)
    | inr high ↦
        rw (get_or-append_right a r (length a) k d refl high, get_or-append_right b s (length a) k d (sym same) high)
        (first.near_before (k - length a) d (omega arith))
  ];
}

-- ---- what is found up to a row, and in that row

abbrev pub Found : ℕ → List Colour → List Colour → ℕ → Option Difference → Type 0
Found n a b w found = MatchOption found (AreNear n a b) (Differs n a b w)

pub found_more : (n w y : ℕ) (a b r s : List Colour) (found : Option Difference) (more : Option RowDifference) →
    length a ≡ y * w → length b ≡ y * w → length r ≡ w → length s ≡ w → Found n a b w found →
    MatchOption more (AreNear n r s) (λ here. IsFirstFar n r s here.first × (here.count ≡ far_places n r s)) →
    Found n (a ++ r) (b ++ s) w (joined found y more)
found_more n w y a b r s None None la lb lr ls above here =
    near_append n a b r s (omega arith) (omega arith) above here
found_more n w y a b r s (Some d) None la lb lr ls above here = record {
  column = above.column;
  first = first_above n a b r s _ (omega arith) above.first;
  count = omega (arith, above.count, count_append n a b r s (omega arith), none_far n r s (omega arith) here);
}
found_more n w y a b r s None (Some m) la lb lr ls above here = record {
  column = omega (arith, here.0.inside);
  first = first_here n a b r s m.first (y * w + m.first) (omega arith) above here.0 (omega arith);
  count = omega (arith, here.1, count_append n a b r s (omega arith), none_far n a b (omega arith) above);
}
found_more n w y a b r s (Some d) (Some m) la lb lr ls above here = record {
  column = above.column;
  first = first_above n a b r s _ (omega arith) above.first;
  count = omega (arith, above.count, here.1, count_append n a b r s (omega arith));
}

-- no places differ before the first row
pub found_none : (n w : ℕ) → Found n [] [] w None
found_none n w k d inside = absurd (omega arith)

pub far_few : (n : ℕ) (r s : List Colour) → far_places n r s ≤ length r
unfolding far_places
far_few n [] s = omega arith
far_few n (x ∷ r) [] = omega arith
far_few n (x ∷ r) (y ∷ s) = here (is_near n x y) (far_few n r s)
  where
    here : (b : Bool) → far_places n r s ≤ length r → cond b 0 1 + far_places n r s ≤ length (x ∷ r)
    here true few = omega (arith, few)
    here false few = omega (arith, few)

pub count_small : (n : ℕ) (r s : List Colour) (more : Option RowDifference) → length r < 65536 →
    MatchOption more (AreNear n r s) (λ here. IsFirstFar n r s here.first × (here.count ≡ far_places n r s)) →
    IfSome more (λ here. here.count < 65536)
count_small n r s None low here = tt
count_small n r s (Some m) low here = omega (arith, here.1, far_few n r s)

-- few differ in the rows so far, and in one more
pub few_more : (n y : ℕ) (r s : List Colour) (found : Option Difference) (more : Option RowDifference) →
    length r < 65536 →
    IfSome found (λ above. above.count ≤ 65535 * y) →
    MatchOption more (AreNear n r s) (λ here. IsFirstFar n r s here.first × (here.count ≡ far_places n r s)) →
    IfSome (joined found y more) (λ above. above.count ≤ 65535 * (y + 1))
few_more n y r s None None low above here = tt
few_more n y r s (Some d) None low above here = omega (arith, above)
few_more n y r s None (Some m) low above here = omega (arith, here.1, far_few n r s)
few_more n y r s (Some d) (Some m) low above here = omega (arith, above, here.1, far_few n r s)

-- the rows of a part, up to one more, and what was expected there
pub part_more : (n w x y row len : ℕ) (g : Grid Colour) (places r s : List Colour) (found result : Option Difference)
    (more : Option RowDifference) → length (rows_of g x y w row) ≡ row * w → r ≡ row_of g x (y + row) w →
    length r ≡ w → s ≡ take len (drop (row * w) places) → len ≡ w → (row + 1) * w ≤ length places →
    Found n (rows_of g x y w row) (take (row * w) places) w found →
    MatchOption more (AreNear n r s) (λ here. IsFirstFar n r s here.first × (here.count ≡ far_places n r s)) →
    result ≡ joined found row more →
    Found n (rows_of g x y w (row + 1)) (take ((row + 1) * w) places) w result
part_more n w x y row len g places r s found result more rows lent wide cut same inside above here is =
    let more_places : (row + 1) * w ≡ row * w + w = omega arith in
    let taken : take ((row + 1) * w) places ≡ take (row * w) places ++ s =
    ap (λ (k : ℕ). take k places) more_places ∙ take-add (row * w) w places
    ∙ ap (λ (l : List Colour). take (row * w) places ++ l)
    (ap (λ (k : ℕ). take k (drop (row * w) places)) (sym same) ∙ sym cut) in
    let next : rows_of g x y w (row + 1) ≡ rows_of g x y w row ++ r =
    ap (λ (k : ℕ). rows_of g x y w k) (add-one row) ∙ ap (λ (l : List Colour). rows_of g x y w row ++ l) (sym lent) in
    let la = length-take-le (row * w) places (omega arith) in
    let ls : length s ≡ w = ap (λ (l : List Colour). length l) cut ∙ length-take-le len (drop (row * w) places)
    (omega (arith, length-drop (row * w) places)) ∙ same in
    rw (next, taken, is) (found_more n w row (rows_of g x y w row)
    (take (row * w) places) r s found more rows la wide ls
    above here)

pub rows_more : (w x y row : ℕ) (g : Grid Colour) (r : List Colour) → length (rows_of g x y w row) ≡ row * w →
    r ≡ row_of g x (y + row) w → length r ≡ w → length (rows_of g x y w (row + 1)) ≡ (row + 1) * w
rows_more w x y row g r rows lent wide =
    let next : rows_of g x y w (row + 1) ≡ rows_of g x y w row ++ r =
    ap (λ (k : ℕ). rows_of g x y w k) (add-one row) ∙ ap (λ (l : List Colour). rows_of g x y w row ++ l) (sym lent) in
    rw next (omega (arith, length-append (rows_of g x y w row) r))

-- a row of what was expected, as it is cut out
pub cut_is : (start from row wide w len : ℕ) (items places : List Colour) → items ≡ places → from ≡ row → wide ≡ w →
    start ≡ from * wide → take len (drop start items) ≡ take len (drop (row * w) places)
cut_is start from row wide w len items places all rows columns is = rw (is, rows, columns, all) refl

pub row_inside : (row h w n : ℕ) → row < h → n ≡ h * w → (row + 1) * w ≤ n
row_inside row h w n low is = omega (arith, is, mul-le-mul_right w low)
