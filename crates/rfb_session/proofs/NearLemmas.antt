-- At how many places two rows are too far apart, a place after another.
use Rattle.std.proofs.Common.{◌≡◌, ◌∙◌, ℕ, zero, suc, ◌+◌, ◌<◌, ◌≤◌, Bool, true, false, cond, List, [], ◌∷◌}
use Rattle.std.proofs.Common.{length, take, drop, slice_index_or, refl, sym, ap, arith, add-one, ◌-◌, length-drop}
use Rattle.std.proofs.lemmas.List.{take_all}
use Rattle.std.specs.Prelude.{not}
use mir.Val.{bool_byte}
use Rattle.rfb_pixel.specs.declared.colour.Colour.{Colour}
use Rattle.rfb_session.specs.drive.Near.{IsFirstFar, far_places, is_near}

pub far_none : (within : ℕ) → 0 ≡ far_places within [] []
unfolding far_places
far_none within = refl

-- one more place
far_after : (within : ℕ) (a b : List Colour) (i : ℕ) (d : Colour) → i < length a → i < length b →
    far_places within (take (suc i) a) (take (suc i) b)
    ≡ far_places within (take i a) (take i b) + cond (is_near within (slice_index_or a i d) (slice_index_or b i d)) 0 1
unfolding far_places
far_after within [] b i d low_a low_b = absurd (omega arith)
far_after within (x ∷ a) [] i d low_a low_b = absurd (omega arith)
far_after within (x ∷ a) (y ∷ b) zero d low_a low_b = omega arith
far_after within (x ∷ a) (y ∷ b) (suc i) d low_a low_b =
    let rest = far_after within a b i d (omega arith) (omega arith) in omega (arith, rest)

pub far_more : (within : ℕ) (a b : List Colour) (i : ℕ) (d : Colour) → i < length a → i < length b →
    far_places within (take (i + 1) a) (take (i + 1) b)
    ≡ far_places within (take i a) (take i b) + cond (is_near within (slice_index_or a i d) (slice_index_or b i d)) 0 1
far_more within a b i d low_a low_b = rw add-one (far_after within a b i d low_a low_b)

-- places that are near count nothing
pub far_rest : (within : ℕ) (a b : List Colour) (i : ℕ) → length a ≡ length b → i ≤ length a →
    ((k : ℕ) (d : Colour) → k < i → is_near within (slice_index_or a k d) (slice_index_or b k d) ≡ true) →
    far_places within (drop i a) (drop i b) ≡ far_places within a b
unfolding far_places
far_rest within a b zero same few near = refl
far_rest within [] b (suc i) same few near = absurd (omega arith)
far_rest within (x ∷ a) [] (suc i) same few near = absurd (omega arith)
far_rest within (x ∷ a) (y ∷ b) (suc i) same few near =
    let first : is_near within x y ≡ true = near 0 x (omega arith) in
    let rest = far_rest within a b i (omega arith) (omega arith) (λ k d low. near (suc k) d (omega arith)) in
    rest ∙ rw first (omega arith)

pub one_unless : (b : Bool) → bool_byte (not b) ≡ cond b 0 1
one_unless true = refl
one_unless false = refl

pub one_at_most : (b : Bool) → cond b 0 1 ≤ 1
one_at_most true = omega arith
one_at_most false = omega arith

-- inside a row no other colour is read
pub read_inside : (a : List Colour) (i : ℕ) (d e : Colour) → i < length a → slice_index_or a i d ≡ slice_index_or a i e
read_inside [] i d e low = absurd (omega arith)
read_inside (x ∷ a) zero d e low = refl
read_inside (x ∷ a) (suc i) d e low = read_inside a i d e (omega arith)

pub is_first_far : (within : ℕ) (a b : List Colour) (place : ℕ) (none : Colour) (r : Bool) → length a ≡ length b →
    place < length a → r ≡ is_near within (slice_index_or a place none) (slice_index_or b place none) → r ≡ false →
    ((k : ℕ) (d : Colour) → k < place → is_near within (slice_index_or a k d) (slice_index_or b k d) ≡ true) →
    IsFirstFar within a b place
is_first_far within a b place none r same low is far before = record {
  inside = low;
  far = λ d.
      let x : slice_index_or a place d ≡ slice_index_or a place none = read_inside a place d none low in
      let y : slice_index_or b place d ≡ slice_index_or b place none = read_inside b place d none (omega arith) in
      rw (x, y) (sym is ∙ far);
  near_before = before;
}

-- what is left of a row, from a place on
pub tail_is : (a : List Colour) (i : ℕ) → take (length a - i) (drop i a) ≡ drop i a
tail_is a i = take_all (length a - i) (drop i a) (omega (arith, length-drop i a))

-- those that are left are counted
pub far_left : (within count : ℕ) (a b : List Colour) (i : ℕ) → length a ≡ length b → i ≤ length a →
    count ≡ far_places within (take (length a - i) (drop i a)) (take (length b - i) (drop i b)) →
    ((k : ℕ) (d : Colour) → k < i → is_near within (slice_index_or a k d) (slice_index_or b k d) ≡ true) →
    count ≡ far_places within a b
far_left within count a b i same few counted near =
    let x = tail_is a i in let y = tail_is b i in
    counted ∙ ap (λ (l : List Colour). far_places within l (take (length b - i) (drop i b))) x
    ∙ ap (λ (l : List Colour). far_places within (drop i a) l) y ∙ far_rest within a b i same few near
