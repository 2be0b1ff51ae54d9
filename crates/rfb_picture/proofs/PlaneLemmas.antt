-- What a set of places says of each place, from the words that it is made of.
use Rattle.std.proofs.Common.{ℕ, List, Bool, true, false, ◌≡◌, ◌+◌, ◌-◌, ◌*◌, ◌/◌, ◌%◌, ◌<◌, length, replicate, refl}
use Rattle.std.proofs.Common.{sym, ◌∙◌, arith, slice_index_or, inl, inr, Option, subst}
use Rattle.std.proofs.Common.{◌||◌, if◌then◌else◌, take, [], ◌++◌}
use Rattle.std.proofs.Math.Nat.{sub-zero}
use Rattle.std.proofs.lemmas.List.{get_or-replicate, get_or_past, take_all, length-replicate}
use Rattle.std.proofs.lemmas.Nat.Bits.{bit_at-zero}
use Rattle.std.proofs.lemmas.Bool.{cases_lt}
use Rattle.std.proofs.lemmas.Nat.{rows, div-add-mod', mod_below}
use Rattle.rfb_picture.specs.declared.edges.Edges.{Edges}
use Rattle.rfb_picture.specs.Box.{is_in}
use Rattle.rfb_picture.specs.layout.Edges.{HasEdges}
use Rattle.rfb_picture.proofs.EdgesLemmas.{same_edges}
use Rattle.rfb_picture.specs.Grid.{Grid, IsGrid, Holds, at_or, changed, filled, uniform}
use Rattle.rfb_picture.specs.declared.rect.Rect.{Rect}
use Rattle.rfb_picture.specs.Rect.{contains}
use Rattle.rfb_picture.specs.layout.Plane.{has_at, has_place, marked, plane, IsPlane}
use Rattle.rfb_picture.proofs.GridLemmas.{contains_true, at-changed, width-changed, height-changed, length-changed}
use Rattle.rfb_picture.proofs.GridLemmas.{whole-changed, width-uniform, height-uniform, whole-uniform, at-uniform}
use Rattle.rfb_picture.proofs.GridLemmas.{at-filled, same_grid}

-- ---- the grid that marks make

-- it has a value for each place
pub whole-marked : (w h : ℕ) (mark : ℕ → ℕ → Bool) → IsGrid (marked w h mark)
whole-marked w h mark =
    length-changed _ (uniform w h false)
    ∙ (rw (whole-uniform w h false, width-uniform, height-uniform) refl)

-- which is whether the place is marked
pub at-marked : (w h : ℕ) (mark : ℕ → ℕ → Bool) (x y : ℕ) (d : Bool) →
    x < w → y < h → at_or (marked w h mark) x y d ≡ mark x y
at-marked w h mark x y d p q =
    let f : ℕ → ℕ → Bool → Bool = λ i j _. mark i j in
    let wide : x < (uniform w h false).width = rw width-uniform p in
    let high : y < (uniform w h false).height = rw height-uniform q in
    let P : ℕ → Type 0 =
    λ n. slice_index_or (changed f (uniform w h false)).places (y * n + x) d ≡ mark x y in
    subst P (width-changed f (uniform w h false) ∙ width-uniform w h false)
    (at-changed f (uniform w h false) x y d (whole-uniform w h false) wide high)

-- a grid that says the same of each place is the one that the marks make
pub marked_is : (w h : ℕ) (mark : ℕ → ℕ → Bool) (g : Grid Bool) →
    IsGrid g →
    g.width ≡ w →
    g.height ≡ h →
    ((x y : ℕ) (d : Bool) → x < w → y < h → mark x y ≡ at_or g x y d) →
    marked w h mark ≡ g
marked_is w h mark g whole wide high each =
    same_grid (marked w h mark) g (whole-marked w h mark) whole (sym wide) (sym high)
    (λ x y d p q. at-marked w h mark x y d p q ∙ each x y d p q)

-- ---- the grid that words make

pub whole-plane : (w h across : ℕ) (words : List ℕ) → IsGrid (plane w h across words)
whole-plane w h across words = whole-marked w h (has_place words across)

pub at-plane : (w h across : ℕ) (words : List ℕ) (x y : ℕ) (d : Bool) →
    x < w → y < h → at_or (plane w h across words) x y d ≡ has_place words across x y
at-plane w h across words x y d p q = at-marked w h (has_place words across) x y d p q

pub plane_is : (w h across : ℕ) (words : List ℕ) (g : Grid Bool) →
    IsGrid g →
    g.width ≡ w →
    g.height ≡ h →
    ((x y : ℕ) (d : Bool) → x < w → y < h → has_place words across x y ≡ at_or g x y d) →
    plane w h across words ≡ g
plane_is w h across words g whole wide high each =
    marked_is w h (has_place words across) g whole wide high each

-- a word of a list of zeros is 0
zero_there : (n i : ℕ) → slice_index_or (replicate {A = ℕ} n 0) i 0 ≡ 0
zero_there n i =
    elim (cases_lt i n) [
      | inl l ↦ get_or-replicate n i 0 0 l
      | inr l ↦ get_or_past (replicate n 0) i 0 (rw length-replicate l)
    ]

-- the words of a new set
pub resized_zeros : (n len : ℕ) (old new : List ℕ) →
    new ≡ take n old ++ replicate (n - len) 0 → old ≡ [] → len ≡ 0 → new ≡ replicate n 0
resized_zeros n len old new e none no_len =
    rw (e, none, no_len, take_all {A = ℕ} n [] (omega arith), sub-zero) refl

-- words that are all 0 make the set with no place
pub plane-zeros : (w h across n : ℕ) → plane w h across (replicate n 0) ≡ uniform w h false
plane-zeros w h across n =
    plane_is w h across (replicate n 0) (uniform w h false) (whole-uniform w h false)
    (width-uniform w h false) (height-uniform w h false)
    (λ x y d p q.
    let none : has_place (replicate n 0) across x y ≡ false =
    rw (zero_there n (y * across + x / 64), bit_at-zero (x % 64)) refl in
    none ∙ sym (at-uniform w h false x y d p q))

-- ---- its words

-- word k of a row of the set is one of its words
pub word_below : (w h across : ℕ) (words : List ℕ) (k y : ℕ) →
    IsPlane w h across words → k < across → y < h → y * across + k < length words
word_below w h across words k y plane p q = rw plane.size (grind (arith, rows))

-- the word of a place is one of its row
pub column_below : (w h across : ℕ) (words : List ℕ) (x : ℕ) → IsPlane w h across words → x < w →
    x / 64 < across
column_below w h across words x plane p = let room = plane.room in omega arith

-- so the word of a place is one
pub place_word_below : (w h across : ℕ) (words : List ℕ) (x y : ℕ) →
    IsPlane w h across words → x < w → y < h → y * across + x / 64 < length words
place_word_below w h across words x y plane p q =
    word_below w h across words (x / 64) y plane (column_below w h across words x plane p) q

-- the number of words in a row follows from the width
pub same_across : (w h across : ℕ) (words : List ℕ) (j other : ℕ) (more : List ℕ) →
    IsPlane w h across words → IsPlane w j other more → across ≡ other
same_across w h across words j other more a b = let p = a.room in let q = a.least in let r =
    b.room in let s = b.least in omega arith

-- and that of all words from both sizes
pub same_length : (w h across : ℕ) (words : List ℕ) (v j other : ℕ) (more : List ℕ) →
    IsPlane w h across words → IsPlane v j other more → w ≡ v → h ≡ j → length words ≡ length more
same_length w h across words v j other more a b wide high =
    let same : across ≡ other = same_across w h across words j other more a (rw wide b) in
    let product : h * across ≡ j * other = rw (high, same) refl in
    a.size ∙ product ∙ sym b.size

-- ---- with a rectangle's places

or_is_if : (b c : Bool) → (b || c) ≡ (if c then true else b)
or_is_if true true = refl
or_is_if true false = refl
or_is_if false true = refl
or_is_if false false = refl

-- words that have the rectangle's bits too make the set with its places
pub plane-filled : (w h across : ℕ) (old new : List ℕ) (rect : Rect) →
    IsPlane w h across old →
    ((k y i : ℕ) → k < across → i < 64 →
    has_at new across y k i ≡ (has_at old across y k i || contains rect (k * 64 + i) y)) →
    plane w h across new ≡ filled rect true (plane w h across old)
plane-filled w h across old new rect sound each =
    plane_is w h across new (filled rect true (plane w h across old))
    (whole-changed _ (plane w h across old) (whole-plane w h across old))
    (width-changed _ (plane w h across old))
    (height-changed _ (plane w h across old))
    (λ x y d p q.
    let column = column_below w h across old x sound p in
    let place : x / 64 * 64 + x % 64 ≡ x = div-add-mod' x 64 in
    let here = each (x / 64) y (x % 64) column (mod_below x 64 (omega arith)) in
    let there = at-filled rect true (plane w h across old) x y d (whole-plane w h across old) p q in
    let was = at-plane w h across old x y d p q in
    let joined = rw place at here in
    joined ∙ (or_is_if (has_place old across x y) (contains rect x y) ∙ (rw (← was) (sym there))))

-- ---- the edges of its places

-- the edges by the bits of the words are those of the set's places
pub edges-plane : (w h across : ℕ) (words : List ℕ) (cell : Rect) (found : Option Edges) →
    Holds (plane w h across words) cell →
    HasEdges (has_place words across) cell found →
    HasEdges (is_in (plane w h across words)) cell found
edges-plane w h across words cell found room has =
    same_edges (has_place words across) (is_in (plane w h across words)) cell found
    (λ x y inside.
    let (x0, x1, y0, y1) = contains_true cell x y inside in
    sym (at-plane w h across words x y false (omega (arith, room.0)) (omega (arith, room.1))))
    has
