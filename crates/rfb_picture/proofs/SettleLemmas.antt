-- Laws of lines that change places.
use Rattle.std.proofs.Common.{ℕ, zero, suc, List, ◌≡◌, ◌≢◌, ◌+◌, ◌*◌, ◌/◌, ◌%◌, ◌<◌}
use Rattle.std.proofs.Common.{◌≤◌, ◌∙◌, ap, sym, refl}
use Rattle.std.proofs.Common.{arith, length}
use Rattle.std.proofs.Common.{slice_index_or, nat_eq, nat_lt, Bool, true, false, if◌then◌else◌, inl, inr}
use Rattle.std.proofs.lemmas.Bool.{cases_order}
use Rattle.std.proofs.lemmas.Bool.Decides.{nat_tests}
use Rattle.std.proofs.lemmas.Nat.{div-mul-add, mod-mul-add}
use Rattle.rfb_picture.specs.layout.Lines.{AreLines, IsKept, other_of, place_in}

-- places of one number are one
same_place : (w l k x y : ℕ) → x < w → y < w → l * w + x ≡ k * w + y → (l ≡ k) × (x ≡ y)
same_place w l k x y p q e = (
  sym (div-mul-add l w x p) ∙ ap (λ n. n / w) e ∙ div-mul-add k w y q,
  sym (mod-mul-add l w x p) ∙ ap (λ n. n % w) e ∙ mod-mul-add k w y q,
)

pub chosen : {A : Type 0} (t : Bool) (u v : A) → t ≡ true → (if t then u else v) ≡ u
chosen true u v e = refl
chosen false u v e = let no : false ≡ true = e in absurd (cc)

pub left : {A : Type 0} (t : Bool) (u v : A) → t ≡ false → (if t then u else v) ≡ v
left false u v e = refl
left true u v e = let no : true ≡ false = e in absurd (cc)

-- which line it is that changes places with one
first_other : (a b : ℕ) → other_of a b a ≡ b
first_other a b = chosen (nat_eq a a) b _ (grind (arith, nat_tests))

second_other : (a b : ℕ) → other_of a b b ≡ a
second_other a b =
    elim (cases_order a b) [
      | inl e ↦ rw e (first_other b b)
      | inr (inl l) ↦ left (nat_eq b a) b _ (grind (arith, nat_tests))
          ∙ chosen (nat_eq b b) a b (grind (arith, nat_tests))
      | inr (inr l) ↦ left (nat_eq b a) b _ (grind (arith, nat_tests))
          ∙ chosen (nat_eq b b) a b (grind (arith, nat_tests))
    ]

differs : (k a : ℕ) → k ≢ a → nat_eq k a ≡ false
differs k a p =
    elim (cases_order k a) [
      | inl e ↦ absurd (p e)
      | inr (inl l) ↦ grind (arith, nat_tests)
      | inr (inr l) ↦ grind (arith, nat_tests)
    ]

no_other : (a b k : ℕ) → k ≢ a → k ≢ b → other_of a b k ≡ k
no_other a b k p q =
    left (nat_eq k a) b _ (differs k a p) ∙ left (nat_eq k b) a k (differs k b q)

module _ {X : Type 0} where
  -- a line that does not change keeps its places
  last_column : (w a b n line : ℕ) (first before now : ℕ → X) → n < w →
      ((k : ℕ) → k ≢ a * w + n → k ≢ b * w + n → now k ≡ before k) →
      ((line : ℕ) → before (line * w + n) ≡ first (line * w + n)) → line ≢ a → line ≢ b →
      now (line * w + n) ≡ first (other_of a b line * w + n)
  last_column w a b n line first before now l others is no_first no_second =
      others (line * w + n) (λ e. no_first (same_place w line a n n l l e).0) (λ e. no_second
      (same_place w line b n n l l e).0)
      ∙ is line ∙ ap (λ m. first (m * w + n)) (sym (no_other a b line no_first no_second))

  -- the column whose places change has, from the second line on
  second_column : (w a b n line : ℕ) (first before now : ℕ → X) → n < w →
      now (b * w + n) ≡ before (a * w + n) →
      ((k : ℕ) → k ≢ a * w + n → k ≢ b * w + n → now k ≡ before k) →
      ((line : ℕ) → before (line * w + n) ≡ first (line * w + n)) → line ≢ a →
      now (line * w + n) ≡ first (other_of a b line * w + n)
  second_column w a b n line first before now l here others is no_first =
      elim (cases_order line b) [
        | inl e ↦ rw e (here ∙ is a ∙ ap (λ m. first (m * w + n)) (sym (second_other a b)))
        | inr (inl less) ↦
            last_column w a b n line first before now l others is no_first (λ e. absurd (omega arith))
        | inr (inr more) ↦
            last_column w a b n line first before now l others is no_first (λ e. absurd (omega arith))
      ]

  -- the column whose places change has
  this_column : (w a b n line : ℕ) (first before now : ℕ → X) → n < w →
      now (a * w + n) ≡ before (b * w + n) → now (b * w + n) ≡ before (a * w + n) →
      ((k : ℕ) → k ≢ a * w + n → k ≢ b * w + n → now k ≡ before k) →
      ((line : ℕ) → before (line * w + n) ≡ first (line * w + n)) →
      now (line * w + n) ≡ first (other_of a b line * w + n)
  this_column w a b n line first before now l there here others is =
      elim (cases_order line a) [
        | inl e ↦ rw e (there ∙ is b ∙ ap (λ m. first (m * w + n)) (sym (first_other a b)))
        | inr (inl less) ↦ second_column w a b n line first before now l here others is (λ e. absurd (omega arith))
        | inr (inr more) ↦ second_column w a b n line first before now l here others is (λ e. absurd (omega arith))
      ]

  -- another column has not
  another_column : (w a b n x line : ℕ) (first before now : ℕ → X) → n < w → x < w → x ≢ n →
      ((k : ℕ) → k ≢ a * w + n → k ≢ b * w + n → now k ≡ before k) →
      now (line * w + x) ≡ before (line * w + x)
  another_column w a b n x line first before now l p other others =
      others (line * w + x) (λ e. other (same_place w line a x n p l e).1) (λ e. other
      (same_place w line b x n p l e).1)

  -- one column more has changed its lines
  pub column_swapped : (w a b n x line : ℕ) (first before now : ℕ → X) → n < w → x < w →
      now (a * w + n) ≡ before (b * w + n) → now (b * w + n) ≡ before (a * w + n) →
      ((k : ℕ) → k ≢ a * w + n → k ≢ b * w + n → now k ≡ before k) →
      ((line : ℕ) → before (line * w + x) ≡ first ((if nat_lt x n then other_of a b line else line) * w + x)) →
      now (line * w + x) ≡ first ((if nat_lt x (n + 1) then other_of a b line else line) * w + x)
  column_swapped w a b n x line first before now l p there here others so_far =
      elim (cases_order x n) [
        | inl e ↦
            let is : (line : ℕ) → before (line * w + n) ≡ first (line * w + n) = λ k.
            rw e at (so_far k
            ∙ ap (λ m. first (m * w + x)) (left (nat_lt x n) (other_of a b k) k (grind (arith, nat_tests)))) in
            rw e (this_column w a b n line first before now l there here others is
            ∙ ap (λ m. first (m * w + n))
            (sym (chosen (nat_lt n (n + 1)) (other_of a b line) line (grind (arith, nat_tests)))))
        | inr (inl less) ↦
            another_column w a b n x line first before now l p (λ e. absurd (omega arith)) others
            ∙ so_far line
            ∙ ap (λ m. first (m * w + x)) (chosen (nat_lt x n) (other_of a b line) line (grind (arith, nat_tests))
            ∙ sym (chosen (nat_lt x (n + 1)) (other_of a b line) line (grind (arith, nat_tests))))
        | inr (inr more) ↦
            another_column w a b n x line first before now l p (λ e. absurd (omega arith)) others
            ∙ so_far line
            ∙ ap (λ m. first (m * w + x)) (left (nat_lt x n) (other_of a b line) line (grind (arith, nat_tests))
            ∙ sym (left (nat_lt x (n + 1)) (other_of a b line) line (grind (arith, nat_tests))))
      ]

-- ---- how many rows are not in the line of their number

counted : Bool → ℕ
counted true = 0
counted false = 1

counts_one : (b : Bool) → counted b ≤ 1
unfolding counted
counts_one true = omega arith
counts_one false = omega arith

counts_none : (k n : ℕ) → k ≡ n → counted (nat_eq k n) ≡ 0
unfolding counted
counts_none k n e =
    let same : nat_eq k n ≡ true = rw e (grind (arith, nat_tests)) in ap counted same

counts_some : (k n : ℕ) → k ≢ n → counted (nat_eq k n) ≡ 1
unfolding counted
counts_some k n p = ap counted (differs k n p)

pub misplaced : (ℕ → ℕ) → ℕ → ℕ
misplaced t zero = 0
misplaced t (suc n) = counted (nat_eq (t n) n) + misplaced t n

at_most_one : (t u : ℕ → ℕ) (n : ℕ) → t n ≢ n → misplaced u n ≤ misplaced t n →
    misplaced u (suc n) ≤ misplaced t (suc n)
unfolding misplaced
at_most_one t u n p others =
    let one = counts_some (t n) n p in
    let few = counts_one (nat_eq (u n) n) in
    rw one (omega (arith, others, few))

same_or_fewer : (t u : ℕ → ℕ) (n : ℕ) → ((i : ℕ) → i < n → t i ≡ i → u i ≡ i) →
    misplaced u n ≤ misplaced t n
unfolding misplaced
same_or_fewer t u zero keeps = let none : 0 ≤ 0 = omega arith in none
same_or_fewer t u (suc n) keeps =
    let others = same_or_fewer t u n (λ i l. keeps i (omega arith)) in
    elim (cases_order (t n) n) [
      | inl e ↦
          let none = counts_none (u n) n (keeps n (omega arith) e) in
          rw none (omega (arith, others))
      | inr (inl l) ↦ at_most_one t u n (λ e. absurd (omega arith)) others
      | inr (inr l) ↦ at_most_one t u n (λ e. absurd (omega arith)) others
    ]

one_less : (t u : ℕ → ℕ) (n : ℕ) → (t n ≡ n → u n ≡ n) → misplaced u n < misplaced t n →
    misplaced u (suc n) < misplaced t (suc n)
unfolding misplaced
one_less t u n keeps others =
    elim (cases_order (t n) n) [
      | inl e ↦
          let none = counts_none (u n) n (keeps e) in
          rw none (omega (arith, others))
      | inr (inl l) ↦
          let one = counts_some (t n) n (λ e. absurd (omega arith)) in
          let few = counts_one (nat_eq (u n) n) in
          rw one (omega (arith, others, few))
      | inr (inr l) ↦
          let one = counts_some (t n) n (λ e. absurd (omega arith)) in
          let few = counts_one (nat_eq (u n) n) in
          rw one (omega (arith, others, few))
    ]

-- where one row more is in the line of its number
pub fewer : (t u : ℕ → ℕ) (n z : ℕ) → ((i : ℕ) → i < n → t i ≡ i → u i ≡ i) → z < n →
    t z ≢ z → u z ≡ z →
    misplaced u n < misplaced t n
unfolding misplaced
fewer t u zero z keeps l p e = absurd (omega arith)
fewer t u (suc n) z keeps l p e =
    elim (cases_order z n) [
      | inl same ↦
          let was = counts_some (t n) n (rw same at p) in
          let is = counts_none (u n) n (rw same at e) in
          let others = same_or_fewer t u n (λ i m. keeps i (omega arith)) in
          rw (was, is) (omega (arith, others))
      | inr (inl less) ↦
          let others = fewer t u n z (λ i m. keeps i (omega arith)) less p e in
          one_less t u n (keeps n (omega arith)) others
      | inr (inr more) ↦ absurd (omega arith)
    ]

-- ---- one step

module _ {X : Type 0} where
  -- the places still show what they did
  pub record Settling (w h : ℕ) (first lines : List ℕ) (old now : List X) : Type 0 where
    pub kept : IsKept w h lines now
    pub same : (x y : ℕ) (d : X) → x < w → y < h →
        slice_index_or now (place_in lines w x y) d ≡ slice_index_or old (place_in first w x y) d

  -- a row that goes into another line, and that line's row into its own
  pub record Steps (w h row z : ℕ) (lines now : List ℕ) (old new : List X) : Type 0 where
    pub below : row < h
    pub line : slice_index_or lines row 0 ≡ z
    pub other : z ≢ row
    pub long : length now ≡ length lines
    pub here : slice_index_or now row 0 ≡ slice_index_or lines z 0
    pub there : slice_index_or now z 0 ≡ slice_index_or lines row 0
    pub others : (k : ℕ) → k ≢ row → k ≢ z → slice_index_or now k 0 ≡ slice_index_or lines k 0
    pub whole : length new ≡ length old
    pub places : (x line : ℕ) (d : X) → x < w →
        slice_index_or new (line * w + x) d
        ≡ slice_index_or old (other_of z (slice_index_or now row 0) line * w + x) d

  module _ (w h row z : ℕ) (lines now : List ℕ) (old new : List X) (are : AreLines h lines)
      (s : Steps w h row z lines now old new) where
    z_below : z < h
    z_below = rw (s.line) at (are.there row s.below)

    z_elsewhere : slice_index_or lines z 0 ≢ z
    z_elsewhere e = s.other (are.apart z row z_below s.below (e ∙ sym s.line))

    came_from_itself : (y : ℕ) → y < h → y ≢ row → y ≢ z →
        other_of z (slice_index_or now row 0) (slice_index_or now y 0) ≡ slice_index_or lines y 0
    came_from_itself y q no_row no_z =
        let still = s.others y no_row no_z in
        let no_first : slice_index_or lines y 0 ≢ z = λ e. no_row (are.apart y row q s.below (e ∙ sym s.line)) in
        let no_second : slice_index_or lines y 0 ≢ slice_index_or now row 0 =
        λ e. no_z (are.apart y z q z_below (e ∙ s.here)) in
        ap (other_of z (slice_index_or now row 0)) still
        ∙ no_other z (slice_index_or now row 0) (slice_index_or lines y 0) no_first no_second

    came_from_other : (y : ℕ) → y < h → y ≢ row →
        other_of z (slice_index_or now row 0) (slice_index_or now y 0) ≡ slice_index_or lines y 0
    came_from_other y q no_row =
        elim (cases_order y z) [
          | inl e ↦
              let back : slice_index_or now z 0 ≡ z = s.there ∙ s.line in
              rw e (ap (other_of z (slice_index_or now row 0)) back
              ∙ first_other z (slice_index_or now row 0) ∙ s.here)
          | inr (inl l) ↦ came_from_itself y q no_row (λ e. absurd (omega arith))
          | inr (inr l) ↦ came_from_itself y q no_row (λ e. absurd (omega arith))
        ]

    -- the line that is the other one of where a row is now is where it was
    came_from : (y : ℕ) → y < h →
        other_of z (slice_index_or now row 0) (slice_index_or now y 0) ≡ slice_index_or lines y 0
    came_from y q =
        elim (cases_order y row) [
          | inl e ↦ rw e (second_other z (slice_index_or now row 0) ∙ sym s.line)
          | inr (inl l) ↦ came_from_other y q (λ e. absurd (omega arith))
          | inr (inr l) ↦ came_from_other y q (λ e. absurd (omega arith))
        ]

    other_below : (y : ℕ) → y < h → y ≢ row → slice_index_or now y 0 < h
    other_below y q no_row =
        elim (cases_order y z) [
          | inl e ↦ rw (e, s.there) (are.there row s.below)
          | inr (inl l) ↦ rw (s.others y no_row (λ e. absurd (omega arith))) (are.there y q)
          | inr (inr l) ↦ rw (s.others y no_row (λ e. absurd (omega arith))) (are.there y q)
        ]

    line_below : (y : ℕ) → y < h → slice_index_or now y 0 < h
    line_below y q =
        elim (cases_order y row) [
          | inl e ↦ rw (e, s.here) (are.there z z_below)
          | inr (inl l) ↦ other_below y q (λ e. absurd (omega arith))
          | inr (inr l) ↦ other_below y q (λ e. absurd (omega arith))
        ]

    -- each row still has a line of its own
    pub are_still : AreLines h now
    are_still = record {
      each = s.long ∙ are.each;
      there = line_below;
      apart = λ i j p q e. are.apart i j p q
          (sym (came_from i p) ∙ ap (other_of z (slice_index_or now row 0)) e ∙ came_from j q);
    }

    -- and shows what it did
    pub shows_still : (x y : ℕ) (d : X) → x < w → y < h →
        slice_index_or new (place_in now w x y) d ≡ slice_index_or old (place_in lines w x y) d
    shows_still x y d p q =
        s.places x (slice_index_or now y 0) d p
        ∙ ap (λ l. slice_index_or old (l * w + x) d) (came_from y q)

    -- those that were, are
    pub stays_in_line : (i : ℕ) → i < h → slice_index_or lines i 0 ≡ i → slice_index_or now i 0 ≡ i
    stays_in_line i l e =
        let no_row : i ≢ row = λ same. s.other (sym s.line ∙ rw same at e) in
        let no_z : i ≢ z = λ same. z_elsewhere (rw same at e) in
        s.others i no_row no_z ∙ e

    -- one row more is in the line of its number
    pub one_more : misplaced (λ i. slice_index_or now i 0) h < misplaced (λ i. slice_index_or lines i 0) h
    one_more =
        fewer (λ i. slice_index_or lines i 0) (λ i. slice_index_or now i 0) h z
        (λ i l e. stays_in_line i l e) z_below z_elsewhere (s.there ∙ s.line)

  -- and so the places go on to show it
  pub settles_on : (w h row z : ℕ) (first lines now : List ℕ) (base old new : List X) →
      Settling w h first lines base old → Steps w h row z lines now old new →
      Settling w h first now base new
  settles_on w h row z first lines now base old new settling s = record {
    kept = record {
      whole = s.whole ∙ settling.kept.whole;
      lines_are = are_still w h row z lines now old new settling.kept.lines_are s;
    };
    same = λ x y d p q.
        shows_still w h row z lines now old new settling.kept.lines_are s x y d p q ∙ settling.same x y d p q;
  }
