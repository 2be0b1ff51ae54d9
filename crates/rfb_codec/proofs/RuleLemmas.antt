-- The subrectangles of the rule, as the scan of a block's places takes them.
use Rattle.std.proofs.Common.{◌≡◌, ◌≢◌, ℕ, ◌+◌, ◌*◌, ◌<◌, ◌≤◌, ◌-◌}
use Rattle.std.proofs.Common.{◌==◌, List, [], ◌∷◌, ◌++◌, Bool, true, false}
use Rattle.std.proofs.Common.{◌&&◌, ◌||◌, not, if◌then◌else◌, nat_le, nat_lt, length, slice_index}
use Rattle.std.proofs.Common.{slice_set, arith, refl, sym}
use Rattle.std.proofs.Common.{subst, ◌∙◌, inl, inr, append_assoc, append-nil}
use Rattle.std.proofs.lemmas.Bool.{cases_lt, both_ways}
use Rattle.std.proofs.lemmas.Nat.Bits.{bit_at-zero}
use Rattle.std.proofs.lemmas.Bool.Decides.{nat_tests}
use Rattle.rfb_picture.specs.Rect.{contains}
use Rattle.std.proofs.lemmas.List.{get_or-set_same, get_or-set_other}
use Rattle.std.proofs.lemmas.Simd.{get_or-chunk, length-chunk}
use Rattle.std.proofs.Math.Nat.{mul-le-mul_right}
use Rattle.rfb_pixel.specs.Rows.{TellsOthers}
use Rattle.rfb_picture.specs.Places.{has_bit}
use Rattle.rfb_picture.proofs.GridLaws.{contains_true, place_below}
use Rattle.rfb_wire.specs.RectHead.{IsOnScreen}
use Rattle.rfb_codec.specs.declared.subrect.Subrect.{Subrect}
use Rattle.rfb_codec.specs.Rre.{pixel_at}
use Rattle.rfb_codec.specs.Choice.{is_in_any, IsLeft, IsNextSub, AreNextSubs}
use Rattle.rfb_codec.specs.encoder.Cover.{IsPartOf, ArePartsOf, IsGivenUp, TellsLeft, IsWithout, AreTaken}
use Rattle.rfb_codec.specs.encoder.Cover.{HasRun, HasRuns}
use Rattle.rfb_codec.proofs.RreLaws.{pixel_at-last}
use lib.Lanes.{chunk}

-- ---- one more

pub in_push : (subs : List Subrect) (s : Subrect) (x y : ℕ) →
    is_in_any (subs ++ s ∷ []) x y ≡ (is_in_any subs x y || contains s.rect x y)
in_push [] s x y = last (contains s.rect x y)
  where
    last : (b : Bool) → (b || false) ≡ (false || b)
    last true = refl
    last false = refl
in_push (t ∷ subs) s x y =
    rw (in_push subs s x y) (swing (contains t.rect x y) (is_in_any subs x y) (contains s.rect x y))
  where
    swing : (a b c : Bool) → (a || (b || c)) ≡ ((a || b) || c)
    swing true b c = refl
    swing false b c = refl

pub next_push : (width height : ℕ) (pixels : List ℕ) (background : ℕ) (before subs : List Subrect) (s : Subrect) →
    AreNextSubs width height pixels background before subs →
    IsNextSub width height pixels background (before ++ subs) s →
    AreNextSubs width height pixels background before (subs ++ s ∷ [])
next_push width height pixels background before [] s all one =
    (subst (λ (l : List Subrect). IsNextSub width height pixels background l s) (append-nil before) one, tt)
next_push width height pixels background before (t ∷ subs) s (here, rest) one = (
  here,
  next_push width height pixels background (before ++ t ∷ []) subs s rest (subst (λ (l : List Subrect). IsNextSub width
      height pixels background l s) (sym (append_assoc before (t ∷ []) subs)) one),
)

-- and they are parts of the block
pub parts_more : (width height : ℕ) (pixels : List ℕ) (background : ℕ) (subs : List Subrect) (s : Subrect) →
    ArePartsOf width height pixels background subs → IsPartOf width height pixels background s →
    ArePartsOf width height pixels background (subs ++ s ∷ [])
parts_more width height pixels background [] s old one = (one, tt)
parts_more width height pixels background (t ∷ subs) s old one =
    (old.0, parts_more width height pixels background subs s old.1 one)

-- ---- the scan is at row y

-- the subrectangles so far are the rule's, and show what they cover. None begins below row y, so
-- that from there on nothing below an uncovered place is covered. No place above row y is left
pub record Chosen (width height y : ℕ) (pixels : List ℕ) (background : ℕ) (subs : List Subrect) : Type 0 where
  pub parts : ArePartsOf width height pixels background subs
  pub shown : (i j : ℕ) → i < width → j < height → pixel_at background subs i j
      ≡ (if is_in_any subs i j then slice_index pixels (j * width + i) else background)
  pub each : AreNextSubs width height pixels background [] subs
  pub under : (i j k : ℕ) → y ≤ j → j ≤ k → is_in_any subs i j ≡ false → is_in_any subs i k ≡ false
  pub passed : (i j : ℕ) → i < width → j < y → IsLeft width pixels background subs i j → ⊥

-- the words tell which places of the rows from y on are left
abbrev pub TellRows : ℕ → ℕ → ℕ → List ℕ → ℕ → List Subrect → List ℕ → Type 0
TellRows width height y pixels background subs rows = (j : ℕ) → y ≤ j → j < height →
    TellsLeft width pixels background subs j (slice_index rows j)

pub chosen_none : (width height : ℕ) (pixels : List ℕ) (background : ℕ) →
    Chosen width height 0 pixels background []
chosen_none width height pixels background = record {
  parts = tt;
  shown = λ i j p q. refl;
  each = tt;
  under = λ i j k p q out. refl;
  passed = λ i j p q left. omega arith;
}

-- ---- what a bit says

-- a place whose bit is set is left
pub left_of_bit : (width : ℕ) (pixels : List ℕ) (background : ℕ) (subs : List Subrect) (y word i : ℕ) →
    TellsLeft width pixels background subs y word → i < 64 → has_bit word i ≡ true →
    (i < width) × IsLeft width pixels background subs i y
left_of_bit width pixels background subs y word i tells low set =
    let told = tells i low in
    let place = slice_index pixels (y * width + i) in
    by (nat_lt i width) (place == background) (is_in_any subs i y) refl refl refl (rw set at told)
  where
    by : (a b c : Bool) → nat_lt i width ≡ a → (slice_index pixels (y * width + i) == background) ≡ b →
        is_in_any subs i y ≡ c → true ≡ (a && not (b || c)) →
        (i < width) × IsLeft width pixels background subs i y
    by true false false e f g h = (grind (arith, nat_tests, e), (grind (arith, nat_tests, f), g))
    by true false true e f g h = absurd cc
    by true true c e f g h = absurd cc
    by false b c e f g h = absurd cc

-- and the bit of a place that is left is set
pub bit_of_left : (width : ℕ) (pixels : List ℕ) (background : ℕ) (subs : List Subrect) (y word i : ℕ) →
    TellsLeft width pixels background subs y word → i < 64 → i < width →
    IsLeft width pixels background subs i y → has_bit word i ≡ true
bit_of_left width pixels background subs y word i tells low within left =
    let told = tells i low in
    let out = left.1 in
    let other = left.0 in
    told ∙ grind (arith, nat_tests, within, out, other)

-- ---- the bits of all rows

-- a row's other places are left while nothing is taken
row_told : (width height y : ℕ) (pixels : List ℕ) (background word : ℕ) →
    length pixels ≡ height * width → y < height →
    TellsOthers (chunk (y * width) (y * width + width - y * width) pixels) background word →
    TellsLeft width pixels background [] y word
row_told width height y pixels background word whole q told i low =
    let fits : (y + 1) * width ≤ height * width = mul-le-mul_right width (omega (arith, q)) in
    let count : y * width + width - y * width ≡ width = omega arith in
    let size = length-chunk (y * width) width pixels (omega (arith, fits, whole)) in
    elim (cases_lt i width) [
      | inl within ↦
          let place = get_or-chunk (y * width) width pixels i 0 within in
          let other : has_bit word i
          ≡ (nat_lt i (length (chunk (y * width) width pixels))
          && not (slice_index (chunk (y * width) width pixels) i == background)) = (rw count at told) i low in
          rw (size, place) at other ∙ plain (nat_lt i width) (slice_index pixels (y * width + i) == background)
      | inr beyond ↦
          let other : has_bit word i
          ≡ (nat_lt i (length (chunk (y * width) width pixels))
          && not (slice_index (chunk (y * width) width pixels) i == background)) = (rw count at told) i low in
          let out : nat_lt i width ≡ false = grind (arith, nat_tests) in
          rw (size, out) at other ∙ (rw out refl)
    ]
  where
    plain : (a b : Bool) → (a && not b) ≡ (a && not (b || false))
    plain true true = refl
    plain true false = refl
    plain false b = refl

pub rows_more : (width height y : ℕ) (pixels : List ℕ) (background word : ℕ) (rows : List ℕ) →
    length pixels ≡ height * width → y < height → y < length rows →
    TellsOthers (chunk (y * width) (y * width + width - y * width) pixels) background word →
    ((j : ℕ) → j < y → TellsLeft width pixels background [] j (slice_index rows j)) →
    (j : ℕ) → j < y + 1 → TellsLeft width pixels background [] j (slice_index (slice_set rows y word) j)
rows_more width height y pixels background word rows whole q there told old j below =
    elim (cases_lt j y) [
      | inl before ↦ rw (get_or-set_other rows y j word 0 (λ e. omega (arith, e, before))) (old j before)
      | inr here ↦
          let same : j ≡ y = omega (arith, below, here) in
          rw (same, get_or-set_same rows y word 0 there) (row_told width height y pixels background word whole q told)
    ]

-- ---- a rectangle that begins at (x, y) is taken

module _ (width height x y : ℕ) (pixels : List ℕ) (background left : ℕ) (subs : List Subrect)
    (narrow : width ≤ 64) (p : x < width) (q : y < height) (old : Chosen width height y pixels background subs)
    (tells : TellsLeft width pixels background subs y left) where
  -- a place that is left has nothing that covers it, nor what is below it
  below_none : (i j : ℕ) → i < 64 → y ≤ j → has_bit left i ≡ true → is_in_any subs i j ≡ false
  below_none i j low from set =
      let here = left_of_bit width pixels background subs y left i tells low set in
      old.under i y j (omega arith) from here.1.1

  pub next_taken : (s : Subrect) → s.pixel ≡ slice_index pixels (y * width + x) → has_bit left x ≡ true →
      ((i : ℕ) → has_bit left i ≡ true → x ≤ i) → s.rect.x ≡ x → s.rect.y ≡ y →
      0 < s.rect.w → 0 < s.rect.h → IsOnScreen width height s.rect →
      HasRuns width pixels (slice_index pixels (y * width + x)) x (x + s.rect.w) y (y + s.rect.h) →
      ((i : ℕ) → x ≤ i → i < x + s.rect.w → has_bit left i ≡ true) →
      (x + s.rect.w < width → has_bit left (x + s.rect.w) ≡ true →
      slice_index pixels (y * width + (x + s.rect.w)) ≢ slice_index pixels (y * width + x)) →
      (y + s.rect.h < height →
      HasRun width pixels (slice_index pixels (y * width + x)) x (x + s.rect.w) (y + s.rect.h) → ⊥) →
      IsNextSub width height pixels background subs s
  next_taken s pixel set first column row wide high inside same free longest lowest =
      let here = left_of_bit width pixels background subs y left x tells (omega arith) set in
      record {
        inside = inside;
        wide = wide;
        high = high;
        left = rw (column, row) here.1;
        first = rw (column, row) (λ i j l m before is.
            elim before [
              | inl above ↦ old.passed i j l above is
              | inr (level, near) ↦
                  let there =
                  bit_of_left width pixels background subs y left i tells (omega arith) l (rw level at is) in
                  let after = first i there in
                  omega (arith, near, after)
            ]);
        pixel = rw (column, row) pixel;
        rows = rw (column, row, pixel) (λ j from below i after before.
            let out = below_none i j (omega (arith, inside, column)) from (free i after before) in
            (same i j after before from below, out));
        longest = rw (column, row, pixel) (λ below is.
            let other : slice_index pixels (y * width + (x + s.rect.w)) ≢ background = rw (is.0) here.1.0 in
            let there = bit_of_left width pixels background subs y left (x + s.rect.w) tells (omega arith) below
            (other, is.1) in
            longest below there is.0);
        lowest = rw (column, row, pixel) (λ below is. lowest below (λ i after before. (is i after before).0));
      }

  pub chosen_taken : (s : Subrect) → IsNextSub width height pixels background subs s → has_bit left x ≡ true →
      s.pixel ≡ slice_index pixels (y * width + x) →
      s.rect.x ≡ x → s.rect.y ≡ y → length pixels ≡ height * width →
      Chosen width height y pixels background (subs ++ s ∷ [])
  chosen_taken s next set pixel column row whole = record {
    parts = parts_more width height pixels background subs s old.parts (record {
      pixel = (
        y * width + x,
        rw whole (place_below width height x y p q),
        pixel,
      );
      other = rw pixel (left_of_bit width pixels background subs y left x tells (omega arith) set).1.0;
      inside = next.inside;
      wide = next.wide;
      high = next.high;
    });
    shown = λ i j l m.
        pixel_at-last background subs s i j
        ∙ rw (in_push subs s i j)
        (at_place (is_in_any subs i j) (contains s.rect i j) _ _ _ background (old.shown i j l m)
        (λ e.
        let h = contains_true s.rect i j e in
        let run = next.rows j (omega (arith, h.2)) (omega (arith, h.3)) i (omega (arith, h.0)) (omega (arith, h.1)) in
        sym (run.0)));
    each = next_push width height pixels background [] subs s old.each next;
    under = λ i j k from lower out. rw (in_push subs s i k) (
        let apart = rw (in_push subs s i j) at out in
        let neither = none_of (is_in_any subs i j) (contains s.rect i j) apart in
        none_from (is_in_any subs i k) (contains s.rect i k) (old.under i j k from lower neither.0)
        (outside_below i j k from lower neither.1));
    passed = λ i j l above is.
        let apart = rw (in_push subs s i j) at is.1 in
        let neither = none_of (is_in_any subs i j) (contains s.rect i j) apart in
        old.passed i j l above (is.0, neither.0);
  }
    where
      at_place : (was now : Bool) (before part v b : ℕ) → before ≡ (if was then v else b) →
          (now ≡ true → part ≡ v) → (if now then part else before) ≡ (if was || now then v else b)
      at_place true true before part v b e h = h refl
      at_place false true before part v b e h = h refl
      at_place true false before part v b e h = e
      at_place false false before part v b e h = e

      none_of : (a b : Bool) → (a || b) ≡ false → (a ≡ false) × (b ≡ false)
      none_of true b e = absurd cc
      none_of false b e = (refl, e)

      none_from : (a b : Bool) → a ≡ false → b ≡ false → (a || b) ≡ false
      none_from true b e f = absurd cc
      none_from false b e f = f

      outside_below : (i j k : ℕ) → y ≤ j → j ≤ k → contains s.rect i j ≡ false →
          contains s.rect i k ≡ false
      outside_below i j k from lower e = grind (arith, nat_tests, row)

-- a bit that goes where a run does
joined : (now was a b c r : Bool) → was ≡ (a && not (b || c)) → now ≡ (was && not r) →
    now ≡ (a && not (b || (c || r)))
joined now was a b c r e f = f ∙ (rw e (by a b c r))
  where
    by : (a b c r : Bool) → ((a && not (b || c)) && not r) ≡ (a && not (b || (c || r)))
    by true true c r = refl
    by true false true r = refl
    by true false false r = refl
    by false b c r = refl

-- the word of the row, and those below, without its places
pub here_taken : (width height x y : ℕ) (pixels : List ℕ) (background left after : ℕ) (subs : List Subrect)
    (s : Subrect) → TellsLeft width pixels background subs y left → s.rect.x ≡ x →
    s.rect.y ≡ y → 0 < s.rect.h → IsWithout x (x + s.rect.w) left after →
    TellsLeft width pixels background (subs ++ s ∷ []) y after
here_taken width height x y pixels background left after subs s tells column row high without i low =
    let was = tells i low in
    let now = without i low in
    let inside : contains s.rect i y ≡ (nat_le x i && nat_lt i (x + s.rect.w)) = grind (arith, nat_tests) in
    rw (in_push subs s i y, inside)
    (joined (has_bit after i) (has_bit left i) (nat_lt i width) (slice_index pixels (y * width + i) == background)
    (is_in_any subs i y) (nat_le x i && nat_lt i (x + s.rect.w)) was now)

pub rows_taken : (width height x y : ℕ) (pixels : List ℕ) (background : ℕ) (rows after : List ℕ)
    (subs : List Subrect) (s : Subrect) → TellRows width height (y + 1) pixels background subs rows →
    s.rect.x ≡ x → s.rect.y ≡ y → AreTaken x (x + s.rect.w) (y + 1) (y + s.rect.h) rows after →
    TellRows width height (y + 1) pixels background (subs ++ s ∷ []) after
rows_taken width height x y pixels background rows after subs s tell column row taken j from below i low =
    let was = tell j from below i low in
    let now = taken i j low in
    let inside : contains s.rect i j
    ≡ ((nat_le x i && nat_lt i (x + s.rect.w)) && (nat_le (y + 1) j && nat_lt j (y + s.rect.h))) =
    grind (arith, nat_tests) in
    rw (in_push subs s i j, inside)
    (joined (has_bit (slice_index after j) i) (has_bit (slice_index rows j) i) (nat_lt i width)
    (slice_index pixels (j * width + i) == background) (is_in_any subs i j)
    ((nat_le x i && nat_lt i (x + s.rect.w)) && (nat_le (y + 1) j && nat_lt j (y + s.rect.h))) was now)

-- ---- the row's end

-- no place of the row is left
pub row_passed : (width height y : ℕ) (pixels : List ℕ) (background : ℕ) (subs : List Subrect) →
    width ≤ 64 → Chosen width height y pixels background subs → TellsLeft width pixels background subs y 0 →
    Chosen width height (y + 1) pixels background subs
row_passed width height y pixels background subs narrow old tells = record {
  parts = old.parts;
  shown = old.shown;
  each = old.each;
  under = λ i j k from lower out. old.under i j k (omega (arith, from)) lower out;
  passed = λ i j l above left.
      elim (cases_lt j y) [
        | inl before ↦ old.passed i j l before left
        | inr here ↦
            let same : j ≡ y = omega (arith, above, here) in
            let set = bit_of_left width pixels background subs y 0 i tells (omega arith) l (rw same at left) in
            let none : has_bit 0 i ≡ false = rw (bit_at-zero i) refl in
            both_ways (has_bit 0 i) none set
      ];
}

-- where no further one may be taken, a place is left
pub none_further : (width height x y limit : ℕ) (pixels : List ℕ) (background left : ℕ) (subs : List Subrect) →
    x < 64 → y < height → length subs ≡ limit → has_bit left x ≡ true →
    TellsLeft width pixels background subs y left → Chosen width height y pixels background subs →
    IsGivenUp width height pixels background limit subs
none_further width height x y limit pixels background left subs low q full set tells old =
    let here = left_of_bit width pixels background subs y left x tells low set in
    record {
      full = full;
      each = old.each;
      x = x;
      y = y;
      column = here.0;
      row = q;
      left = here.1;
    }
