-- Which places of a row need sending, by the bits of sets and the pixels that are known.
use Rattle.std.proofs.Common.{List, ◌≡◌, ◌∙◌, ℕ, ◌+◌, ◌-◌, ◌*◌, ◌/◌, ◌%◌, ◌^◌, ◌<◌, ◌≤◌, ◌&&◌, ◌||◌, ◌==◌, subst, Bool}
use Rattle.std.proofs.Common.{true, false, not, nat_le, nat_lt, bit_and, bit_or, Option, Some, None, length, map}
use Rattle.std.proofs.Common.{slice_index, sym, ap, refl, arith}
use Rattle.std.specs.Int.{w64, trailing_zeros, leading_zeros}
use Rattle.std.specs.Int.Bits.{and_lt}
use Rattle.std.proofs.lemmas.Bool.{both_ways}
use Rattle.std.proofs.lemmas.List.{get_or-map}
use Rattle.std.proofs.lemmas.Bool.Decides.{nat_tests}
use Rattle.std.proofs.lemmas.Nat.Bits.{bit_at-zero}
use Rattle.rfb_pixel.specs.declared.colour.Colour.{Colour}
use Rattle.rfb_pixel.specs.Format.{PixelFormat, pixel_of}
use Rattle.rfb_pixel.specs.Rows.{TellsDifferences}
use Rattle.rfb_picture.specs.Grid.{Grid, at_or, row_of}
use Rattle.rfb_picture.specs.Box.{is_in}
use Rattle.rfb_picture.specs.Area.{Places, asked_at, whole_at}
use Rattle.rfb_picture.specs.Places.{has_bit, HasBitsBetween, HasRowBits}
use Rattle.rfb_picture.proofs.GatherLaws.{first_bit, last_bit}
use Rattle.rfb_picture.proofs.WordLaws.{has_bit-and, has_bit-or}
use Rattle.rfb_server.specs.declared.session.Session.{Session}
use Rattle.rfb_server.specs.Record.{is_known, ShowsKnown, TellsKnown}
use Rattle.rfb_server.specs.Request.{wanted_at, differs}
use Rattle.rfb_server.specs.update.Needs.{TellsOther, needs_of}
use Rattle.rfb_server.specs.KnownScreen.{Follows}
use Rattle.rfb_picture.proofs.GridLaws.{slice_index_or-row_of}
use Rattle.rfb_server.specs.Server.{black}
use Rattle.rfb_server.proofs.NeedingBits.{has_bit-up, has_bit-not, has_bit-zero}
use Rattle.rfb_server.proofs.NeedingLemmas.{unmarked_quiet}

from_lt : (x width : ℕ) → nat_lt x width ≡ true → x < width
from_lt x width e = grind (arith, nat_tests)

within : (x width : ℕ) → x < width → nat_lt x width ≡ true
within x width l = grind (arith, nat_tests)

-- ---- a row of pixels

-- the differences of the pixels of a row from those of the screen, moved to their columns
pub other_told : (screen : Grid Colour) (form : PixelFormat) (known : Grid (Option ℕ))
    (pixels : Grid ℕ) (y from to word : ℕ) →
    from < to → to ≤ from / 64 * 64 + 64 → to ≤ known.width → y < known.height →
    ShowsKnown known pixels → (fits : word < 2 ^ 64) →
    TellsDifferences (row_of pixels from y (to - from)) (map (pixel_of form) (row_of screen from y (to - from))) word →
    length (row_of pixels from y (to - from)) ≡ to - from → length (row_of screen from y (to - from)) ≡ to - from →
    TellsOther (wanted_at screen form) known y from to (word * 2 ^ (from % 64) % 2 ^ 64)
other_told screen form known pixels y from to word some cell columns row shows fits told long
    long_screen i pixel low a b is =
    let k = from % 64 in
    let j = i - from % 64 in
    let x = from / 64 * 64 + i in
    let place : from + j ≡ x = omega arith in
    let inside : j < to - from = omega arith in
    let old : slice_index (row_of pixels from y (to - from)) j ≡ pixel =
    slice_index_or-row_of pixels from y (to - from) j 0 inside ∙ ap (λ c. at_or pixels c y 0) place
    ∙ shows x y pixel (omega (arith, columns)) row is in
    let new : slice_index (map (pixel_of form) (row_of screen from y (to - from))) j ≡ wanted_at screen form x y =
    get_or-map (pixel_of form) (row_of screen from y (to - from)) j black 0 (omega (arith, inside, long_screen))
    ∙ ap (pixel_of form) (slice_index_or-row_of screen from y (to - from) j black inside
    ∙ ap (λ c. at_or screen c y black) place) in
    let reached : nat_lt j (length (row_of pixels from y (to - from))) ≡ true = rw long (within j (to - from) inside) in
    has_bit-up word k i low (omega arith) ∙ told j (omega arith) ∙ (λ h. reached h && not (old h == new h))

-- two rows that are the same have no differences
none_differs : (a b : List ℕ) → a ≡ b → TellsDifferences a b 0
none_differs a b e = λ i low.
    rw (bit_at-zero i) (sym (by_place (nat_lt i (length a)) (slice_index a i) (slice_index b i)
    (ap (λ (l : List ℕ). slice_index l i) e)))
  where
    by_place : (inside : Bool) (v w : ℕ) → v ≡ w → (inside && not (v == w)) ≡ false
    by_place false v w same = refl
    by_place true v w same = grind (arith, nat_tests)

pub none_told : (screen : Grid Colour) (form : PixelFormat) (known : Grid (Option ℕ))
    (pixels : Grid ℕ) (y from to : ℕ) →
    from < to → to ≤ from / 64 * 64 + 64 → to ≤ known.width → y < known.height → ShowsKnown known pixels →
    row_of pixels from y (to - from) ≡ map (pixel_of form) (row_of screen from y (to - from)) →
    length (row_of pixels from y (to - from)) ≡ to - from → length (row_of screen from y (to - from)) ≡ to - from →
    TellsOther (wanted_at screen form) known y from to 0
none_told screen form known pixels y from to some cell columns row shows same long long_screen =
    let zero : 0 * 2 ^ (from % 64) % 2 ^ 64 ≡ 0 = omega arith in
    subst (λ (word : ℕ). TellsOther (wanted_at screen form) known y from to word) zero
    (other_told screen form known pixels y from to 0 some cell columns row shows (omega arith)
    (none_differs _ _ same) long long_screen)

-- ---- one place

unknown_differs : (pixel : ℕ) (old : Option ℕ) → is_known old ≡ false → differs pixel old ≡ true
unknown_differs pixel None e = refl
unknown_differs pixel (Some other) e = absurd (both_ways true e refl)

pub known_some : (old : Option ℕ) → is_known old ≡ true → (pixel : ℕ) × (old ≡ Some pixel)
known_some None e = absurd (both_ways false refl e)
known_some (Some pixel) e = (pixel, refl)

-- a place that is marked (m) and asked (a): where it is known (k) and not whole (w) a look at it
-- decides (b)
by_bits : (m a k w d b : Bool) → (m ≡ false → (a && (w || d)) ≡ false) → (k ≡ false → d ≡ true) →
    ((((m && a) && k) && not w) ≡ true → b ≡ d) →
    (((m && a) && not (((m && a) && k) && not w)) || ((((m && a) && k) && not w) && b)) ≡ (a && (w || d))
by_bits false a k w d b quiet unknown look = sym (quiet refl)
by_bits true false k w d b quiet unknown look = refl
by_bits true true false true d b quiet unknown look = refl
by_bits true true false false d b quiet unknown look = sym (unknown refl)
by_bits true true true true d b quiet unknown look = refl
by_bits true true true false d b quiet unknown look = look refl

by_none : (m a k w d : Bool) → (m ≡ false → (a && (w || d)) ≡ false) → (k ≡ false → d ≡ true) →
    (((m && a) && k) && not w) ≡ false → (m && a) ≡ (a && (w || d))
by_none false a k w d quiet unknown none = sym (quiet refl)
by_none true false k w d quiet unknown none = refl
by_none true true false true d quiet unknown none = refl
by_none true true false false d quiet unknown none = sym (unknown refl)
by_none true true true true d quiet unknown none = refl
by_none true true true false d quiet unknown none = absurd (both_ways true none refl)

-- the same where a word's bits say it of the places in a range (r)
in_range : (r m bw a kw k ww w d b : Bool) → (r ≡ true → (bw ≡ true) × (kw ≡ true) × (ww ≡ true)) →
    (r ≡ true → m ≡ false → (a && (w || d)) ≡ false) → (k ≡ false → d ≡ true) →
    ((((((r && m) && (bw && a)) && (kw && k)) && not (ww && w)) ≡ true) → b ≡ d) →
    ((((r && m) && (bw && a)) && not ((((r && m) && (bw && a)) && (kw && k)) && not (ww && w)))
    || (((((r && m) && (bw && a)) && (kw && k)) && not (ww && w)) && b)) ≡ (r && (a && (w || d)))
in_range false m bw a kw k ww w d b wide quiet unknown look = refl
in_range true m true a true k true w d b wide quiet unknown look = by_bits m a k w d b (quiet refl) unknown look
in_range true m false a kw k ww w d b wide quiet unknown look = absurd (both_ways false refl (wide refl).0)
in_range true m true a false k ww w d b wide quiet unknown look = absurd (both_ways false refl (wide refl).1)
in_range true m true a true k false w d b wide quiet unknown look = absurd (both_ways false refl (wide refl).2)

none_in_range : (r m bw a kw k ww w d : Bool) → (r ≡ true → (bw ≡ true) × (kw ≡ true) × (ww ≡ true)) →
    (r ≡ true → m ≡ false → (a && (w || d)) ≡ false) → (k ≡ false → d ≡ true) →
    ((((r && m) && (bw && a)) && (kw && k)) && not (ww && w)) ≡ false →
    ((r && m) && (bw && a)) ≡ (r && (a && (w || d)))
none_in_range false m bw a kw k ww w d wide quiet unknown none = refl
none_in_range true m true a true k true w d wide quiet unknown none = by_none m a k w d (quiet refl) unknown none
none_in_range true m false a kw k ww w d wide quiet unknown none = absurd (both_ways false refl (wide refl).0)
none_in_range true m true a false k ww w d wide quiet unknown none = absurd (both_ways false refl (wide refl).1)
none_in_range true m true a true k false w d wide quiet unknown none = absurd (both_ways false refl (wide refl).2)

range_of : (from x to : ℕ) → (nat_le from x && nat_lt x to) ≡ true → (from ≤ x) × (x < to)
range_of from x to e = (grind (arith, nat_tests), grind (arith, nat_tests))

first_of : (r m a k w : Bool) → ((((r && m) && a) && k) && w) ≡ true → r ≡ true
first_of true m a k w e = refl
first_of false m a k w e = e

fourth_of : (r m a kw k w : Bool) → ((((r && m) && a) && (kw && k)) && w) ≡ true → k ≡ true
fourth_of r m a kw true w e = refl
fourth_of true true true true false w e = e
fourth_of false m a kw false w e = e
fourth_of true false a kw false w e = e
fourth_of true true false kw false w e = e
fourth_of true true true false false w e = e

-- ---- a row's words

-- which places of row y from one column up to another are marked (m), asked (a), known (k), whole (w)
pub record AreWords (session : Session) (y from to m a k w : ℕ) : Type 0 where
  pub marks : HasBitsBetween (is_in session.marks) y from to m
  pub asked : HasRowBits session.area.asked (from / 64 * 64) y a
  pub known : (i : ℕ) → i < 64 → has_bit k i ≡ (nat_lt (from / 64 * 64 + i) session.known.width
      && is_known (at_or session.known (from / 64 * 64 + i) y None))
  pub whole : HasRowBits session.area.whole (from / 64 * 64) y w
  pub small_marks : m < 2 ^ 64
  pub small_asked : a < 2 ^ 64
  pub small_known : k < 2 ^ 64
  pub small : w < 2 ^ 64

-- the places that have to be looked at
abbrev pub judged : ℕ → ℕ → ℕ → ℕ → ℕ
judged m a k w = bit_and (bit_and (bit_and m a) k) (2 ^ 64 - 1 - w)

module _ (screen : Grid Colour) (session : Session) (y from to m a k w : ℕ) (about : Follows screen session)
    (row : y < session.known.height) (columns : to ≤ session.known.width)
    (words : AreWords session y from to m a k w) where
  abbrev place : ℕ → ℕ
  place i = from / 64 * 64 + i

  abbrev reach : ℕ → Bool
  reach i = nat_le from (from / 64 * 64 + i) && nat_lt (from / 64 * 64 + i) to

  sizes : (i : ℕ) → (nat_le from (from / 64 * 64 + i) && nat_lt (from / 64 * 64 + i) to) ≡ true →
      (nat_lt (from / 64 * 64 + i) session.area.asked.width ≡ true)
      × (nat_lt (from / 64 * 64 + i) session.known.width ≡ true)
      × (nat_lt (from / 64 * 64 + i) session.area.whole.width ≡ true)
  sizes i e =
      let (l, u) = range_of from (from / 64 * 64 + i) to e in
      let is = session.alike in (
        within (from / 64 * 64 + i) session.area.asked.width (rw is.area_wide (omega (arith, columns))),
        within (from / 64 * 64 + i) session.known.width (omega (arith, columns)),
        within (from / 64 * 64 + i) session.area.whole.width
            (rw (is.area_is.wide, is.area_wide) (omega (arith, columns))),
      )

  -- what the sets say of a place
  abbrev marked : ℕ → Bool
  marked i = is_in session.marks (from / 64 * 64 + i) y

  abbrev place_asked : ℕ → Bool
  place_asked i = asked_at session.area (from / 64 * 64 + i) y

  abbrev place_known : ℕ → Bool
  place_known i = is_known (at_or session.known (from / 64 * 64 + i) y None)

  abbrev place_whole : ℕ → Bool
  place_whole i = whole_at session.area (from / 64 * 64 + i) y

  abbrev differing : ℕ → Bool
  differing i =
      differs (wanted_at screen session.format (from / 64 * 64 + i) y) (at_or session.known (from / 64 * 64 + i) y None)

  abbrev masked : ℕ → Bool
  masked i = (((reach i && marked i) && (nat_lt (place i) session.area.asked.width && place_asked i))
      && (nat_lt (place i) session.known.width && place_known i))
      && not (nat_lt (place i) session.area.whole.width && place_whole i)

  asked_bit : (i : ℕ) → i < 64 → has_bit (bit_and m a) i
      ≡ ((reach i && marked i) && (nat_lt (place i) session.area.asked.width && place_asked i))
  asked_bit i low = has_bit-and m a i ∙ (λ j. words.marks i low j && words.asked i low j)

  judged_bit : (i : ℕ) → i < 64 → has_bit (judged m a k w) i ≡ masked i
  judged_bit i low =
      has_bit-and (bit_and (bit_and m a) k) (2 ^ 64 - 1 - w) i
      ∙ (λ j. (has_bit-and (bit_and m a) k i ∙ (λ j. asked_bit i low j && words.known i low j)) j
      && (has_bit-not w i words.small low ∙ (λ j. not (words.whole i low j))) j)

  judged_small : judged m a k w < 2 ^ 64
  judged_small = and_lt 64 (bit_and (bit_and m a) k) (2 ^ 64 - 1 - w)
      (and_lt 64 (bit_and m a) k (and_lt 64 m a words.small_marks words.small_asked) words.small_known) (omega arith)

  quiet : (i : ℕ) → reach i ≡ true → marked i ≡ false → (place_asked i && (place_whole i || differing i)) ≡ false
  quiet i e none =
      let (l, u) = range_of from (from / 64 * 64 + i) to e in
      unmarked_quiet screen session (from / 64 * 64 + i) y about (omega (arith, columns)) row none

  unknown : (i : ℕ) → place_known i ≡ false → differing i ≡ true
  unknown i e = unknown_differs (wanted_at screen session.format (from / 64 * 64 + i) y)
      (at_or session.known (from / 64 * 64 + i) y None) e

  -- where no place has to be looked at
  pub none_judged : judged m a k w ≡ 0 → HasBitsBetween (needs_of screen session) y from to (bit_and m a)
  none_judged none i low =
      asked_bit i low ∙
      none_in_range (reach i) (marked i) (nat_lt (place i) session.area.asked.width) (place_asked i)
      (nat_lt (place i) session.known.width) (place_known i)
      (nat_lt (place i) session.area.whole.width) (place_whole i) (differing i) (sizes i) (quiet i) (unknown i)
      (sym (judged_bit i low) ∙ ap (λ n. has_bit n i) none ∙ has_bit-zero i)

  -- the places that have to be looked at lie from the first to the last of them
  pub judged_columns : 0 < judged m a k w →
      (from / 64 * 64 + trailing_zeros w64 (judged m a k w) < from / 64 * 64 + 64 - leading_zeros w64 (judged m a k w))
      × (from / 64 * 64 + 64 - leading_zeros w64 (judged m a k w) ≤ session.known.width)
  judged_columns some =
      let (low, here, least) = first_bit (judged m a k w) some judged_small in
      let (few, there, most) = last_bit (judged m a k w) some judged_small in
      let order = most (trailing_zeros w64 (judged m a k w)) here in
      let (f, u) = range_of from (from / 64 * 64 + (63 - leading_zeros w64 (judged m a k w))) to
      (reached (63 - leading_zeros w64 (judged m a k w)) (omega arith) there) in
      (omega (arith, order, few), omega (arith, u, columns, few))
    where
      reached : (i : ℕ) → i < 64 → has_bit (judged m a k w) i ≡ true → reach i ≡ true
      reached i l e = first_of (reach i) (marked i) (nat_lt (place i) session.area.asked.width && place_asked i)
          (nat_lt (place i) session.known.width && place_known i)
          (not (nat_lt (place i) session.area.whole.width && place_whole i)) (sym (judged_bit i l) ∙ e)

  -- a look at those, or at more columns of the cell, shows which need sending
  pub judged_bits : (first end d : ℕ) → 0 < judged m a k w →
      from / 64 * 64 ≤ first → first ≤ from / 64 * 64 + trailing_zeros w64 (judged m a k w) →
      from / 64 * 64 + 64 - leading_zeros w64 (judged m a k w) ≤ end →
      TellsOther (wanted_at screen session.format) session.known y first end d →
      HasBitsBetween (needs_of screen session) y from to
      (bit_or (bit_and (bit_and m a) (2 ^ 64 - 1 - judged m a k w)) (bit_and (judged m a k w) d))
  judged_bits first end d some after before until told i low =
      has_bit-or (bit_and (bit_and m a) (2 ^ 64 - 1 - judged m a k w)) (bit_and (judged m a k w) d) i
      ∙ (λ j. (has_bit-and (bit_and m a) (2 ^ 64 - 1 - judged m a k w) i ∙ (λ h. asked_bit i low h
      && (has_bit-not (judged m a k w) i judged_small low ∙ ap not (judged_bit i low)) h)) j
      || (has_bit-and (judged m a k w) d i ∙ (λ h. judged_bit i low h && has_bit d i)) j)
      ∙ in_range (reach i) (marked i) (nat_lt (place i) session.area.asked.width) (place_asked i)
      (nat_lt (place i) session.known.width) (place_known i)
      (nat_lt (place i) session.area.whole.width) (place_whole i) (differing i) (has_bit d i)
      (sizes i) (quiet i) (unknown i) look
    where
      look : masked i ≡ true → has_bit d i ≡ differing i
      look e =
          let bit : has_bit (judged m a k w) i ≡ true = judged_bit i low ∙ e in
          let (few, here, least) = first_bit (judged m a k w) some judged_small in
          let (less, there, most) = last_bit (judged m a k w) some judged_small in
          let from_first = least i bit in
          let to_last = most i bit in
          let left : first / 64 * 64 ≡ from / 64 * 64 = omega (arith, few, after, before) in
          let (pixel, is) = known_some (at_or session.known (from / 64 * 64 + i) y None)
          (fourth_of (reach i) (marked i) (nat_lt (place i) session.area.asked.width && place_asked i)
          (nat_lt (place i) session.known.width) (place_known i)
          (not (nat_lt (place i) session.area.whole.width && place_whole i)) e) in
          let tells : has_bit d i ≡ differs (wanted_at screen session.format (from / 64 * 64 + i) y) (Some pixel) =
          rw left at (told i pixel low) (omega (arith, before, from_first)) (omega (arith, until, to_last, less)) is in
          tells ∙ ap (λ old. differs (wanted_at screen session.format (from / 64 * 64 + i) y) old) (sym is)

-- no bit is set where no place of the row is in a set
pub no_bits : (g : Grid Bool) (x y : ℕ) → ((i : ℕ) → i < g.width → is_in g i y ≡ false) →
    HasRowBits g x y 0
no_bits g x y none i low = by (nat_lt (x + i) g.width) refl
  where
    by : (b : Bool) → nat_lt (x + i) g.width ≡ b →
        has_bit 0 i ≡ (nat_lt (x + i) g.width && is_in g (x + i) y)
    by false e = rw (e, bit_at-zero i) refl
    by true e = rw (e, bit_at-zero i, none (x + i) (from_lt (x + i) g.width e)) refl

-- the words of the sets and of the record are such
pub row_words : (session : Session) (known : Places) (y from to m a k w : ℕ) (asked record_asked whole : Grid Bool) →
    known.asked.width ≡ session.known.width → TellsKnown session.known known →
    y < session.known.height → HasBitsBetween (is_in session.marks) y from to m →
    asked ≡ session.area.asked → HasRowBits asked (from / 64 * 64) y a →
    record_asked ≡ known.asked → HasRowBits record_asked (from / 64 * 64) y k →
    whole ≡ session.area.whole → HasRowBits whole (from / 64 * 64) y w →
    m < 2 ^ 64 → a < 2 ^ 64 → k < 2 ^ 64 → w < 2 ^ 64 → AreWords session y from to m a k w
row_words session known y from to m a k w asked record_asked whole wide tells row marks the_asked asked_there the_known
    known_there the_whole whole_there small_m small_a small_k small_w = record {
      marks = marks;
      asked = subst (λ (g : Grid Bool). HasRowBits g (from / 64 * 64) y a) the_asked asked_there;
      known = λ i low. (subst (λ (g : Grid Bool). HasRowBits g (from / 64 * 64) y k) the_known known_there) i low
          ∙ by_width i (nat_lt (from / 64 * 64 + i) session.known.width) refl;
      whole = subst (λ (g : Grid Bool). HasRowBits g (from / 64 * 64) y w) the_whole whole_there;
      small_marks = small_m;
      small_asked = small_a;
      small_known = small_k;
      small = small_w;
    }
  where
    by_width : (i : ℕ) (b : Bool) → nat_lt (from / 64 * 64 + i) session.known.width ≡ b →
        (nat_lt (from / 64 * 64 + i) known.asked.width && is_in known.asked (from / 64 * 64 + i) y)
        ≡ (nat_lt (from / 64 * 64 + i) session.known.width
        && is_known (at_or session.known (from / 64 * 64 + i) y None))
    by_width i false e = rw (wide, e) refl
    by_width i true e = rw (wide, e)
        (rw wide at (tells (from / 64 * 64 + i) y (from_lt (from / 64 * 64 + i) session.known.width e) row))
