-- The steps of a tally: a slot claimed, a run counted or put aside, and the runs of those aside.
use Rattle.std.proofs.Common.{◌≡◌, ◌≢◌, ℕ, ◌+◌, ◌-◌, ◌<◌, ◌≤◌, List, ◌++◌, length}
use Rattle.std.proofs.Common.{get_or, take, drop, arith}
use Rattle.std.proofs.Common.{sym, ◌∙◌, inl, inr, ◌⊎◌}
use Rattle.std.proofs.lemmas.Bool.{cases_lt, cases_eq}
use Rattle.std.proofs.lemmas.List.{take_all}
use Rattle.std.proofs.lemmas.List.{take-append-le}
use Rattle.std.specs.List.{refill}
use Rattle.rfb_codec.specs.Choice.{places_of}
use Rattle.rfb_codec.specs.encoder.Background.{EndsRun, IsLed, IsRun, Leads}
use Rattle.rfb_codec.proofs.PlacesLemmas.{run_counted, run_passed, none_before}

-- ---- the best of two counts, and of those of more pixels

-- `most` places have the best, and those that another has are no more, or as many and it comes
-- after
abbrev pub Yields : ℕ → ℕ → ℕ → ℕ → Type 0
Yields count other most better = (count ≤ most) × (0 < count → count ≡ most → better ≤ other)

-- of these places the best so far, which was one that `before` places had
pub record Led (aside : List ℕ) (first before better most : ℕ) : Type 0 where
  pub from : ((better ≡ first) × (most ≡ before)) ⊎ ((0 < most) × (most ≤ places_of better aside))
  pub kept : before ≤ most
  pub still : before ≡ most → better ≤ first
  pub each : (other : ℕ) → Yields (places_of other aside) other most better

-- one more pixel, of `n` places, is better
led_taken : (xs xs' : List ℕ) (pixel n first before better most : ℕ) → 0 < n → places_of pixel xs' ≡ n →
    ((other : ℕ) → other ≢ pixel → places_of other xs' ≡ places_of other xs) →
    Leads n pixel most better → Led xs first before better most → Led xs' first before pixel n
led_taken xs xs' pixel n first before better most some counted passed leads old =
    let more : most ≤ n = elim leads [ inl l ↦ omega arith | inr l ↦ omega arith ] in
    let tie : most ≡ n → pixel < better = λ same. elim leads [ inl l ↦ absurd (omega arith) | inr l ↦ l.1 ] in
    record {
      from = inr (some, omega (arith, counted));
      kept = omega (arith, old.kept, more);
      still = λ same.
          let equal : most ≡ n = omega (arith, old.kept, more) in
          let at : before ≡ most = omega (arith, old.kept, more) in
          let less = tie equal in
          let first_is = old.still at in
          omega arith;
      each = λ other. elim (cases_eq other pixel) [
        | inl is ↦
            let here : places_of other xs' ≡ n = rw is counted in
            (omega (arith, here), λ some same. omega arith)
        | inr differ ↦
            let here = passed other differ in
            let was = old.each other in (
              omega (arith, here, was.0, more),
              λ some same.
                  let equal : most ≡ n = omega (arith, here, was.0, more) in
                  let less = tie equal in
                  let least = was.1 (omega (arith, here, some)) (omega (arith, here, same, equal)) in
                  omega arith,
            )
      ];
    }

-- it is no better
led_left : (xs xs' : List ℕ) (pixel n first before better most : ℕ) → places_of pixel xs' ≡ n →
    ((other : ℕ) → other ≢ pixel → places_of other xs' ≡ places_of other xs) →
    places_of better xs ≤ places_of better xs' → n ≤ most → (n ≡ most → better ≤ pixel) →
    Led xs first before better most → Led xs' first before better most
led_left xs xs' pixel n first before better most counted passed grown no_more tie old =
    record {
      from = elim old.from [ inl l ↦ inl l | inr l ↦ inr (l.0, omega (arith, l.1, grown)) ];
      kept = old.kept;
      still = old.still;
      each = λ other. elim (cases_eq other pixel) [
        | inl is ↦
            let here : places_of other xs' ≡ n = rw is counted in
            (omega (arith, here), λ some same. let least = tie (omega (arith, here, same)) in omega arith)
        | inr differ ↦
            let here = passed other differ in
            let was = old.each other in
            (omega (arith, here, was.0), λ some same. was.1 (omega (arith, here, some)) (omega (arith, here, same)))
      ];
    }

-- the run of a pixel that the places before do not have
record Counted (sorted : List ℕ) (start end : ℕ) : Type 0 where
  counted : places_of (get_or sorted start 0) (take end sorted) ≡ end - start
  passed : (other : ℕ) → other ≢ get_or sorted start 0 →
      places_of other (take end sorted) ≡ places_of other (take start sorted)
  grown : (other : ℕ) → places_of other (take start sorted) ≤ places_of other (take end sorted)

whole_run : (sorted : List ℕ) (start end : ℕ) → start < end →
    end ≤ length sorted → ((k : ℕ) → k < start → get_or sorted k 0 < get_or sorted start 0) →
    IsRun sorted start end → Counted sorted start end
whole_run sorted start end some within apart run =
    let pixel = get_or sorted start 0 in
    let n = end - start in
    let whole : start + n ≡ end = omega arith in
    let none : places_of pixel (take start sorted) ≡ 0 = none_before pixel sorted start (omega arith)
    (λ k below same. let less = apart k below in absurd (omega arith)) in
    let counted_to = run_counted pixel sorted start n (omega arith) (λ k from below. run k from (omega arith)) in
    let counted : places_of pixel (take end sorted) ≡ places_of pixel (take start sorted) + n =
    rw whole at counted_to in
    let passed : (other : ℕ) → other ≢ pixel → places_of other (take end sorted) ≡ places_of other (take start sorted) =
    λ other differ. rw whole at (run_passed other sorted start n (omega arith)
    (λ k from below same. differ (sym same ∙ run k from (omega arith)))) in
    record {
      counted = omega (arith, counted, none);
      passed = passed;
      grown = λ other. elim (cases_eq other pixel) [
        | inl is ↦ rw is (omega (arith, counted))
        | inr differ ↦ let same = passed other differ in omega (arith, same)
      ];
    }

pub run_taken : (sorted : List ℕ) (start end first before better most : ℕ) → start < end → end ≤ length sorted →
    ((k : ℕ) → k < start → get_or sorted k 0 < get_or sorted start 0) → IsRun sorted start end →
    Leads (end - start) (get_or sorted start 0) most better → Led (take start sorted) first before better most →
    Led (take end sorted) first before (get_or sorted start 0) (end - start)
run_taken sorted start end first before better most some within apart run leads old =
    let whole = whole_run sorted start end some within apart run in
    led_taken (take start sorted) (take end sorted) (get_or sorted start 0) (end - start) first before better most
    (omega arith) whole.counted whole.passed leads old

pub run_left : (sorted : List ℕ) (start end first before better most : ℕ) → start < end → end ≤ length sorted →
    ((k : ℕ) → k < start → get_or sorted k 0 < get_or sorted start 0) → IsRun sorted start end →
    (end - start ≤ most) × (end - start ≡ most → better ≤ get_or sorted start 0) →
    Led (take start sorted) first before better most → Led (take end sorted) first before better most
run_left sorted start end first before better most some within apart run no_more old =
    let whole = whole_run sorted start end some within apart run in
    led_left (take start sorted) (take end sorted) (get_or sorted start 0) (end - start) first before better most
    whole.counted whole.passed (whole.grown better) no_more.0 no_more.1 old

-- the pixels before the end of a run are less than that after it
pub run_apart : (sorted : List ℕ) (start end : ℕ) →
    ((i j : ℕ) → i ≤ j → j < length sorted → get_or sorted i 0 ≤ get_or sorted j 0) →
    start < end → end < length sorted →
    ((k : ℕ) → k < start → get_or sorted k 0 < get_or sorted start 0) → IsRun sorted start end →
    get_or sorted end 0 ≢ get_or sorted start 0 → (k : ℕ) → k < end → get_or sorted k 0 < get_or sorted end 0
run_apart sorted start end rise some within apart run other k below =
    let next = rise start end (omega arith) within in
    elim (cases_lt k start) [
      | inl left ↦ let less = apart k left in omega arith
      | inr from ↦ let same = run k from below in omega (arith, other, same, next)
    ]

-- what a sort through a slice leaves
pub sort_left : (items sorted new : List ℕ) → length new ≡ length items →
    sorted ≡ refill (length items) items new → sorted ≡ new
sort_left items sorted new same is =
    let fits : length items ≤ length new = omega arith in
    let front : take (length items) (new ++ drop (length new) items) ≡ take (length items) new =
    take-append-le (length items) new (drop (length new) items) fits in
    let all : take (length items) new ≡ new = take_all (length items) new (omega arith) in
    is ∙ front ∙ all

-- the runs before `start` are passed: their pixels are less than the one there
pub record PassedTo (sorted : List ℕ) (start first before better most : ℕ) : Type 0 where
  pub within : start ≤ length sorted
  pub apart : start < length sorted → (k : ℕ) → k < start → get_or sorted k 0 < get_or sorted start 0
  pub led : Led (take start sorted) first before better most

module _ {sorted : List ℕ} {start end first before better most : ℕ} (below : start < length sorted)
    (some : start < end) (within : end ≤ length sorted) (run : IsRun sorted start end)
    (ends : EndsRun sorted start end)
    (rise : (i j : ℕ) → i ≤ j → j < length sorted → get_or sorted i 0 ≤ get_or sorted j 0)
    (old : PassedTo sorted start first before better most) where
  next_apart : end < length sorted → (k : ℕ) → k < end → get_or sorted k 0 < get_or sorted end 0
  next_apart more = run_apart sorted start end rise some more (old.apart below) run (ends more)

  -- the run is passed, and its pixel is the best so far
  pub passed_first : Leads (end - start) (get_or sorted start 0) most better →
      PassedTo sorted end first before (get_or sorted start 0) (end - start)
  passed_first leads = record {
    within = within;
    apart = next_apart;
    led = run_taken sorted start end first before better most some within (old.apart below) run leads old.led;
  }

  -- the run is passed, and another pixel is still the best
  pub passed_after : (end - start ≤ most) × (end - start ≡ most → better ≤ get_or sorted start 0) →
      PassedTo sorted end first before better most
  passed_after no_more = record {
    within = within;
    apart = next_apart;
    led = run_left sorted start end first before better most some within (old.apart below) run no_more old.led;
  }

-- all are passed
pub led_all : (aside sorted : List ℕ) (first before better most : ℕ) →
    ((p : ℕ) → places_of p sorted ≡ places_of p aside) → Led sorted first before better most →
    IsLed aside first before better
led_all aside sorted first before better most same led = record {
  count = most;
  from = elim led.from [ inl l ↦ inl l | inr l ↦ let here = same better in inr (l.0, omega (arith, l.1, here)) ];
  kept = led.kept;
  before = led.still;
  each = λ other. let here = same other in let was = led.each other in omega (arith, here, was.0);
  tied = λ other some equal. let here = same other in
      let was = led.each other in
      was.1 (omega (arith, here, some)) (omega (arith, here, equal));
}
