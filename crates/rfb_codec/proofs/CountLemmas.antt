-- The table that pixels are counted in: which slots belong to which pixel, and how many places each has so far.
use Rattle.std.proofs.Common.{◌≡◌, ◌≢◌, ℕ, ◌+◌, ◌-◌, ◌<◌, ◌≤◌, List, [], ◌++◌, length, get_or, take, set, replicate}
use Rattle.std.proofs.Common.{arith, refl, sym, ap, ◌∙◌, inl, inr, ◌⊎◌}
use Rattle.std.proofs.lemmas.Bool.{cases_lt, cases_eq}
use Rattle.std.proofs.lemmas.List.{get_or-set_same, get_or-set_other, take_all, length-append, length-replicate}
use Rattle.rfb_codec.specs.Choice.{IsPixelOf, places_of, IsBackground}
use Rattle.rfb_codec.specs.encoder.Background.{IsLed, IsRun}
use Rattle.rfb_codec.proofs.PlacesLemmas.{run_counted, run_passed, is_pixel, has_place, places-append, copies_counted}
use Rattle.rfb_codec.proofs.PlacesLemmas.{copies_passed}
use Rattle.rfb_codec.proofs.TallyLemmas.{Yields}

-- its slot belongs to the pixel: a slot holds the first place of its pixel, plus 1, or 0
pub record IsOwner (slot : ℕ → ℕ) (pixels firsts : List ℕ) (p : ℕ) : Type 0 where
  pub taken : 0 < get_or firsts (slot p) 0
  pub is : get_or pixels (get_or firsts (slot p) 0 - 1) 0 ≡ p

-- the places before start are counted in the table, or put aside; `most` of them have the best pixel in
-- the table
pub record Tallied (slot : ℕ → ℕ) (pixels firsts counts aside : List ℕ) (start better most : ℕ) : Type 0 where
  pub vacant : (p : ℕ) → get_or firsts (slot p) 0 ≡ 0 →
      (get_or counts (slot p) 0 ≡ 0) × (places_of p (take start pixels) ≡ 0)
  pub counted : (p : ℕ) → IsOwner slot pixels firsts p → get_or counts (slot p) 0 ≡ places_of p (take start pixels)
  pub yields : (p : ℕ) → IsOwner slot pixels firsts p → Yields (places_of p (take start pixels)) p most better
  pub other : (p : ℕ) → (IsOwner slot pixels firsts p → ⊥) → places_of p aside ≡ places_of p (take start pixels)
  pub less : (p : ℕ) → places_of p aside ≤ places_of p (take start pixels)
  pub within : (p : ℕ) → get_or firsts (slot p) 0 ≤ length pixels
  pub few : length aside ≤ start
  pub some : most ≤ places_of better (take start pixels)
  pub there : IsPixelOf pixels better

cases_owner : (slot : ℕ → ℕ) (pixels firsts : List ℕ) (p : ℕ) →
    IsOwner slot pixels firsts p ⊎ (IsOwner slot pixels firsts p → ⊥)
cases_owner slot pixels firsts p =
    elim (cases_lt 0 (get_or firsts (slot p) 0)) [
      | inl taken ↦
          elim (cases_eq (get_or pixels (get_or firsts (slot p) 0 - 1) 0) p) [
            | inl is ↦ inl (record { taken = taken; is = is })
            | inr not ↦ inr (λ own. not own.is)
          ]
      | inr none ↦ inr (λ own. let taken = own.taken in absurd (omega arith))
    ]

-- a slot that none has goes to the pixel of the run that begins here
pub slot_claimed : (slot : ℕ → ℕ) (pixels firsts counts aside : List ℕ) (start better most : ℕ) →
    start < length pixels → slot (get_or pixels start 0) < length firsts →
    get_or firsts (slot (get_or pixels start 0)) 0 ≡ 0 →
    Tallied slot pixels firsts counts aside start better most →
    Tallied slot pixels (set firsts (slot (get_or pixels start 0)) (start + 1)) counts aside start better most
slot_claimed slot pixels firsts counts aside start better most below fits free old =
    let pixel = get_or pixels start 0 in
    let at = slot pixel in
    let after = set firsts at (start + 1) in
    let here : (p : ℕ) → slot p ≡ at → get_or after (slot p) 0 ≡ start + 1 =
    λ p same. rw same (get_or-set_same firsts at (start + 1) 0 fits) in
    let there : (p : ℕ) → slot p ≢ at → get_or after (slot p) 0 ≡ get_or firsts (slot p) 0 =
    λ p differ. get_or-set_other firsts at (slot p) (start + 1) 0 differ in
    let was_free : (p : ℕ) → slot p ≡ at → get_or firsts (slot p) 0 ≡ 0 = λ p same. rw same free in
    let owned : (p : ℕ) → slot p ≢ at → IsOwner slot pixels after p → IsOwner slot pixels firsts p =
    λ p differ own. record { taken = rw (there p differ) at own.taken; is = rw (there p differ) at own.is } in
    record {
      vacant = λ p none. elim (cases_eq (slot p) at) [
        | inl same ↦ let now = here p same in absurd (omega arith)
        | inr differ ↦ old.vacant p (sym (there p differ) ∙ none)
      ];
      counted = λ p own. elim (cases_eq (slot p) at) [
        | inl same ↦ let was = old.vacant p (was_free p same) in omega (arith, was.0, was.1)
        | inr differ ↦ old.counted p (owned p differ own)
      ];
      yields = λ p own. elim (cases_eq (slot p) at) [
        | inl same ↦
            let was = old.vacant p (was_free p same) in
            (omega (arith, was.1), λ some tie. absurd (omega (arith, was.1, some)))
        | inr differ ↦ old.yields p (owned p differ own)
      ];
      other = λ p not. elim (cases_eq (slot p) at) [
        | inl same ↦
            let free_here = was_free p same in
            old.other p (λ own. let taken = own.taken in absurd (omega arith))
        | inr differ ↦
            old.other p (λ own. not (record { taken = rw (there p differ) own.taken; is = rw (there p differ) own.is }))
      ];
      less = old.less;
      within = λ p. elim (cases_eq (slot p) at) [
        | inl same ↦ let now = here p same in omega arith
        | inr differ ↦ let now = there p differ in let was = old.within p in omega arith
      ];
      few = old.few;
      some = old.some;
      there = old.there;
    }

-- the places of a run of one pixel, and those of others
pub record Passed (pixels : List ℕ) (start end : ℕ) : Type 0 where
  pub here : places_of (get_or pixels start 0) (take end pixels)
      ≡ places_of (get_or pixels start 0) (take start pixels) + (end - start)
  pub elsewhere : (p : ℕ) → p ≢ get_or pixels start 0 → places_of p (take end pixels) ≡ places_of p (take start pixels)
  pub grown : (p : ℕ) → places_of p (take start pixels) ≤ places_of p (take end pixels)

pub passed : (pixels : List ℕ) (start end : ℕ) → start < end → end ≤ length pixels →
    IsRun pixels start end → Passed pixels start end
passed pixels start end some within run =
    let pixel = get_or pixels start 0 in
    let n = end - start in
    let whole : start + n ≡ end = omega arith in
    let counted_to = run_counted pixel pixels start n (omega arith) (λ k from below. run k from (omega arith)) in
    let here : places_of pixel (take end pixels) ≡ places_of pixel (take start pixels) + n = rw whole at counted_to in
    let elsewhere : (p : ℕ) → p ≢ pixel → places_of p (take end pixels) ≡ places_of p (take start pixels) =
    λ p differ. rw whole at (run_passed p pixels start n (omega arith)
    (λ k from below same. differ (sym same ∙ run k from (omega arith)))) in
    record {
      here = here;
      elsewhere = elsewhere;
      grown = λ p. elim (cases_eq p pixel) [
        | inl is ↦ rw is (omega (arith, here))
        | inr differ ↦ let same = elsewhere p differ in omega (arith, same)
      ];
    }

-- the run is counted at the slot of its pixel
pub run_noted : (slot : ℕ → ℕ) (pixels firsts counts aside : List ℕ) (start end better most better' most' : ℕ) →
    start < end → end ≤ length pixels → IsRun pixels start end → slot (get_or pixels start 0) < length counts →
    IsOwner slot pixels firsts (get_or pixels start 0) →
    most ≤ most' → (most ≡ most' → better' ≤ better) →
    most' ≤ places_of better' (take end pixels) → IsPixelOf pixels better' →
    Yields (get_or counts (slot (get_or pixels start 0)) 0 + (end - start)) (get_or pixels start 0) most' better' →
    Tallied slot pixels firsts counts aside start better most →
    Tallied slot pixels firsts (set counts (slot (get_or pixels start 0))
    (get_or counts (slot (get_or pixels start 0)) 0 + (end - start))) aside end better' most'
run_noted slot pixels firsts counts aside start end better most better' most' some within run fits owner
    kept still led there yields old =
    let pixel = get_or pixels start 0 in
    let at = slot pixel in
    let n = end - start in
    let new = get_or counts at 0 + n in
    let after = set counts at new in
    let pass = passed pixels start end some within run in
    let before = old.counted pixel owner in
    let now : places_of pixel (take end pixels) ≡ new = omega (arith, before, pass.here) in
    let apart : (p : ℕ) → p ≢ pixel → IsOwner slot pixels firsts p → slot p ≢ at =
    λ p differ own same. differ (sym own.is ∙ (rw same owner.is)) in
    let unchanged : (p : ℕ) → slot p ≢ at → get_or after (slot p) 0 ≡ get_or counts (slot p) 0 =
    λ p differ. get_or-set_other counts at (slot p) new 0 differ in
    record {
      vacant = λ p none.
          let differ : slot p ≢ at = λ same. let taken = owner.taken in
          let free : get_or firsts at 0 ≡ 0 = rw same at none in
          absurd (omega arith) in
          let was = old.vacant p none in
          let not_pixel : p ≢ pixel = λ same. differ (ap slot same) in
          (unchanged p differ ∙ was.0, pass.elsewhere p not_pixel ∙ was.1);
      counted = λ p own. elim (cases_eq p pixel) [
        | inl is ↦ rw is (get_or-set_same counts at new 0 fits ∙ sym now)
        | inr differ ↦ unchanged p (apart p differ own) ∙ old.counted p own ∙ sym (pass.elsewhere p differ)
      ];
      yields = λ p own. elim (cases_eq p pixel) [
        | inl is ↦ rw (is, now) yields
        | inr differ ↦
            let same = pass.elsewhere p differ in
            let was = old.yields p own in (
              omega (arith, same, was.0, kept),
              λ some tie.
                  let equal : most ≡ most' = omega (arith, same, was.0, kept, tie) in
                  let first = still equal in
                  let least = was.1 (omega (arith, same, some)) (omega (arith, same, tie, equal)) in
                  omega arith,
            )
      ];
      other = λ p not. elim (cases_eq p pixel) [
        | inl is ↦ absurd (not (rw is owner))
        | inr differ ↦ old.other p not ∙ sym (pass.elsewhere p differ)
      ];
      less = λ p. let was = old.less p in let more = pass.grown p in omega arith;
      within = old.within;
      few = let was = old.few in omega arith;
      some = led;
      there = there;
    }

-- the run is put aside
pub run_aside : (slot : ℕ → ℕ) (pixels firsts counts aside : List ℕ) (start end better most : ℕ) → start < end →
    end ≤ length pixels → IsRun pixels start end → 0 < get_or firsts (slot (get_or pixels start 0)) 0 →
    (IsOwner slot pixels firsts (get_or pixels start 0) → ⊥) →
    Tallied slot pixels firsts counts aside start better most →
    Tallied slot pixels firsts counts (aside ++ replicate (end - start) (get_or pixels start 0)) end better most
run_aside slot pixels firsts counts aside start end better most some within run taken not_owner old =
    let pixel = get_or pixels start 0 in
    let n = end - start in
    let copies = replicate n pixel in
    let pass = passed pixels start end some within run in
    let joined : (p : ℕ) → places_of p (aside ++ copies) ≡ places_of p aside + places_of p copies =
    λ p. places-append p aside copies in
    let none : (p : ℕ) → p ≢ pixel → places_of p copies ≡ 0 =
    λ p differ. copies_passed p pixel n (λ same. differ (sym same)) in
    let all : places_of pixel copies ≡ n = copies_counted pixel n in
    record {
      vacant = λ p free.
          let was = old.vacant p free in
          let not_pixel : p ≢ pixel = λ same. let here : get_or firsts (slot pixel) 0 ≡ 0 = rw same at free in
          absurd (omega arith) in
          (was.0, pass.elsewhere p not_pixel ∙ was.1);
      counted = λ p own. old.counted p own ∙ sym (pass.elsewhere p (λ same. not_owner (rw same at own)));
      yields = λ p own. rw (pass.elsewhere p (λ same. not_owner (rw same at own))) (old.yields p own);
      other = λ p not. elim (cases_eq p pixel) [
        | inl is ↦
            let was = old.other pixel not_owner in
            let sum = joined pixel in
            rw is (omega (arith, was, sum, all, pass.here))
        | inr differ ↦
            let was = old.other p not in
            let sum = joined p in
            let zero_here = none p differ in
            let same = pass.elsewhere p differ in
            omega (arith, was, sum, zero_here, same)
      ];
      less = λ p. elim (cases_eq p pixel) [
        | inl is ↦ let was = old.less pixel in let sum = joined pixel in rw is (omega (arith, was, sum, all, pass.here))
        | inr differ ↦
            let was = old.less p in
            let sum = joined p in
            let zero_here = none p differ in
            let same = pass.elsewhere p differ in
            omega (arith, was, sum, zero_here, same)
      ];
      within = old.within;
      few = let was = old.few in simp (length-append, length-replicate) (omega arith);
      some = let was = old.some in let more = pass.grown better in omega arith;
      there = old.there;
    }

-- the best of those aside and of the table is the background
pub background_found : (slot : ℕ → ℕ) (pixels firsts counts aside : List ℕ) (start better most result : ℕ) →
    length pixels ≤ start → Tallied slot pixels firsts counts aside start better most → IsLed aside better most result →
    IsBackground pixels result
background_found slot pixels firsts counts aside start better most result whole old led =
    let all : take start pixels ≡ pixels = take_all start pixels whole in
    let less : (p : ℕ) → places_of p aside ≤ places_of p pixels = λ p. rw all at (old.less p) in
    let some : most ≤ places_of better pixels = rw all at old.some in
    let enough : led.count ≤ places_of result pixels = elim led.from [
      | inl l ↦
          let at : places_of result pixels ≡ places_of better pixels = ap (λ (p : ℕ). places_of p pixels) l.0 in
          omega (arith, at, l.1, some)
      | inr l ↦ let at = less result in omega (arith, at, l.1)
    ] in
    let each : (other : ℕ) → IsPixelOf pixels other →
    (places_of other pixels ≤ led.count) × (places_of other pixels ≡ led.count → result ≤ other) = λ other is.
    let place = has_place other pixels is in
    elim (cases_owner slot pixels firsts other) [
      | inl own ↦
          let was = old.yields other own in
          let at_most : places_of other pixels ≤ most = rw all at was.0 in
          let kept = led.kept in (
            omega arith,
            λ tie.
                let equal : most ≡ led.count = omega arith in
                let first = led.before equal in
                let least = (rw all at was.1) place (omega arith) in
                omega arith,
          )
      | inr not ↦
          let same : places_of other aside ≡ places_of other pixels = rw all at (old.other other not) in
          let at_most = led.each other in
          (omega (arith, same, at_most), λ tie. led.tied other (omega (arith, same, place)) (omega (arith, same, tie)))
    ] in
    record {
      there = elim led.from [
        | inl l ↦ rw (l.0) old.there
        | inr l ↦ let at = less result in is_pixel result pixels (omega (arith, at, l.0, l.1))
      ];
      most = λ other is. let at_most = each other is in omega (arith, at_most.0, enough);
      least = λ other is tie. let at_most = each other is in at_most.1 (omega (arith, at_most.0, enough, tie));
    }

-- where none is aside
pub led_alone : (better most : ℕ) → IsLed [] better most better
led_alone better most = record {
  count = most;
  from = inl (refl, refl);
  kept = omega arith;
  before = λ _. omega arith;
  each = λ other. omega arith;
  tied = λ other some tie. absurd (omega arith);
}
