-- Counts of the places of two pixels.
use Rattle.std.proofs.Common.{◌≡◌, ◌≢◌, ℕ, suc, ◌+◌, ◌<◌, ◌≤◌, ◌⊎◌, zero, inl, inr}
use Rattle.std.proofs.Common.{List, length}
use Rattle.std.proofs.Common.{slice_index, take, arith, refl, sym, ◌∙◌}
use Rattle.std.proofs.lemmas.List.{take_all}
use Rattle.std.proofs.lemmas.Bool.{cases_lt}
use Rattle.rfb_codec.specs.encoder.Background.{Leads}
use Rattle.rfb_codec.specs.Choice.{IsPixelOf, places_of}
use Rattle.rfb_codec.specs.encoder.Palette.{IsMoreFrequent}
use Rattle.rfb_codec.proofs.PlacesLemmas.{more_no, more_yes}

-- where each place has one of two, the places of both are all: first of the first `n`
counted_up_to : (a b n : ℕ) (pixels : List ℕ) → a ≢ b →
    ((i : ℕ) → i < length pixels → (slice_index pixels i ≡ a) ⊎ (slice_index pixels i ≡ b)) → n ≤ length pixels →
    places_of a (take n pixels) + places_of b (take n pixels) ≡ n
counted_up_to a b zero pixels differ each within = refl
counted_up_to a b (suc n) pixels differ each within =
    let below : n < length pixels = omega arith in
    let before = counted_up_to a b n pixels differ each (omega arith) in
    let next : suc n ≡ n + 1 = omega arith in
    elim (each n below) [
      | inl is ↦
          let here = more_yes a pixels n below is in
          let other = more_no b pixels n below (λ same. differ (sym is ∙ same)) in
          rw next (omega (arith, before, here, other))
      | inr is ↦
          let here = more_yes b pixels n below is in
          let other = more_no a pixels n below (λ same. differ (sym same ∙ is)) in
          rw next (omega (arith, before, here, other))
    ]

pub two_counted : (a b : ℕ) (pixels : List ℕ) → a ≢ b →
    ((i : ℕ) → i < length pixels → (slice_index pixels i ≡ a) ⊎ (slice_index pixels i ≡ b)) →
    places_of a pixels + places_of b pixels ≡ length pixels
two_counted a b pixels differ each =
    let all : take (length pixels) pixels ≡ pixels = take_all (length pixels) pixels (omega arith) in
    rw all at (counted_up_to a b (length pixels) pixels differ each (omega arith))

-- each place has one of two pixels: so many the first and so many the second
pub record AreTwo (pixels : List ℕ) (first second firsts seconds : ℕ) : Type 0 where
  pub has_first : IsPixelOf pixels first
  pub has_second : IsPixelOf pixels second
  pub differ : first ≢ second
  pub each : (i : ℕ) → i < length pixels → (slice_index pixels i ≡ first) ⊎ (slice_index pixels i ≡ second)
  pub counted : seconds ≡ places_of second pixels
  pub both : firsts + seconds ≡ length pixels

-- the first is the background
pub first_is_more : {pixels : List ℕ} {first second firsts seconds : ℕ} →
    AreTwo pixels first second firsts seconds → Leads firsts first seconds second →
    IsMoreFrequent first second pixels
first_is_more {pixels} {first} {second} {firsts} {seconds} two more =
    let all = two_counted first second pixels two.differ two.each in
    elim more [
      | inl most ↦ inl (omega (arith, all, two.counted, two.both, most))
      | inr tied ↦ inr (omega (arith, all, two.counted, two.both, tied.0), tied.1)
    ]

-- the second is the background
pub second_is_more : {pixels : List ℕ} {first second firsts seconds : ℕ} →
    AreTwo pixels first second firsts seconds →
    (firsts ≤ seconds) × (firsts ≡ seconds → second ≤ first) → IsMoreFrequent second first pixels
second_is_more {pixels} {first} {second} {firsts} {seconds} two (most, tied) =
    let all = two_counted first second pixels two.differ two.each in
    elim (cases_lt firsts seconds) [
      | inl fewer ↦ inl (omega (arith, all, two.counted, two.both, fewer))
      | inr from ↦
          let same : firsts ≡ seconds = omega arith in
          let less = tied same in
          inr (omega (arith, all, two.counted, two.both, same), omega (arith, two.differ, less))
    ]
