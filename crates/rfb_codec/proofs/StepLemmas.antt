-- The steps of the loop that counts pixels: how many own a slot, and what a run of one pixel changes.
use Rattle.std.proofs.Common.{◌≡◌, ◌≢◌, ℕ, ◌+◌, ◌-◌, ◌<◌, ◌≤◌, List, ◌∷◌}
use Rattle.std.proofs.Common.{◌++◌, length, nat_eq, get_or, take, set}
use Rattle.std.proofs.Common.{replicate, arith, refl, sym, ◌∙◌, inl, inr, All}
use Rattle.std.proofs.lemmas.Bool.{cases_eq}
use Rattle.std.proofs.lemmas.List.Elements.{All-cons, All-weaker}
use Rattle.std.proofs.lemmas.List.{get_or-set_same, get_or-set_other, length-take, length-set}
use Rattle.std.proofs.lemmas.List.Sums.{count_by-le-length}
use Rattle.rfb_codec.specs.Choice.{IsPixelOf, places_of}
use Rattle.rfb_codec.specs.encoder.Background.{AllDiffer, Claims, HasMore, IsRun, Leads}
use Rattle.rfb_codec.proofs.TallyLemmas.{Yields}
use Rattle.rfb_codec.proofs.CountLemmas.{IsOwner, Tallied, passed, slot_claimed, run_noted, run_aside}

-- ---- how many pixels own a slot

-- the pixels that own a slot and those still allowed are together the limit
pub record Claimed (slot : ℕ → ℕ) (pixels firsts : List ℕ) (free limit : ℕ) : Type 0 where
  pub owners : List ℕ
  pub many : length owners + free ≡ limit
  pub there : All (λ p. IsPixelOf pixels p) owners
  pub differ : AllDiffer owners
  pub held : All (λ p. 0 < get_or firsts (slot p) 0) owners

-- a pixel whose slot is vacant is none of the owners
is_other : (slot : ℕ → ℕ) (firsts owners : List ℕ) (pixel : ℕ) → get_or firsts (slot pixel) 0 ≡ 0 →
    All (λ p. 0 < get_or firsts (slot p) 0) owners → All (λ p. p ≢ pixel) owners
is_other slot firsts owners pixel free held =
    All-weaker (λ p. 0 < get_or firsts (slot p) 0) (λ p. p ≢ pixel) (λ p taken same.
    let here : 0 < get_or firsts (slot pixel) 0 = rw same at taken in absurd (omega arith)) owners held

pub claimed_more : (slot : ℕ → ℕ) (pixels firsts : List ℕ) (start free limit mark : ℕ) → start < length pixels →
    slot (get_or pixels start 0) < length firsts → get_or firsts (slot (get_or pixels start 0)) 0 ≡ 0 → free ≢ 0 →
    0 < mark →
    Claimed slot pixels firsts free limit →
    Claimed slot pixels (set firsts (slot (get_or pixels start 0)) mark) (free - 1) limit
claimed_more slot pixels firsts start free limit mark below fits vacant some marked old =
    let pixel = get_or pixels start 0 in
    let at = slot pixel in
    let after = set firsts at mark in
    let now : get_or after at 0 ≡ mark = get_or-set_same firsts at mark 0 fits in
    record {
      owners = pixel ∷ old.owners;
      many = let was = old.many in omega arith;
      there = All-cons (λ p. IsPixelOf pixels p) (get_or pixels start 0) old.owners (start, below, refl) old.there;
      differ = (is_other slot firsts old.owners pixel vacant old.held, old.differ);
      held = All-cons (λ p. 0 < get_or after (slot p) 0) pixel old.owners (omega (arith, now, marked)) (All-weaker (λ p.
          0 < get_or firsts (slot p) 0) (λ p. 0 < get_or after (slot p) 0) (λ p taken. elim (cases_eq (slot p) at) [
            | inl same ↦ rw same (omega (arith, now, marked))
            | inr differ ↦ let kept = get_or-set_other firsts at (slot p) mark 0 differ in omega (arith, kept, taken)
          ]) old.owners old.held);
    }

-- where no more is allowed, there are more
pub more_than_allowed : (slot : ℕ → ℕ) (pixels firsts : List ℕ) (start limit : ℕ) → start < length pixels →
    get_or firsts (slot (get_or pixels start 0)) 0 ≡ 0 → Claimed slot pixels firsts 0 limit → HasMore limit pixels
more_than_allowed slot pixels firsts start limit below vacant old = record {
  some = get_or pixels start 0 ∷ old.owners;
  many = let was = old.many in omega arith;
  there = All-cons (λ p. IsPixelOf pixels p) (get_or pixels start 0) old.owners (start, below, refl) old.there;
  differ = (is_other slot firsts old.owners (get_or pixels start 0) vacant old.held, old.differ);
}

-- ---- the steps of the loop, where the code's slot is that of the pixel

-- at `start` both tables have all slots, the places before are counted or put aside, and the owners of
-- slots and the pixels still allowed are together the limit
pub record Counting (slot : ℕ → ℕ) (slots : ℕ) (pixels firsts counts aside : List ℕ)
    (start better most free limit : ℕ) : Type 0 where
  pub firsts_sized : length firsts ≡ slots
  pub counts_sized : length counts ≡ slots
  pub tallied : Tallied slot pixels firsts counts aside start better most
  pub claimed : Claimed slot pixels firsts free limit

-- the slot of the run that begins here belongs to some pixel
pub record Settled (slot : ℕ → ℕ) (slots : ℕ) (pixels firsts counts aside : List ℕ)
    (start better most free limit first at : ℕ) : Type 0 where
  pub counting : Counting slot slots pixels firsts counts aside start better most free limit
  pub at_is : at ≡ slot (get_or pixels start 0)
  pub below : at < slots
  pub first_is : first ≡ get_or firsts at 0
  pub taken : 0 < first

pub slot_settled : {slot : ℕ → ℕ} {slots : ℕ} {pixels firsts firsts' counts aside : List ℕ}
    {start better most free free' limit first at : ℕ} → at ≡ slot (get_or pixels start 0) →
    start < length pixels → at < slots → Claims at start firsts firsts' free free' first →
    Counting slot slots pixels firsts counts aside start better most free limit →
    Settled slot slots pixels firsts' counts aside start better most free' limit first at
slot_settled {slot} {slots} {pixels} {firsts} {firsts'} {counts} {aside} {start} {better} {most} {free} {free'}
    {limit} {first} {at} e here below choice old =
    let fits : at < length firsts = omega (arith, below, old.firsts_sized) in
    elim choice [
      | inl l ↦
          let vacant = rw e at l.0 in
          let fits_there = rw e at fits in
          let now = get_or-set_same firsts at (start + 1) 0 fits in
          let some : 0 < start + 1 = omega arith in
          rw (l.2, l.3, l.4) (record {
            counting = record {
              firsts_sized = length-set firsts at (start + 1) ∙ old.firsts_sized;
              counts_sized = old.counts_sized;
              tallied = rw e (slot_claimed slot pixels firsts counts aside start better most here fits_there vacant
                  old.tallied);
              claimed = rw e (claimed_more slot pixels firsts start free limit (start + 1) here
                  fits_there vacant l.1 some old.claimed);
            };
            at_is = e;
            below = below;
            first_is = sym now;
            taken = some;
          })
      | inr l ↦
          let some : 0 < get_or firsts at 0 = omega (arith, l.0) in
          rw (l.1, l.2, l.3)
          (record { counting = old; at_is = e; below = below; first_is = refl; taken = some })
    ]

-- the slot belongs to the pixel of the run, if the pixel at its first place is that
pub owner_known : (slot : ℕ → ℕ) (pixels firsts : List ℕ) (start first at : ℕ) → at ≡ slot (get_or pixels start 0) →
    first ≡ get_or firsts at 0 → 0 < first → get_or pixels (first - 1) 0 ≡ get_or pixels start 0 →
    IsOwner slot pixels firsts (get_or pixels start 0)
owner_known slot pixels firsts start first at e is taken same =
    let there : first ≡ get_or firsts (slot (get_or pixels start 0)) 0 = rw (← e) is in
    record { taken = rw (← there) taken; is = rw (← there) same }

pub owner_other : (slot : ℕ → ℕ) (pixels firsts : List ℕ) (start first at : ℕ) → at ≡ slot (get_or pixels start 0) →
    first ≡ get_or firsts at 0 → get_or pixels (first - 1) 0 ≢ get_or pixels start 0 →
    IsOwner slot pixels firsts (get_or pixels start 0) → ⊥
owner_other slot pixels firsts start first at e is differ own =
    let there : first ≡ get_or firsts (slot (get_or pixels start 0)) 0 = rw (← e) is in
    differ (rw there own.is)

-- no more places are counted than passed
pub count_within : (slot : ℕ → ℕ) (pixels firsts counts aside : List ℕ) (start better most at : ℕ) →
    at ≡ slot (get_or pixels start 0) → IsOwner slot pixels firsts (get_or pixels start 0) →
    Tallied slot pixels firsts counts aside start better most → get_or counts at 0 ≤ start
count_within slot pixels firsts counts aside start better most at e own old =
    let is = old.counted (get_or pixels start 0) own in
    let few = count_by-le-length (λ (q : ℕ). nat_eq q (get_or pixels start 0)) (take start pixels) in
    let short = length-take start pixels in
    rw e (omega (arith, is, few, short))

-- the run is counted, and its pixel is the best so far
pub noted_first : (slot : ℕ → ℕ) (pixels firsts counts aside : List ℕ) (start end better most at : ℕ) →
    at ≡ slot (get_or pixels start 0) → start < end → end ≤ length pixels → IsRun pixels start end →
    at < length counts → IsOwner slot pixels firsts (get_or pixels start 0) →
    Leads (get_or counts at 0 + (end - start)) (get_or pixels start 0) most better →
    Tallied slot pixels firsts counts aside start better most →
    Tallied slot pixels firsts (set counts at (get_or counts at 0 + (end - start))) aside end (get_or pixels start 0)
    (get_or counts at 0 + (end - start))
noted_first slot pixels firsts counts aside start end better most at e some within run fits own leads old =
    let pixel = get_or pixels start 0 in
    let count = get_or counts at 0 + (end - start) in
    let pass = passed pixels start end some within run in
    let was : get_or counts at 0 ≡ places_of pixel (take start pixels) = rw e (old.counted pixel own) in
    let now : places_of pixel (take end pixels) ≡ count = omega (arith, was, pass.here) in
    let more : most ≤ count = elim leads [ inl l ↦ omega arith | inr l ↦ omega arith ] in
    let tie : most ≡ count → pixel ≤ better =
    λ same. elim leads [ inl l ↦ absurd (omega arith) | inr l ↦ omega arith ] in
    let most_led : count ≤ places_of pixel (take end pixels) = omega (arith, now) in
    let itself : Yields count pixel count pixel = (omega arith, λ _ _. omega arith) in
    let noted : count ≡ get_or counts (slot pixel) 0 + (end - start) = rw e refl in
    rw e (run_noted slot pixels firsts counts aside start end better
    most pixel (get_or counts (slot pixel) 0 + (end - start)) some within run (rw e at fits) own (rw noted at more)
    (rw noted at tie) (rw noted at most_led) (start, omega arith, refl) (rw noted at itself) old)

-- the run is counted, and another pixel is still the best
pub noted_after : (slot : ℕ → ℕ) (pixels firsts counts aside : List ℕ) (start end better most at : ℕ) →
    at ≡ slot (get_or pixels start 0) → start < end → end ≤ length pixels → IsRun pixels start end →
    at < length counts → IsOwner slot pixels firsts (get_or pixels start 0) →
    (get_or counts at 0 + (end - start) ≤ most) × (get_or counts at 0 + (end - start) ≡ most →
    better ≤ get_or pixels start 0) → Tallied slot pixels firsts counts aside start better most →
    Tallied slot pixels firsts (set counts at (get_or counts at 0 + (end - start))) aside end better most
noted_after slot pixels firsts counts aside start end better most at e some within run fits own no_more old =
    let pixel = get_or pixels start 0 in
    let pass = passed pixels start end some within run in
    let grown = pass.grown better in
    let led = old.some in
    let yields : Yields (get_or counts at 0 + (end - start)) pixel most better = (no_more.0, λ _ tie. no_more.1 tie) in
    rw e (run_noted slot pixels firsts counts aside start end better most better most some within run (rw e at fits) own
    (omega arith) (λ _. omega arith) (omega arith) old.there (rw e at yields) old)

-- the run is put aside
pub put_by : (slot : ℕ → ℕ) (pixels firsts counts aside : List ℕ) (start end better most first at : ℕ) →
    at ≡ slot (get_or pixels start 0) → start < end → end ≤ length pixels → IsRun pixels start end →
    first ≡ get_or firsts at 0 → 0 < first → get_or pixels (first - 1) 0 ≢ get_or pixels start 0 →
    Tallied slot pixels firsts counts aside start better most →
    Tallied slot pixels firsts counts (aside ++ replicate (end - start) (get_or pixels start 0)) end better most
put_by slot pixels firsts counts aside start end better most first at e some within run is taken differ old =
    let there : first ≡ get_or firsts (slot (get_or pixels start 0)) 0 = rw (← e) is in
    run_aside slot pixels firsts counts aside start end better most some within run (rw there at taken)
    (owner_other slot pixels firsts start first at e is differ) old

-- ---- a turn of the loop

module _ {slot : ℕ → ℕ} {slots : ℕ} {pixels firsts counts aside : List ℕ}
    {start end better most free limit first at : ℕ}
    (settled : Settled slot slots pixels firsts counts aside start better most free limit first at)
    (some : start < end) (within : end ≤ length pixels) (run : IsRun pixels start end) where
  owned : get_or pixels (first - 1) 0 ≡ get_or pixels start 0 → IsOwner slot pixels firsts (get_or pixels start 0)
  owned same = owner_known slot pixels firsts start first at settled.at_is settled.first_is settled.taken same

  in_counts : at < length counts
  in_counts = omega (arith, settled.below, settled.counting.counts_sized)

  -- what the slot has counted are no more places than all
  pub count_fits : get_or pixels (first - 1) 0 ≡ get_or pixels start 0 →
      get_or counts at 0 + (end - start) ≤ length pixels
  count_fits same =
      let few = count_within slot pixels firsts counts aside start better most at settled.at_is (owned same)
      settled.counting.tallied in
      omega (arith, few, some, within)

  counted : {better' most' : ℕ} →
      Tallied slot pixels firsts (set counts at (get_or counts at 0 + (end - start))) aside end better' most' →
      Counting slot slots pixels firsts (set counts at (get_or counts at 0 + (end - start))) aside end better' most'
      free limit
  counted tallied = record {
    firsts_sized = settled.counting.firsts_sized;
    counts_sized = length-set counts at (get_or counts at 0 + (end - start)) ∙ settled.counting.counts_sized;
    tallied = tallied;
    claimed = settled.counting.claimed;
  }

  -- the run is counted, and its pixel is the best so far
  pub counted_first : get_or pixels (first - 1) 0 ≡ get_or pixels start 0 →
      Leads (get_or counts at 0 + (end - start)) (get_or pixels start 0) most better →
      Counting slot slots pixels firsts (set counts at (get_or counts at 0 + (end - start))) aside end
      (get_or pixels start 0) (get_or counts at 0 + (end - start)) free limit
  counted_first same leads =
      counted (noted_first slot pixels firsts counts aside start end better most at settled.at_is some within run
      in_counts (owned same) leads settled.counting.tallied)

  -- the run is counted, and another pixel is still the best
  pub counted_after : get_or pixels (first - 1) 0 ≡ get_or pixels start 0 →
      (get_or counts at 0 + (end - start) ≤ most)
      × (get_or counts at 0 + (end - start) ≡ most → better ≤ get_or pixels start 0) →
      Counting slot slots pixels firsts (set counts at (get_or counts at 0 + (end - start))) aside end better most
      free limit
  counted_after same no_more =
      counted (noted_after slot pixels firsts counts aside start end better most at settled.at_is some within run
      in_counts (owned same) no_more settled.counting.tallied)

  -- the run is put aside
  pub counted_aside : get_or pixels (first - 1) 0 ≢ get_or pixels start 0 →
      Counting slot slots pixels firsts counts (aside ++ replicate (end - start) (get_or pixels start 0)) end better
      most free limit
  counted_aside differ = record {
    firsts_sized = settled.counting.firsts_sized;
    counts_sized = settled.counting.counts_sized;
    tallied = put_by slot pixels firsts counts aside start end better most first at settled.at_is some within run
        settled.first_is settled.taken differ settled.counting.tallied;
    claimed = settled.counting.claimed;
  }
