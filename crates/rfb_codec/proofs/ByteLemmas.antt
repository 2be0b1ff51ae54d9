-- Readings of bytes that come one after another.
use Rattle.std.proofs.Common.{◌≡◌, ℕ, ◌+◌, ◌-◌, ◌<◌, ◌≤◌, List, [], ◌∷◌, ◌++◌, length, take, drop, refl, sym}
use Rattle.std.proofs.Common.{◌∙◌, ap, subst, arith, length-append, length-drop, length-take-le}
use Rattle.std.proofs.Common.{take-append-drop}
use Rattle.std.proofs.lemmas.List.{take-append-le, take_at}
use Rattle.rfb_wire.specs.stream.Prefix.{Next, More, Got, Bad, Reading, Says, Reads}
use Rattle.rfb_wire.proofs.stream_laws.FeedLaws.{take_add}
use Rattle.rfb_wire.proofs.stream_laws.ReadingLaws.{reads_more, reads_bad, reads_alone}

module _ {A F : Type 0} where
  -- with the byte that an item was waited for with, nothing is left after it
  pub last_byte : (p : Reading A F) (s : Says A F) → Reads p s → (xs : List ℕ) (b : ℕ) (a : A) (rest : List ℕ) →
      p xs ≡ More → p (xs ++ b ∷ []) ≡ Got a rest → rest ≡ []
  last_byte p s reads xs b a [] more got = refl
  last_byte p s reads xs b a (r ∷ rs) more got =
      let one = reads.found (xs ++ b ∷ []) a (r ∷ rs) got in
      let front = one.0 in
      let lengths : length xs + 1 ≡ length front + length (r ∷ rs) =
      sym (length-append xs (b ∷ [])) ∙ ap length one.1 ∙ length-append front (r ∷ rs) in
      let n = length front in
      let short : n ≤ length xs = omega (arith, lengths) in
      let same : take n xs ≡ front =
      sym (take-append-le n xs (b ∷ []) short) ∙ ap (take n) one.1 ∙ take_at front (r ∷ rs) n refl in
      let got' : p xs ≡ Got a (drop n xs) = subst (λ (ys : List ℕ). p ys ≡ Got a (drop n xs)) (take-append-drop n xs)
      (rw same (reads.only a front (drop n xs) one.2)) in
      cc

  -- an item is waited for up to its last byte
  pub last_awaited : (p : Reading A F) (s : Says A F) → Reads p s → (bytes : List ℕ) (a : A) (used : ℕ) →
      0 < used → used ≤ length bytes → p bytes ≡ Got a (drop used bytes) → (p (take used bytes) ≡ Got a []) × (p
      (take (used - 1) bytes) ≡ More)
  last_awaited p s reads bytes a used some within got = (whole, by (p (take k bytes)) refl)
    where
      k : ℕ
      k = used - 1

      whole : p (take used bytes) ≡ Got a []
      whole =
          let one = reads_alone p s reads bytes a (drop used bytes) got in
          let lengths : length bytes ≡ length one.0 + length (drop used bytes) = ap length one.1 ∙ length-append
          one.0 (drop used bytes) in
          let back : length (drop used bytes) ≡ length bytes - used = length-drop used bytes in
          let same : take used bytes ≡ one.0 = ap (take used) one.1 ∙ take_at one.0 (drop used bytes) used (omega
          (arith, lengths, back)) in
          rw same one.2

      next_byte : take used bytes ≡ take k bytes ++ take 1 (drop k bytes)
      next_byte = ap (λ (n : ℕ). take n bytes) (omega (arith, some)) ∙ take_add k 1 bytes

      by : (next : Next A F) → p (take k bytes) ≡ next → p (take k bytes) ≡ More
      by More e = e
      by (Got b rest) e =
          let longer : p (take used bytes) ≡ Got b (rest ++ take 1 (drop k bytes)) = rw next_byte
          (reads_more p s reads (take k bytes) (take 1 (drop k bytes)) b rest e) in
          let there = whole in
          let same : [] ≡ rest ++ take 1 (drop k bytes) = cc in
          let left : length (drop k bytes) ≡ length bytes - k = length-drop k bytes in
          let one : length (take 1 (drop k bytes)) ≡ 1 = length-take-le 1 (drop k bytes) (omega
          (arith, left, some, within)) in
          let none : 0 ≡ length rest + length (take 1 (drop k bytes)) = ap length same ∙ length-append rest
          (take 1 (drop k bytes)) in
          absurd (omega (arith, one, none))
      by (Bad f) e =
          let longer : p (take used bytes) ≡ Bad f = rw next_byte (reads_bad p s reads (take k bytes) (take 1
          (drop k bytes)) f e) in
          let there = whole in
          cc
