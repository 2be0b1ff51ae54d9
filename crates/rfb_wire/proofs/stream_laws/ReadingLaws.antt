-- What follows from the law of a reading.
use Rattle.std.proofs.Common.{◌≡◌, ℕ, zero, suc, ◌<◌, List, [], ◌∷◌, ◌++◌, length, refl, subst, append_assoc}
use Rattle.std.proofs.Common.{append-nil, arith}
use Rattle.rfb_wire.specs.stream.Prefix.{Next, More, Got, Bad, Reading, Says, Reads, Listed, ListedAfter}
use Rattle.rfb_wire.specs.stream.Parts.{many, each}
use Rattle.rfb_wire.proofs.stream_laws.RepeatLaws.{listed_to}

module _ {A F : Type 0} where
  -- further bytes change no item
  pub reads_more : (p : Reading A F) (s : Says A F) → Reads p s →
      (bytes tail : List ℕ) (a : A) (rest : List ℕ) → p bytes ≡ Got a rest →
      p (bytes ++ tail) ≡ Got a (rest ++ tail)
  reads_more p s reads bytes tail a rest e =
      let one = reads.found bytes a rest e in
      rw (one.1, append_assoc one.0 rest tail) (reads.only a one.0 (rest ++ tail) one.2)

  -- further bytes change no fault
  pub reads_bad : (p : Reading A F) (s : Says A F) → Reads p s → (bytes tail : List ℕ) (f : F) →
      p bytes ≡ Bad f → p (bytes ++ tail) ≡ Bad f
  reads_bad p s reads bytes tail f e =
      let one = reads.blamed bytes f e in
      rw (one.2, append_assoc one.0 one.1 tail) (reads.blames f one.0 (one.1 ++ tail) one.3)

  -- an item is read from its own bytes alone
  pub reads_alone : (p : Reading A F) (s : Says A F) → Reads p s →
      (bytes : List ℕ) (a : A) (rest : List ℕ) → p bytes ≡ Got a rest →
      (front : List ℕ) × (bytes ≡ front ++ rest) × (p front ≡ Got a []) × s.item a front
  reads_alone p s reads bytes a rest e =
      let one = reads.found bytes a rest e in
      let alone : p (one.0 ++ []) ≡ Got a [] = reads.only a one.0 [] one.2 in
      (one.0, one.1, subst (λ (ys : List ℕ). p ys ≡ Got a []) (append-nil one.0) alone, one.2)

  -- no item's bytes begin with another's
  pub reads_one : (p : Reading A F) (s : Says A F) → Reads p s → (a b : A) (xs ys : List ℕ) →
      s.item a xs → s.item b (xs ++ ys) → (a ≡ b) × (ys ≡ [])
  reads_one p s reads a b xs ys one two =
      let first : p (xs ++ ys) ≡ Got a ys = reads.only a xs ys one in
      let second : p ((xs ++ ys) ++ []) ≡ Got b [] = reads.only b (xs ++ ys) [] two in
      let second' : p (xs ++ ys) ≡ Got b [] =
      subst (λ (zs : List ℕ). p zs ≡ Got b []) (append-nil (xs ++ ys)) second in
      (cc, cc)

  -- bytes are too few where no front of them says anything
  pub reads_waits : (p : Reading A F) (s : Says A F) → Reads p s → (bytes : List ℕ) →
      ((a : A) (front rest : List ℕ) → bytes ≡ front ++ rest → s.item a front → ⊥) →
      ((f : F) (front rest : List ℕ) → bytes ≡ front ++ rest → s.fault f front → ⊥) →
      p bytes ≡ More
  reads_waits p s reads bytes no_item no_fault = by (p bytes) refl
    where
      by : (n : Next A F) → p bytes ≡ n → n ≡ More
      by More e = refl
      by (Got a rest) e = let one =
          reads.found bytes a rest e in absurd (no_item a one.0 rest one.1 one.2)
      by (Bad f) e = let one = reads.blamed bytes f e in absurd (no_fault f one.0 one.1 one.2 one.3)

  -- of bytes that are too few no front says anything
  pub waits_reads : (p : Reading A F) (s : Says A F) → Reads p s → (bytes : List ℕ) →
      p bytes ≡ More → ((a : A) (front rest : List ℕ) → bytes ≡ front ++ rest → s.item a front → ⊥)
      × ((f : F) (front rest : List ℕ) → bytes ≡ front ++ rest → s.fault f front → ⊥)
  waits_reads p s reads bytes e = (
    (λ a front rest is says. let got : p (front ++ rest)
        ≡ Got a rest = reads.only a front rest says in let more : p (front ++ rest) ≡ More =
        subst (λ (ys : List ℕ). p ys ≡ More) is e in cc),
    (λ f front rest is says. let bad : p (front ++ rest) ≡ Bad f = reads.blames f front rest says in
        let more : p (front ++ rest) ≡ More = subst (λ (ys : List ℕ). p ys ≡ More) is e in cc),
  )

  -- a run of whole units, fewer than asked, waits where the part waits after them
  pub each_waits : (n : ℕ) (p : List A → Reading A F) (s : List A → Says A F) →
      ((xs : List A) → Reads (p xs) (s xs)) → (before items : List A) (front rest : List ℕ) →
      ListedAfter (λ xs. (s xs).item) before items front → length items < n →
      p (before ++ items) rest ≡ More → each n p before (front ++ rest) ≡ More
  each_waits zero p s reads before items front rest listed l e = absurd (omega (arith, l))
  each_waits (suc n) p s reads before [] front rest listed l e =
      let here : p before rest ≡ More =
      subst (λ (xs : List A). p xs rest ≡ More) (append-nil before) e in
      rw (listed, here) refl
  each_waits (suc n) p s reads before (a ∷ more) front rest listed l e =
      let first : p before (listed.0 ++ (listed.1 ++ rest)) ≡ Got a (listed.1 ++ rest) =
      (reads before).only a listed.0 (listed.1 ++ rest) listed.3 in
      let others : each n p (before ++ a ∷ []) (listed.1 ++ rest) ≡ More =
      each_waits n p s reads (before ++ a ∷ []) more listed.1 rest listed.4 (omega (arith, l))
      (rw (append_assoc before (a ∷ []) more) e) in
      rw (listed.2, append_assoc listed.0 listed.1 rest, first, others) refl

  pub many_waits : (n : ℕ) (p : Reading A F) (s : Says A F) → Reads p s →
      (items : List A) (front rest : List ℕ) → Listed s.item items front → length items < n →
      p rest ≡ More → many n p (front ++ rest) ≡ More
  many_waits n p s reads items front rest listed l e =
      each_waits n (λ _. p) (λ _. s) (λ _. reads) [] items front rest
      (listed_to s.item [] items front listed) l e
