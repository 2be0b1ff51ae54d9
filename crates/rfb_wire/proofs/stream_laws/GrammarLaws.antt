-- Laws of streams, of every grammar.
use Rattle.std.proofs.Common.{◌≡◌, ℕ, zero, suc, ◌+◌, ◌≤◌, ◌<◌, inl, inr, List, [], ◌∷◌, ◌++◌, Option, Some, None}
use Rattle.std.proofs.Common.{length, take, drop, refl, sym, subst, ◌∙◌, ap, append_assoc, append-nil, arith}
use Rattle.std.proofs.Common.{length-append, take-append-drop}
use Rattle.std.proofs.lemmas.List.{take_at, take-append-le}
use Rattle.std.specs.List.{concat}
use Rattle.std.proofs.lemmas.Bool.{cases_lt}
use Rattle.rfb_wire.specs.stream.Prefix.{Next, More, Got, Bad, Says}
use Rattle.rfb_wire.specs.stream.Grammar.{Grammar, IsSpelled, IsGrammar, ReadsAll, past_all, sizes, IsWithinFirst}
use Rattle.rfb_wire.specs.stream.Grammar.{EndsIn, HasVerdict, CutVerdict}
use Rattle.rfb_wire.proofs.stream_laws.ReadingLaws.{reads_more, reads_bad, reads_alone}

nothing_left : (xs ys : List ℕ) → xs ++ ys ≡ [] → xs ≡ []
nothing_left [] ys e = refl
nothing_left (x ∷ xs) ys e = cc

module _ {I F : Type 0} where
  ends_open : (told : Option F) (n : Next I F) (i : I) (rest : List ℕ) → EndsIn told n →
      n ≡ Got i rest → ⊥
  ends_open None n i rest ends e = cc
  ends_open (Some f) n i rest ends e = cc

  ends_one : (v w : Option F) (n : Next I F) → EndsIn v n → EndsIn w n → v ≡ w
  ends_one None None n one two = refl
  ends_one None (Some f) n one two = cc
  ends_one (Some f) None n one two = cc
  ends_one (Some f) (Some h) n one two = let same : f ≡ h = cc in ap (λ (k : F). Some k) same

module _ {P I F : Type 0} where
  -- a grammar that is spelled has the laws
  pub spelled_grammar : (g : Grammar P I F) (says : P → Says I F) → IsSpelled g says → IsGrammar g
  spelled_grammar g says spelled = record {
    got = λ p bytes tail i rest e.
        reads_more (g.next p) (says p) (spelled.reads p) bytes tail i rest e;
    bad = λ p bytes tail f e. reads_bad (g.next p) (says p) (spelled.reads p) bytes tail f e;
    cut = λ p bytes i rest e. let alone =
        reads_alone (g.next p) (says p) (spelled.reads p) bytes i rest e in
        (alone.0, alone.1, alone.2, spelled.sized p i alone.0 alone.3);
    empty = λ p. nothing p (g.next p []) refl;
  }
    where
      none : (front rest : List ℕ) → [] ≡ front ++ rest → 0 < length front → ⊥
      none [] rest e l = omega (arith, l)
      none (x ∷ front) rest e l = cc

      nothing : (p : P) (n : Next I F) → g.next p [] ≡ n → n ≡ More
      nothing p More e = refl
      nothing p (Got i rest) e =
          let one = (spelled.reads p).found [] i rest e in
          absurd (none one.0 rest one.1 (spelled.some p i one.0 one.2))
      nothing p (Bad f) e =
          let one = (spelled.reads p).blamed [] f e in
          absurd (none one.0 one.1 one.2 (spelled.some_fault p f one.0 one.3))

  -- further bytes after the rest
  pub all_more : (g : Grammar P I F) → IsGrammar g →
      (p : P) (bytes tail : List ℕ) (items : List I) (rest : List ℕ) →
      ReadsAll g p bytes items rest → ReadsAll g p (bytes ++ tail) items (rest ++ tail)
  all_more g laws p bytes tail [] rest e = ap (λ (ys : List ℕ). ys ++ tail) e
  all_more g laws p bytes tail (i ∷ items) rest h = (
    h.0 ++ tail,
    laws.got p bytes tail i h.0 h.1,
    all_more g laws (g.past p i) h.0 tail items rest h.2,
  )

  -- items after items
  pub all_append : (g : Grammar P I F) (p : P) (bytes : List ℕ) (xs ys : List I)
      (mid rest : List ℕ) → ReadsAll g p bytes xs mid → ReadsAll g (past_all g p xs) mid ys rest →
      ReadsAll g p bytes (xs ++ ys) rest
  all_append g p bytes [] ys mid rest e h =
      subst (λ (zs : List ℕ). ReadsAll g p zs ys rest) (sym e) h
  all_append g p bytes (i ∷ xs) ys mid rest w h =
      (w.0, w.1, all_append g (g.past p i) w.0 xs ys mid rest w.2 h)

  pub past_append : (g : Grammar P I F) (p : P) (xs ys : List I) →
      past_all g p (xs ++ ys) ≡ past_all g (past_all g p xs) ys
  past_append g p [] ys = refl
  past_append g p (i ∷ xs) ys = past_append g (g.past p i) xs ys

  pub sizes_append : (g : Grammar P I F) (xs ys : List I) →
      sizes g (xs ++ ys) ≡ sizes g xs + sizes g ys
  sizes_append g [] ys = omega arith
  sizes_append g (i ∷ xs) ys = let more = sizes_append g xs ys in omega arith

  -- the bytes of items
  pub all_length : (g : Grammar P I F) → IsGrammar g →
      (p : P) (bytes : List ℕ) (items : List I) (rest : List ℕ) → ReadsAll g p bytes items rest →
      length bytes ≡ sizes g items + length rest
  all_length g laws p bytes [] rest e = let same = ap length e in omega arith
  all_length g laws p bytes (i ∷ items) rest h =
      let one = laws.cut p bytes i h.0 h.1 in
      let size : length bytes ≡ length one.0 + length h.0 =
      ap length one.1 ∙ length-append one.0 h.0 in
      let more = all_length g laws (g.past p i) h.0 items rest h.2 in
      omega (arith, size, more, one.3)

  -- an item needs a byte
  pub some_byte : (g : Grammar P I F) → IsGrammar g → (p : P) (i : I) (rest : List ℕ) →
      g.next p [] ≡ Got i rest → ⊥
  some_byte g laws p i rest e = let none = laws.empty p in cc

  -- of bytes in flight that are whole items, those that were read are the first
  pub all_rest : (g : Grammar P I F) → IsGrammar g →
      (p : P) (bytes later : List ℕ) (items queue : List I) (rest : List ℕ) →
      ReadsAll g p bytes items rest → ReadsAll g p (bytes ++ later) queue [] → (left : List I)
      × (queue ≡ items ++ left) × ReadsAll g (past_all g p items) (rest ++ later) left []
  all_rest g laws p bytes later [] queue rest e h =
      (queue, refl, subst (λ (zs : List ℕ). ReadsAll g p (zs ++ later) queue []) e h)
  all_rest g laws p bytes later (i ∷ items) [] rest w h =
      let none = nothing_left bytes later h in
      absurd (some_byte g laws p i w.0 (subst (λ (zs : List ℕ). g.next p zs ≡ Got i w.0) none w.1))
  all_rest g laws p bytes later (i ∷ items) (j ∷ queue) rest w h =
      let more : g.next p (bytes ++ later) ≡ Got i (w.0 ++ later) =
      laws.got p bytes later i w.0 w.1 in
      let there : g.next p (bytes ++ later) ≡ Got j h.0 = h.1 in
      let item : j ≡ i = cc in
      let mid : h.0 ≡ w.0 ++ later = cc in
      let after : ReadsAll g (g.past p i) (w.0 ++ later) queue [] =
      subst (λ (zs : List ℕ). ReadsAll g (g.past p i) zs queue []) mid
      (subst (λ (k : I). ReadsAll g (g.past p k) h.0 queue []) item h.2) in
      let left = all_rest g laws (g.past p i) w.0 later items queue rest w.2 after in
      (left.0, (λ k. item k ∷ left.1 k), left.2)

  -- bytes in flight that are whole items show no fault
  pub all_good : (g : Grammar P I F) → IsGrammar g →
      (p : P) (bytes later : List ℕ) (items queue : List I) (rest : List ℕ) (f : F) →
      ReadsAll g p (bytes ++ later) queue [] → ReadsAll g p bytes items rest →
      g.next (past_all g p items) rest ≡ Bad f → ⊥
  all_good g laws p bytes later items queue rest f h w e =
      let left = all_rest g laws p bytes later items queue rest w h in
      good (past_all g p items) left.0 left.2 (laws.bad (past_all g p items) rest later f e)
    where
      good : (q : P) (xs : List I) → ReadsAll g q (rest ++ later) xs [] →
          g.next q (rest ++ later) ≡ Bad f → ⊥
      good q [] none bad = let more = laws.empty q in let bad' : g.next q [] ≡ Bad f =
          subst (λ (zs : List ℕ). g.next q zs ≡ Bad f) none bad in cc
      good q (i ∷ xs) one bad = let got = one.1 in cc

  -- bytes that are too few for an item are fewer than the first of the items that they begin
  pub within_first : (g : Grammar P I F) → IsGrammar g →
      (p : P) (rest later : List ℕ) (left : List I) → g.next p rest ≡ More →
      ReadsAll g p (rest ++ later) left [] → IsWithinFirst g (length rest) left
  within_first g laws p rest later [] e h = rw (nothing_left rest later h) refl
  within_first g laws p rest later (i ∷ left) e h =
      let one = laws.cut p (rest ++ later) i h.0 h.1 in
      elim (cases_lt (length rest) (g.size i)) [
        | inl less ↦ less
        | inr enough ↦
            let n = length one.0 in
            let within : n ≤ length rest = omega (arith, one.3, enough) in
            let front : take n rest ≡ one.0 =
            sym (take-append-le n rest later within) ∙ ap (λ (ys : List ℕ). take n ys) one.1
            ∙ take_at one.0 h.0 n refl in
            let whole : rest ≡ one.0 ++ drop n rest =
            sym (take-append-drop n rest) ∙ ap (λ (ys : List ℕ). ys ++ drop n rest) front in
            let got : g.next p (one.0 ++ drop n rest) ≡ Got i ([] ++ drop n rest) =
            laws.got p one.0 (drop n rest) i [] one.2 in
            let got' : g.next p rest ≡ Got i (drop n rest) =
            subst (λ (ys : List ℕ). g.next p ys ≡ Got i (drop n rest)) (sym whole) got in
            absurd cc
      ]

  -- ---- verdicts

  -- what bytes begin with is one item only
  pub got_one : (g : Grammar P I F) (p : P) (bytes : List ℕ) (i j : I) (xs ys : List ℕ) →
      g.next p bytes ≡ Got i xs → g.next p bytes ≡ Got j ys → (i ≡ j) × (xs ≡ ys)
  got_one g p bytes i j xs ys one two = (cc, cc)

  -- no item's bytes go on as another's
  pub item_apart : (g : Grammar P I F) → IsGrammar g → (p : P) (front rest : List ℕ) (i j : I) →
      g.next p front ≡ Got i [] → g.next p (front ++ rest) ≡ Got j [] → (i ≡ j) × (rest ≡ [])
  item_apart g laws p front rest i j one two =
      got_one g p (front ++ rest) i j rest [] (laws.got p front rest i [] one) two

  -- bytes that were read as far as they go were read as the same items, with the same rest and end
  pub all_one : (g : Grammar P I F) (p : P) (bytes : List ℕ) (xs ys : List I) (one two : List ℕ)
      (v w : Option F) → ReadsAll g p bytes xs one → EndsIn v (g.next (past_all g p xs) one) →
      ReadsAll g p bytes ys two → EndsIn w (g.next (past_all g p ys) two) →
      (xs ≡ ys) × (one ≡ two) × (v ≡ w)
  all_one g p bytes [] [] one two v w a e b h =
      let same : one ≡ two = sym a ∙ b in (
        refl,
        same,
        ends_one v w (g.next p two) (subst (λ (zs : List ℕ). EndsIn v (g.next p zs)) same e) h,
      )
  all_one g p bytes [] (j ∷ ys) one two v w a e b h =
      absurd (ends_open v (g.next p one) j b.0 e
      (subst (λ (zs : List ℕ). g.next p zs ≡ Got j b.0) a b.1))
  all_one g p bytes (i ∷ xs) [] one two v w a e b h =
      absurd (ends_open w (g.next p two) i a.0 h
      (subst (λ (zs : List ℕ). g.next p zs ≡ Got i a.0) b a.1))
  all_one g p bytes (i ∷ xs) (j ∷ ys) one two v w a e b h =
      let first = got_one g p bytes j i b.0 a.0 b.1 a.1 in
      let after : ReadsAll g (g.past p i) a.0 ys two =
      subst (λ (zs : List ℕ). ReadsAll g (g.past p i) zs ys two) first.1
      (subst (λ (k : I). ReadsAll g (g.past p k) b.0 ys two) first.0 b.2) in
      let end : EndsIn w (g.next (past_all g (g.past p i) ys) two) =
      subst (λ (k : I). EndsIn w (g.next (past_all g (g.past p k) ys) two)) first.0 h in
      let rest = all_one g (g.past p i) a.0 xs ys one two v w a.2 e after end in
      ((λ k. sym first.0 k ∷ rest.0 k), rest.1, rest.2)

  -- items that bytes begin with are the first of those that they were read as as far as they go
  pub all_front : (g : Grammar P I F) (p : P) (bytes : List ℕ) (xs ys : List I) (one two : List ℕ)
      (v : Option F) → ReadsAll g p bytes xs one → EndsIn v (g.next (past_all g p xs) one) →
      ReadsAll g p bytes ys two → (more : List I) × (xs ≡ ys ++ more)
  all_front g p bytes xs [] one two v a e b = (xs, refl)
  all_front g p bytes [] (j ∷ ys) one two v a e b =
      absurd (ends_open v (g.next p one) j b.0 e
      (subst (λ (zs : List ℕ). g.next p zs ≡ Got j b.0) a b.1))
  all_front g p bytes (i ∷ xs) (j ∷ ys) one two v a e b =
      let first = got_one g p bytes j i b.0 a.0 b.1 a.1 in
      let after : ReadsAll g (g.past p i) a.0 ys two =
      subst (λ (zs : List ℕ). ReadsAll g (g.past p i) zs ys two) first.1
      (subst (λ (k : I). ReadsAll g (g.past p k) b.0 ys two) first.0 b.2) in
      let rest = all_front g (g.past p i) a.0 xs ys one two v a.2 e after in
      (rest.0, λ k. sym first.0 k ∷ rest.1 k)

  -- bytes have one verdict
  pub verdict_one : (g : Grammar P I F) (p : P) (bytes : List ℕ) (xs ys : List I) (v w : Option F) →
      HasVerdict g p bytes xs v → HasVerdict g p bytes ys w → (xs ≡ ys) × (v ≡ w)
  verdict_one g p bytes xs ys v w one two =
      let same = all_one g p bytes xs ys one.rest two.rest v w one.reads one.ends two.reads
      two.ends in
      (same.0, same.2)

  -- an item leaves fewer bytes
  pub shorter : (g : Grammar P I F) → IsGrammar g →
      (p : P) (bytes : List ℕ) (i : I) (rest : List ℕ) → g.next p bytes ≡ Got i rest →
      length rest < length bytes
  shorter g laws p bytes i rest e =
      let one = laws.cut p bytes i rest e in
      let some = byte one.0 one.2 in
      let size : length bytes ≡ length one.0 + length rest =
      ap length one.1 ∙ length-append one.0 rest in
      omega (arith, some, size)
    where
      byte : (front : List ℕ) → g.next p front ≡ Got i [] → 0 < length front
      byte [] e = absurd (some_byte g laws p i [] e)
      byte (x ∷ front) e = omega arith

  -- an item has a byte at least
  pub size_some : (g : Grammar P I F) → IsGrammar g →
      (p : P) (bytes : List ℕ) (i : I) (rest : List ℕ) → g.next p bytes ≡ Got i rest → 0 < g.size i
  size_some g laws p bytes i rest e =
      let one = laws.cut p bytes i rest e in
      let less = shorter g laws p bytes i rest e in
      let size : length bytes ≡ length one.0 + length rest =
      ap length one.1 ∙ length-append one.0 rest in
      omega (arith, less, size, one.3)

  -- bytes that are not yet all of the first item are not so either when further items follow
  pub within_append : (g : Grammar P I F) → IsGrammar g →
      (n : ℕ) (p : P) (bytes : List ℕ) (xs ys : List I) (rest : List ℕ) → IsWithinFirst g n xs →
      ReadsAll g p bytes ys rest → IsWithinFirst g n (xs ++ ys)
  within_append g laws n p bytes (i ∷ xs) ys rest within reads = within
  within_append g laws n p bytes [] [] rest within reads = within
  within_append g laws n p bytes [] (j ∷ ys) rest within reads = let some =
      size_some g laws p bytes j reads.0 reads.1 in omega (arith, some, within)

  verdict_step : (g : Grammar P I F) → IsGrammar g → (p : P) (bytes : List ℕ) →
      ((q : P) (rest : List ℕ) → length rest < length bytes →
      (items : List I) × (v : Option F) × HasVerdict g q rest items v) →
      (items : List I) × (v : Option F) × HasVerdict g p bytes items v
  verdict_step g laws p bytes smaller = by (g.next p bytes) refl
    where
      by : (next : Next I F) → g.next p bytes ≡ next →
          (items : List I) × (v : Option F) × HasVerdict g p bytes items v
      by More e = ([], None, record { rest = bytes; reads = refl; ends = e })
      by (Bad f) e = ([], Some f, record { rest = bytes; reads = refl; ends = e })
      by (Got i rest) e =
          let others = smaller (g.past p i) rest (shorter g laws p bytes i rest e) in (
            i ∷ others.0,
            others.1,
            record {
              rest = others.2.rest;
              reads = (rest, e, others.2.reads);
              ends = others.2.ends;
            },
          )

  verdict_within : (g : Grammar P I F) → IsGrammar g → (n : ℕ) (p : P) (bytes : List ℕ) →
      length bytes ≤ n → (items : List I) × (v : Option F) × HasVerdict g p bytes items v
  verdict_within g laws zero p bytes l =
      verdict_step g laws p bytes (λ q rest less. absurd (omega arith))
  verdict_within g laws (suc n) p bytes l =
      verdict_step g laws p bytes (λ q rest less. verdict_within g laws n q rest (omega arith))

  -- bytes have a verdict
  pub verdict_some : (g : Grammar P I F) → IsGrammar g → (p : P) (bytes : List ℕ) →
      (items : List I) × (v : Option F) × HasVerdict g p bytes items v
  verdict_some g laws p bytes = verdict_within g laws (length bytes) p bytes (omega arith)

  -- what was read before belongs to the verdict
  pub verdict_after : (g : Grammar P I F) → IsGrammar g →
      (p : P) (bytes tail : List ℕ) (here later : List I) (rest : List ℕ) (v : Option F) →
      ReadsAll g p bytes here rest → HasVerdict g (past_all g p here) (rest ++ tail) later v →
      HasVerdict g p (bytes ++ tail) (here ++ later) v
  verdict_after g laws p bytes tail here later rest v reads others = record {
    rest = others.rest;
    reads = all_append g p (bytes ++ tail) here later (rest ++ tail) others.rest
        (all_more g laws p bytes tail here rest reads) others.reads;
    ends = rw (past_append g p here later) others.ends;
  }

  -- a fault stays one
  pub verdict_fault : (g : Grammar P I F) → IsGrammar g →
      (p : P) (bytes tail : List ℕ) (here : List I) (rest : List ℕ) (f : F) →
      ReadsAll g p bytes here rest → g.next (past_all g p here) rest ≡ Bad f →
      HasVerdict g p (bytes ++ tail) here (Some f)
  verdict_fault g laws p bytes tail here rest f reads bad = record {
    rest = rest ++ tail;
    reads = all_more g laws p bytes tail here rest reads;
    ends = laws.bad (past_all g p here) rest tail f bad;
  }

  -- the verdict of slices read one after another is the verdict of their bytes
  pub cut_verdict : (g : Grammar P I F) → IsGrammar g →
      (p : P) (front : List ℕ) (slices : List (List ℕ)) (items : List I) (v : Option F) →
      CutVerdict g p front slices items v → HasVerdict g p (front ++ concat slices) items v
  cut_verdict g laws p front [] items v (none, no_fault, more) =
      rw (none, no_fault, append-nil front) (record { rest = front; reads = refl; ends = more })
  cut_verdict g laws p front (slice ∷ slices) items v
      (here, later, rest, None, all, reads, ends, goes) =
      let others : HasVerdict g (past_all g p here) (rest ++ concat slices) later v =
      cut_verdict g laws (past_all g p here) rest slices later v goes in
      rw (all, ← append_assoc front slice (concat slices))
      (verdict_after g laws p (front ++ slice) (concat slices) here later rest v reads others)
  cut_verdict g laws p front (slice ∷ slices) items v
      (here, later, rest, Some f, all, reads, ends, goes) =
      rw (all, goes.0, goes.1, append-nil here, ← append_assoc front slice (concat slices))
      (verdict_fault g laws p (front ++ slice) (concat slices) here rest f reads ends)

  -- slices read one after another have a verdict
  pub cut_some : (g : Grammar P I F) → IsGrammar g →
      (p : P) (front : List ℕ) (slices : List (List ℕ)) → g.next p front ≡ More →
      (items : List I) × (v : Option F) × CutVerdict g p front slices items v
  cut_some g laws p front [] more = ([], None, (refl, refl, more))
  cut_some g laws p front (slice ∷ slices) more =
      let one = verdict_some g laws p (front ++ slice) in
      by one.0 one.2.rest one.1 one.2.reads one.2.ends
      (λ ends. cut_some g laws (past_all g p one.0) one.2.rest slices ends)
    where
      by : (here : List I) (rest : List ℕ) (told : Option F) →
          ReadsAll g p (front ++ slice) here rest → EndsIn told (g.next (past_all g p here) rest) →
          (g.next (past_all g p here) rest ≡ More →
          (items : List I) × (v : Option F)
          × CutVerdict g (past_all g p here) rest slices items v) → (items : List I)
          × (v : Option F) × CutVerdict g p front (slice ∷ slices) items v
      by here rest None reads ends goes_on = let others =
          goes_on ends in (
            here ++ others.0,
            others.1,
            (here, others.0, rest, None, refl, reads, ends, others.2),
          )
      by here rest (Some f) reads ends goes_on =
          (here ++ [], Some f, (here, [], rest, Some f, refl, reads, ends, (refl, refl)))

  -- the verdict of bytes does not depend on how they are split
  pub cuts_agree : (g : Grammar P I F) → IsGrammar g →
      (p : P) (one two : List (List ℕ)) (xs ys : List I) (v w : Option F) →
      concat one ≡ concat two → CutVerdict g p [] one xs v → CutVerdict g p [] two ys w →
      (xs ≡ ys) × (v ≡ w)
  cuts_agree g laws p one two xs ys v w same a b =
      let first : HasVerdict g p (concat one) xs v = cut_verdict g laws p [] one xs v a in
      let second : HasVerdict g p (concat two) ys w = cut_verdict g laws p [] two ys w b in
      verdict_one g p (concat two) xs ys v w
      (subst (λ (zs : List ℕ). HasVerdict g p zs xs v) same first) second
