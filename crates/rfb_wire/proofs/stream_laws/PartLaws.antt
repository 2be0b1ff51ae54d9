-- The law of each part: which relation it reads, in both directions, its faults too.
use Rattle.std.proofs.Common.{◌≡◌, ℕ, ◌≤◌, ◌<◌, ◌⊎◌, inl, inr, List, [], ◌++◌, Bool, true, false, nat_le, Option, Some}
use Rattle.std.proofs.Common.{None, if◌then◌else◌, length, take, drop, refl, sym, ◌∙◌, ap, append_assoc, append-nil}
use Rattle.std.proofs.Common.{arith, length-append, take-append-drop}
use Rattle.std.proofs.lemmas.List.{take_at, drop_at, length-take-le}
use Rattle.std.proofs.lemmas.Bool.Decides.{nat_tests}
use Rattle.rfb_wire.specs.stream.Prefix.{Next, More, Got, Bad, Reading, Says, Reads, Same}
use Rattle.rfb_wire.specs.stream.Parts.{piece, done, judged, continue_with, and_then}

-- ---- what each part says

-- any n bytes
abbrev pub piece_says : {F : Type 0} → ℕ → Says (List ℕ) F
piece_says n = record { item = λ xs bytes. (bytes ≡ xs) × (length bytes ≡ n); fault = λ _ _. ⊥ }

module _ {A F : Type 0} where
  -- that item, without bytes
  abbrev pub done_says : A → Says A F
  done_says a = record { item = λ b bytes. (b ≡ a) × (bytes ≡ []); fault = λ _ _. ⊥ }

  -- that item or that fault, without bytes
  abbrev pub judged_says : Option F → A → Says A F
  judged_says fault a =
      record {
        item = λ b bytes. (fault ≡ None) × (b ≡ a) × (bytes ≡ []);
        fault = λ f bytes. (fault ≡ Some f) × (bytes ≡ []);
      }

  -- the bytes themselves, where they say an item
  abbrev pub kept_says : Says A F → Says (List ℕ) F
  kept_says s =
      record { item = λ body bytes. (bytes ≡ body) × ((a : A) × s.item a body); fault = s.fault }

module _ {A B F : Type 0} where
  -- an item of the first, and after it one of the part that it names
  abbrev pub ThenItem : Says A F → (A → Says B F) → B → List ℕ → Type 0
  ThenItem s t b bytes =
      (a : A) × (front back : List ℕ) × (bytes ≡ front ++ back) × s.item a front × (t a).item b back

  -- a fault of the first, or an item of it and a fault after it
  abbrev pub ThenFault : Says A F → (A → Says B F) → F → List ℕ → Type 0
  ThenFault s t f bytes =
      s.fault f bytes
      ⊎ ((a : A) × (front back : List ℕ) × (bytes ≡ front ++ back) × s.item a front
      × (t a).fault f back)

  abbrev pub then_says : Says A F → (A → Says B F) → Says B F
  then_says s t = record { item = ThenItem s t; fault = ThenFault s t }

-- bytes with nothing after them
pub alone : (bytes front back : List ℕ) → bytes ≡ front ++ back → back ≡ [] → bytes ≡ front
alone bytes front back e none = e ∙ ap (λ (ys : List ℕ). front ++ ys) none ∙ append-nil front

-- ---- the laws

module _ {F : Type 0} where
  pub piece_found : (n : ℕ) (bytes xs rest : List ℕ) → piece {F = F} n bytes ≡ Got xs rest →
      (bytes ≡ xs ++ rest) × (length xs ≡ n)
  piece_found n bytes xs rest e = by (nat_le n (length bytes)) refl e
    where
      by : (b : Bool) → nat_le n (length bytes) ≡ b →
          ◌≡◌ {A = Next (List ℕ) F} (if b then Got (take n bytes) (drop n bytes) else More)
          (Got xs rest) → (bytes ≡ xs ++ rest) × (length xs ≡ n)
      by true h e =
          let front : take n bytes ≡ xs = cc in
          let back : drop n bytes ≡ rest = cc in
          let enough : n ≤ length bytes = grind (arith, nat_tests) in (
            sym (take-append-drop n bytes) ∙ ap (λ (ys : List ℕ). ys ++ drop n bytes) front
                ∙ ap (λ (ys : List ℕ). xs ++ ys) back,
            ap length (sym front)
                ∙ length-take-le n bytes enough,
          )
      by false h e = cc

  pub piece_only : (n : ℕ) (xs rest : List ℕ) → length xs ≡ n →
      piece {F = F} n (xs ++ rest) ≡ Got xs rest
  piece_only n xs rest l =
      let enough : nat_le n (length (xs ++ rest)) ≡ true =
      rw length-append (grind (arith, nat_tests)) in
      rw (enough, take_at xs rest n l, drop_at xs rest n l) refl

  pub piece_good : (n : ℕ) (bytes : List ℕ) (f : F) → piece {F = F} n bytes ≡ Bad f → ⊥
  piece_good n bytes f e = by (nat_le n (length bytes)) e
    where
      by : (b : Bool) →
          ◌≡◌ {A = Next (List ℕ) F} (if b then Got (take n bytes) (drop n bytes) else More)
          (Bad f) → ⊥
      by true e = cc
      by false e = cc

  pub piece_short : (n : ℕ) (bytes : List ℕ) → length bytes < n → piece {F = F} n bytes ≡ More
  piece_short n bytes l =
      let short : nat_le n (length bytes) ≡ false = grind (arith, nat_tests) in
      rw short refl

  pub piece_reads : (n : ℕ) → Reads (piece {F = F} n) (piece_says n)
  piece_reads n = record {
    found = λ bytes xs rest e. let parts =
        piece_found n bytes xs rest e in (xs, parts.0, (refl, parts.1));
    only = λ xs front rest h. let whole : piece {F = F} n (front ++ rest) ≡ Got front rest =
        piece_only n front rest h.1 in whole ∙ ap (λ (ys : List ℕ). Got ys rest) h.0;
    blamed = λ bytes f e. absurd (piece_good n bytes f e);
    blames = λ f front rest h. absurd h;
  }

module _ {A F : Type 0} where
  pub done_reads : (a : A) → Reads (done {F = F} a) (done_says a)
  done_reads a = record {
    found = λ bytes b rest e. let same : a ≡ b = cc in let all : bytes ≡ rest =
        cc in ([], all, (sym same, refl));
    only = λ b front rest h. rw (h.0, h.1) refl;
    blamed = λ bytes f e. absurd cc;
    blames = λ f front rest h. absurd h;
  }

  judged_found : (fault : Option F) (a b : A) (bytes rest : List ℕ) →
      judged fault a bytes ≡ Got b rest → (fault ≡ None) × (b ≡ a) × (bytes ≡ rest)
  judged_found None a b bytes rest e = (refl, cc, cc)
  judged_found (Some f) a b bytes rest e = cc

  judged_blamed : (fault : Option F) (a : A) (bytes : List ℕ) (f : F) →
      judged fault a bytes ≡ Bad f → fault ≡ Some f
  judged_blamed None a bytes f e = cc
  judged_blamed (Some g) a bytes f e = let same : g ≡ f = cc in ap (λ (k : F). Some k) same

  pub judged_reads : (fault : Option F) (a : A) → Reads (judged fault a) (judged_says fault a)
  judged_reads fault a = record {
    found = λ bytes b rest e. let told =
        judged_found fault a b bytes rest e in ([], told.2, (told.0, told.1, refl));
    only = λ b front rest h. rw (h.0, h.1, h.2) refl;
    blamed = λ bytes f e. ([], bytes, refl, (judged_blamed fault a bytes f e, refl));
    blames = λ f front rest h. rw h.0 refl;
  }

module _ {A B F : Type 0} where
  -- what a sequence gives: what its first part gave, and then what the second gives after it
  then_found : (n : Next A F) (k : A → Reading B F) (b : B) (rest : List ℕ) →
      continue_with k n ≡ Got b rest → (a : A) × (mid : List ℕ) × (n ≡ Got a mid) × (k a mid ≡ Got b rest)
  then_found More k b rest e = cc
  then_found (Got a mid) k b rest e = (a, mid, refl, e)
  then_found (Bad f) k b rest e = cc

  then_blamed : (n : Next A F) (k : A → Reading B F) (f : F) → continue_with k n ≡ Bad f →
      (n ≡ Bad f) ⊎ ((a : A) × (mid : List ℕ) × (n ≡ Got a mid) × (k a mid ≡ Bad f))
  then_blamed More k f e = cc
  then_blamed (Got a mid) k f e = inr (a, mid, refl, e)
  then_blamed (Bad g) k f e = let same : g ≡ f = cc in inl (ap (λ (h : F). Bad h) same)

  pub then_reads : (p : Reading A F) (k : A → Reading B F) (s : Says A F) (t : A → Says B F) →
      Reads p s → ((a : A) → Reads (k a) (t a)) → Reads (and_then p k) (then_says s t)
  then_reads p k s t first second = record {
    found = λ bytes b rest e.
        let step = then_found (p bytes) k b rest e in
        let one = first.found bytes step.0 step.1 step.2 in
        let two = (second step.0).found step.1 b rest step.3 in (
          one.0 ++ two.0,
          one.1 ∙ ap (λ (ys : List ℕ). one.0 ++ ys) two.1
              ∙ sym (append_assoc one.0 two.0 rest),
          (step.0, one.0, two.0, refl, one.2, two.2),
        );
    only = λ b front rest h.
        let one : p (h.1 ++ (h.2 ++ rest)) ≡ Got h.0 (h.2 ++ rest) =
        first.only h.0 h.1 (h.2 ++ rest) h.4 in
        let two : k h.0 (h.2 ++ rest) ≡ Got b rest = (second h.0).only b h.2 rest h.5 in
        rw (h.3, append_assoc h.1 h.2 rest, one) two;
    blamed = λ bytes f e. elim (then_blamed (p bytes) k f e) [
      | inl bad ↦ let one = first.blamed bytes f bad in (one.0, one.1, one.2, inl one.3)
      | inr step ↦
          let one = first.found bytes step.0 step.1 step.2 in
          let two = (second step.0).blamed step.1 f step.3 in (
            one.0 ++ two.0,
            two.1,
            one.1 ∙ ap (λ (ys : List ℕ). one.0 ++ ys) two.2
                ∙ sym (append_assoc one.0 two.0 two.1),
            inr (step.0, one.0, two.0, refl, one.2, two.3),
          )
    ];
    blames = λ f front rest h. elim h [
      | inl bad ↦ rw (first.blames f front rest bad) refl
      | inr w ↦
          let one : p (w.1 ++ (w.2 ++ rest)) ≡ Got w.0 (w.2 ++ rest) =
          first.only w.0 w.1 (w.2 ++ rest) w.4 in
          let two : k w.0 (w.2 ++ rest) ≡ Bad f = (second w.0).blames f w.2 rest w.5 in
          rw (w.3, append_assoc w.1 w.2 rest, one) two
    ];
  }

module _ {A F : Type 0} where
  -- a reading that says one relation says each other that is the same
  pub same_reads : (p : Reading A F) (s t : Says A F) → Same s t → Reads p s → Reads p t
  same_reads p s t same reads = record {
    found = λ bytes a rest e. let one =
        reads.found bytes a rest e in (one.0, one.1, same.item a one.0 one.2);
    only = λ a front rest h. reads.only a front rest (same.item_back a front h);
    blamed = λ bytes f e. let one =
        reads.blamed bytes f e in (one.0, one.1, one.2, same.fault f one.0 one.3);
    blames = λ f front rest h. reads.blames f front rest (same.fault_back f front h);
  }

module _ {A B F : Type 0} where
  -- an item that is made of a part's
  abbrev pub made_says : (A → B) → Says A F → Says B F
  made_says item s =
      record {
        item = λ b bytes. (a : A) × (b ≡ item a) × s.item a bytes;
        fault = s.fault;
      }

  -- a part, and nothing after it but what is made of its item
  pub made_reads : {p : Reading A F} {s : Says A F} (item : A → B) → Reads p s →
      Reads (and_then p (λ a. done (item a))) (made_says item s)
  made_reads {p = p} {s = s} item reads =
      same_reads (and_then p (λ a. done (item a))) (then_says s (λ a. done_says (item a)))
      (made_says item s) same
      (then_reads p (λ a. done (item a)) s (λ a. done_says (item a)) reads
      (λ a. done_reads (item a)))
    where
      same : Same (then_says s (λ a. done_says (item a))) (made_says item s)
      same = record {
        item = λ b bytes h. let all : bytes ≡ h.1 =
            alone bytes h.1 h.2 h.3 h.5.1 in (h.0, h.5.0, rw all h.4);
        fault = λ f bytes h. elim h [ inl bad ↦ bad | inr none ↦ absurd none.5 ];
        item_back = λ b bytes h. (h.0, bytes, [], sym (append-nil bytes), h.2, (h.1, refl));
        fault_back = λ f bytes h. inl h;
      }
