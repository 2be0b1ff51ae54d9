-- The laws of the parts that are put together of others: optional, n times, the
-- bytes taken, other names.
use Rattle.std.proofs.Common.{◌≡◌, ℕ, zero, suc, ◌-◌, ◌<◌, inl, inr, List, [], ◌∷◌, ◌++◌, Bool, true, false, Option}
use Rattle.std.proofs.Common.{Some, None, length, take, refl, sym, subst, ◌∙◌, ap, append_assoc, append-nil, arith}
use Rattle.std.proofs.Common.{length-append}
use Rattle.std.proofs.lemmas.List.{take_at}
use Rattle.rfb_wire.specs.stream.Prefix.{Next, More, Got, Bad, Reading, Says, Reads, Same, Listed, ListedAfter}
use Rattle.rfb_wire.specs.stream.Prefix.{Optionally}
use Rattle.rfb_wire.specs.stream.Parts.{named, renamed, checked, judged, piece, done, taken, kept, and_then}
use Rattle.rfb_wire.specs.stream.Parts.{valued, optional, many, each}
use Rattle.rfb_wire.proofs.stream_laws.PartLaws.{alone, judged_says, judged_reads, kept_says, piece_says, done_says}
use Rattle.rfb_wire.proofs.stream_laws.PartLaws.{then_says, piece_reads, done_reads, then_reads, same_reads}
use Rattle.rfb_wire.proofs.stream_laws.PartLaws.{made_reads}

-- a fault of a part that is there
abbrev pub FaultIf : {F : Type 0} → Bool → (F → List ℕ → Type 0) → F → List ℕ → Type 0
FaultIf false R f bytes = ⊥
FaultIf true R f bytes = R f bytes

module _ {A F : Type 0} where
  -- what n bytes say
  abbrev pub valued_says : ℕ → (List ℕ → A) → Says A F
  valued_says n value =
      record { item = λ a bytes. (length bytes ≡ n) × (a ≡ value bytes); fault = λ _ _. ⊥ }

  -- what n good bytes say, and the fault of others
  abbrev pub checked_says : ℕ → (List ℕ → Option F) → (List ℕ → A) → Says A F
  checked_says n fault value =
      record {
        item = λ a bytes. (length bytes ≡ n) × (fault bytes ≡ None) × (a ≡ value bytes);
        fault = λ f bytes. (length bytes ≡ n) × (fault bytes ≡ Some f);
      }

  -- an item of the part where it is there
  abbrev pub optional_says : Bool → Says A F → Says (Option A) F
  optional_says flag s = record { item = Optionally flag s.item; fault = FaultIf flag s.fault }

  -- fewer items than that, and then a fault
  abbrev pub ManyFault : ℕ → Says A F → F → List ℕ → Type 0
  ManyFault n s f bytes =
      (items : List A) × (front back : List ℕ) × (length items < n) × (bytes ≡ front ++ back)
      × Listed s.item items front × s.fault f back

  -- n items
  abbrev pub many_says : ℕ → Says A F → Says (List A) F
  many_says n s =
      record {
        item = λ items bytes. (length items ≡ n) × Listed s.item items bytes;
        fault = ManyFault n s;
      }

  -- fewer items than that, each as those before it ask, and then a fault
  abbrev pub EachFault : ℕ → (List A → Says A F) → List A → F → List ℕ → Type 0
  EachFault n s before f bytes =
      (items : List A) × (front back : List ℕ) × (length items < n) × (bytes ≡ front ++ back)
      × ListedAfter (λ xs. (s xs).item) before items front × (s (before ++ items)).fault f back

  -- n items, each as those before it ask
  abbrev pub each_says : ℕ → (List A → Says A F) → List A → Says (List A) F
  each_says n s before =
      record {
        item = λ items bytes. (length items ≡ n)
            × ListedAfter (λ xs. (s xs).item) before items bytes;
        fault = EachFault n s before;
      }

module _ {A : Type 0} where
  -- a list of items that do not depend on those before them
  pub listed_from : (R : A → List ℕ → Type 0) (before items : List A) (bytes : List ℕ) →
      ListedAfter (λ _. R) before items bytes → Listed R items bytes
  listed_from R before [] bytes h = h
  listed_from R before (a ∷ more) bytes h =
      (h.0, h.1, h.2, h.3, listed_from R (before ++ a ∷ []) more h.1 h.4)

  pub listed_to : (R : A → List ℕ → Type 0) (before items : List A) (bytes : List ℕ) →
      Listed R items bytes → ListedAfter (λ _. R) before items bytes
  listed_to R before [] bytes h = h
  listed_to R before (a ∷ more) bytes h =
      (h.0, h.1, h.2, h.3, listed_to R (before ++ a ∷ []) more h.1 h.4)

-- the bytes before the rest
front_is : (bytes front rest : List ℕ) → bytes ≡ front ++ rest →
    take (length bytes - length rest) bytes ≡ front
front_is bytes front rest e = rw (e, length-append) (take_at front rest _ (omega arith))

module _ {A F : Type 0} where
  pub valued_reads : (n : ℕ) (value : List ℕ → A) →
      Reads (valued {F = F} n value) (valued_says n value)
  valued_reads n value =
      same_reads (valued n value) (then_says (piece_says n) (λ bytes. done_says (value bytes)))
      (valued_says n value) same
      (then_reads (piece n) (λ bytes. done (value bytes)) (piece_says n)
      (λ bytes. done_says (value bytes)) (piece_reads n)
      (λ bytes. done_reads (value bytes)))
    where
      same : Same (then_says (piece_says {F = F} n) (λ bytes. done_says (value bytes)))
          (valued_says n value)
      same = record {
        item = λ a bytes h. let all : bytes ≡ h.0 =
            alone bytes h.1 h.2 h.3 h.5.1 ∙ h.4.0 in rw all (ap length (sym h.4.0) ∙ h.4.1, h.5.0);
        fault = λ f bytes h. elim h [ inl none ↦ none | inr none ↦ none.5 ];
        item_back = λ a bytes h.
            (bytes, bytes, [], sym (append-nil bytes), (refl, h.0), (h.1, refl));
        fault_back = λ f bytes h. absurd h;
      }

  -- items as a relation says them, and no fault
  abbrev pub items_say : (A → List ℕ → Type 0) → Says A F
  items_say R = record { item = R; fault = λ _ _. ⊥ }

  -- n bytes and what they say, where that is what a relation says
  pub value_reads : (n : ℕ) (value : List ℕ → A) (R : A → List ℕ → Type 0) →
      ((a : A) (bytes : List ℕ) → length bytes ≡ n → a ≡ value bytes → R a bytes) →
      ((a : A) (bytes : List ℕ) → R a bytes → (length bytes ≡ n) × (a ≡ value bytes)) →
      Reads (valued n value) (items_say R)
  value_reads n value R says said =
      same_reads (valued n value) (valued_says n value) (items_say R) same (valued_reads n value)
    where
      same : Same (valued_says n value) (items_say R)
      same = record {
        item = λ a bytes h. says a bytes h.0 h.1;
        fault = λ f bytes h. h;
        item_back = λ a bytes h. said a bytes h;
        fault_back = λ f bytes h. h;
      }

  pub checked_reads : (n : ℕ) (fault : List ℕ → Option F) (value : List ℕ → A) →
      Reads (checked n fault value) (checked_says n fault value)
  checked_reads n fault value =
      same_reads (checked n fault value)
      (then_says (piece_says n) (λ bytes. judged_says (fault bytes) (value bytes)))
      (checked_says n fault value) same
      (then_reads (piece n) (λ bytes. judged (fault bytes) (value bytes)) (piece_says n)
      (λ bytes. judged_says (fault bytes) (value bytes)) (piece_reads n)
      (λ bytes. judged_reads (fault bytes) (value bytes)))
    where
      same : Same (then_says (piece_says {F = F} n)
          (λ bytes. judged_says (fault bytes) (value bytes))) (checked_says n fault value)
      same = record {
        item = λ a bytes h. let all : bytes ≡ h.0 = alone bytes h.1 h.2 h.3 h.5.2 ∙ h.4.0 in
            rw all (ap length (sym h.4.0) ∙ h.4.1, h.5.0, h.5.1);
        fault = λ f bytes h.
            elim h [
              | inl none ↦ absurd none
              | inr w ↦
                  let all : bytes ≡ w.0 = alone bytes w.1 w.2 w.3 w.5.1 ∙ w.4.0 in
                  rw all (ap length (sym w.4.0) ∙ w.4.1, w.5.0)
            ];
        item_back = λ a bytes h.
            (bytes, bytes, [], sym (append-nil bytes), (refl, h.0), (h.1, h.2, refl));
        fault_back =
            λ f bytes h. inr (bytes, bytes, [], sym (append-nil bytes), (refl, h.0), (h.1, refl));
      }

  pub optional_reads : (flag : Bool) (p : Reading A F) (s : Says A F) → Reads p s →
      Reads (optional flag p) (optional_says flag s)
  optional_reads false p s reads =
      same_reads (optional false p) (done_says None) (optional_says false s) same (done_reads None)
    where
      same : Same (done_says None) (optional_says false s)
      same = record {
        item = λ a bytes h. h;
        fault = λ f bytes h. h;
        item_back = λ a bytes h. h;
        fault_back = λ f bytes h. h;
      }
  optional_reads true p s reads = made_reads (λ a. Some a) reads

  -- one part, and then n others
  abbrev each_more : ℕ → (List A → Says A F) → List A → Says (List A) F
  each_more n s before =
      then_says (s before)
      (λ a. then_says (each_says n s (before ++ a ∷ [])) (λ more. done_says (a ∷ more)))

  each_same : (n : ℕ) (s : List A → Says A F) (before : List A) →
      Same (each_more n s before) (each_says (suc n) s before)
  each_same n s before =
      record { item = item; fault = fault; item_back = item_back; fault_back = fault_back }
    where
      item : (items : List A) (bytes : List ℕ) → (each_more n s before).item items bytes →
          (each_says (suc n) s before).item items bytes
      item items bytes h =
          let w = h.5 in
          let back : h.2 ≡ w.1 = alone h.2 w.1 w.2 w.3 w.5.1 in
          let more : ListedAfter (λ xs. (s xs).item) (before ++ h.0 ∷ []) w.0 h.2 = rw back w.4.1 in
          rw w.5.0 (ap suc w.4.0, (h.1, h.2, h.3, h.4, more))

      fault : (f : F) (bytes : List ℕ) → (each_more n s before).fault f bytes →
          (each_says (suc n) s before).fault f bytes
      fault f bytes (inl bad) = ([], [], bytes, omega arith, refl, refl, rw (append-nil before) bad)
      fault f bytes (inr (a, front, back, e, is, inl w)) = (
        a ∷ w.0,
        front ++ w.1,
        w.2,
        omega (arith, w.3),
        e ∙ ap (λ (ys : List ℕ). front ++ ys) w.4
            ∙ sym (append_assoc front w.1 w.2),
        (front, w.1, refl, is, w.5),
        rw (sym (append_assoc before (a ∷ []) w.0)) w.6,
      )
      fault f bytes (inr (a, front, back, e, is, inr w)) = absurd w.5

      item_back : (items : List A) (bytes : List ℕ) →
          (each_says (suc n) s before).item items bytes → (each_more n s before).item items bytes
      item_back [] bytes h = absurd (omega (arith, h.0))
      item_back (a ∷ more) bytes h =
          let w = h.1 in (
            a,
            w.0,
            w.1,
            w.2,
            w.3,
            (more, w.1, [], sym (append-nil w.1), (omega (arith, h.0), w.4), (refl, refl)),
          )

      fault_back : (f : F) (bytes : List ℕ) → (each_says (suc n) s before).fault f bytes →
          (each_more n s before).fault f bytes
      fault_back f bytes ([], front, back, l, e, none, bad) =
          let all : bytes ≡ back = e ∙ ap (λ (ys : List ℕ). ys ++ back) none in
          inl (rw all (subst (λ (xs : List A). (s xs).fault f back) (append-nil before) bad))
      fault_back f bytes (a ∷ more, front, back, l, e, w, bad) =
          inr (
            a,
            w.0,
            w.1 ++ back,
            e ∙ ap (λ (ys : List ℕ). ys ++ back) w.2
                ∙ append_assoc w.0 w.1 back,
            w.3,
            inl (
              more,
              w.1,
              back,
              omega (arith, l),
              refl,
              w.4,
              rw (append_assoc before (a ∷ []) more) bad,
            ),
          )

  none_same : (s : List A → Says A F) (before : List A) →
      Same (done_says []) (each_says zero s before)
  none_same s before = record {
    item = λ items bytes h. rw h.0 (refl, h.1);
    fault = λ f bytes h. absurd h;
    item_back = λ items bytes h. none items bytes h;
    fault_back = λ f bytes h. omega (arith, h.3);
  }
    where
      none : (items : List A) (bytes : List ℕ) → (each_says zero s before).item items bytes →
          (items ≡ []) × (bytes ≡ [])
      none [] bytes h = (refl, h.1)
      none (a ∷ more) bytes h = absurd (omega (arith, h.0))

  pub each_reads : (n : ℕ) (p : List A → Reading A F) (s : List A → Says A F) →
      ((xs : List A) → Reads (p xs) (s xs)) → (before : List A) →
      Reads (each n p before) (each_says n s before)
  each_reads zero p s reads before =
      same_reads (each zero p before) (done_says []) (each_says zero s before) (none_same s before)
      (done_reads [])
  each_reads (suc n) p s reads before =
      same_reads (each (suc n) p before) (each_more n s before) (each_says (suc n) s before)
      (each_same n s before)
      (then_reads (p before) (λ a. and_then (each n p (before ++ a ∷ [])) (λ more. done (a ∷ more)))
      (s before) (λ a.
      then_says (each_says n s (before ++ a ∷ [])) (λ more. done_says (a ∷ more)))
      (reads before)
      (λ a. then_reads (each n p (before ++ a ∷ [])) (λ more. done (a ∷ more))
      (each_says n s (before ++ a ∷ [])) (λ more. done_says (a ∷ more))
      (each_reads n p s reads (before ++ a ∷ [])) (λ more. done_reads (a ∷ more))))

  pub many_reads : (n : ℕ) (p : Reading A F) (s : Says A F) → Reads p s →
      Reads (many n p) (many_says n s)
  many_reads n p s reads =
      same_reads (many n p) (each_says n (λ _. s) []) (many_says n s) same
      (each_reads n (λ _. p) (λ _. s) (λ _. reads) [])
    where
      same : Same (each_says n (λ _. s) []) (many_says n s)
      same = record {
        item = λ items bytes h. (h.0, listed_from s.item [] items bytes h.1);
        fault = λ f bytes h. (h.0, h.1, h.2, h.3, h.4, listed_from s.item [] h.0 h.1 h.5, h.6);
        item_back = λ items bytes h. (h.0, listed_to s.item [] items bytes h.1);
        fault_back = λ f bytes h. (h.0, h.1, h.2, h.3, h.4, listed_to s.item [] h.0 h.1 h.5, h.6);
      }

  -- what was taken, where an item was read
  taken_found : (bytes : List ℕ) (n : Next A F) (body rest : List ℕ) →
      taken bytes n ≡ Got body rest →
      (a : A) × (n ≡ Got a rest) × (body ≡ take (length bytes - length rest) bytes)
  taken_found bytes More body rest e = cc
  taken_found bytes (Got a after) body rest e =
      let same : after ≡ rest = cc in
      (a, ap (λ (ys : List ℕ). Got a ys) same, rw (sym same) cc)
  taken_found bytes (Bad f) body rest e = cc

  taken_blamed : (bytes : List ℕ) (n : Next A F) (f : F) → taken bytes n ≡ Bad f → n ≡ Bad f
  taken_blamed bytes More f e = cc
  taken_blamed bytes (Got a after) f e = cc
  taken_blamed bytes (Bad g) f e = let same : g ≡ f = cc in ap (λ (k : F). Bad k) same

  pub kept_reads : (p : Reading A F) (s : Says A F) → Reads p s → Reads (kept p) (kept_says s)
  kept_reads p s reads = record {
    found = λ bytes body rest e.
        let step = taken_found bytes (p bytes) body rest e in
        let one = reads.found bytes step.0 rest step.1 in
        let same : body ≡ one.0 = step.2 ∙ front_is bytes one.0 rest one.1 in (
          one.0,
          one.1,
          (sym same, (step.0, subst (λ (ys : List ℕ). s.item step.0 ys) (sym same) one.2)),
        );
    only = λ body front rest h.
        let one : p (front ++ rest) ≡ Got h.1.0 rest = reads.only h.1.0 front rest (rw h.0 h.1.1) in
        rw one (ap (λ (ys : List ℕ). Got ys rest) (front_is (front ++ rest) front rest refl ∙ h.0));
    blamed = λ bytes f e. reads.blamed bytes f (taken_blamed bytes (p bytes) f e);
    blames = λ f front rest h. rw (reads.blames f front rest h) refl;
  }

module _ {A B F H : Type 0} where
  -- an item or a fault under its other name
  abbrev pub renamed_says : (A → B) → (F → H) → Says A F → Says B H
  renamed_says item fault s =
      record {
        item = λ b bytes. (a : A) × (b ≡ item a) × s.item a bytes;
        fault = λ h bytes. (f : F) × (h ≡ fault f) × s.fault f bytes;
      }

  named_got : (item : A → B) (fault : F → H) (n : Next A F) (b : B) (rest : List ℕ) →
      named item fault n ≡ Got b rest → (a : A) × (n ≡ Got a rest) × (b ≡ item a)
  named_got item fault More b rest e = cc
  named_got item fault (Got a mid) b rest e =
      let same : mid ≡ rest = cc in
      let is : item a ≡ b = cc in
      (a, ap (λ (ys : List ℕ). Got a ys) same, sym is)
  named_got item fault (Bad f) b rest e = cc

  named_bad : (item : A → B) (fault : F → H) (n : Next A F) (h : H) → named item fault n ≡ Bad h →
      (f : F) × (n ≡ Bad f) × (h ≡ fault f)
  named_bad item fault More h e = cc
  named_bad item fault (Got a mid) h e = cc
  named_bad item fault (Bad f) h e = let is : fault f ≡ h = cc in (f, refl, sym is)

  pub renamed_reads : (item : A → B) (fault : F → H) (p : Reading A F) (s : Says A F) → Reads p s →
      Reads (renamed item fault p) (renamed_says item fault s)
  renamed_reads item fault p s reads = record {
    found = λ bytes b rest e.
        let told = named_got item fault (p bytes) b rest e in
        let front = reads.found bytes told.0 rest told.1 in
        (front.0, front.1, (told.0, told.2, front.2));
    only = λ b front rest h. rw (h.1, reads.only h.0 front rest h.2) refl;
    blamed = λ bytes h e.
        let told = named_bad item fault (p bytes) h e in
        let front = reads.blamed bytes told.0 told.1 in
        (front.0, front.1, front.2, (told.0, told.2, front.3));
    blames = λ h front rest w. rw (w.1, reads.blames w.0 front rest w.2) refl;
  }
