-- The reading of a server's handshake is what RFC 6143 says of its bytes, in both directions.
use Rattle.std.proofs.Common.{◌≡◌, ℕ, zero, suc, ◌<◌, ◌⊎◌, inl, inr, Bool, true, false, List, [], ◌∷◌, ◌++◌, Option}
use Rattle.std.proofs.Common.{Some, None, if◌then◌else◌, length, refl, sym, subst, ◌∙◌, ap, append-nil, arith}
use Rattle.rfb_wire.specs.Fields.{u8_at, u32_at}
use Rattle.rfb_wire.specs.stream.Prefix.{Says, Reads, Same}
use Rattle.rfb_wire.specs.stream.Parts.{piece, refused, and_then, valued}
use Rattle.rfb_wire.proofs.stream_laws.PartLaws.{alone, done_says, piece_says, then_says, done_reads, piece_reads}
use Rattle.rfb_wire.proofs.stream_laws.PartLaws.{then_reads, same_reads}
use Rattle.rfb_wire.proofs.stream_laws.RepeatLaws.{valued_says, valued_reads, checked_says, checked_reads}
use Rattle.rfb_wire.proofs.stream_laws.HeadedLaws.{one_byte, refused_says, refused_reads}
use Rattle.rfb_hello.specs.declared.version.Version.TheVariants.{V33}
use Rattle.rfb_hello.specs.declared.fault.HelloFault.{HelloFault}
use Rattle.rfb_hello.specs.declared.fault.HelloFault.TheVariants.{NoneNotOffered, Refused, BadSecurityWord}
use Rattle.rfb_hello.specs.ServerHandshake.{AwaitsSecurity, ServerItem, SecurityNone, SecurityTypes, has_none, IsTypes}
use Rattle.rfb_hello.specs.ServerHandshake.{IsWord, IsReason, IsWithoutNone, IsRefusal, SpellsServerItem}
use Rattle.rfb_hello.specs.ServerHandshake.{FaultsServerItem, server_item_says}
use Rattle.rfb_hello.specs.ServerItems.{reason, after_word, types_fault, after_count}

-- ---- reasons

-- a reason ends in its fault
abbrev pub reason_says : (ℕ → HelloFault) → Says ServerItem HelloFault
reason_says fault = record { item = λ _ _. ⊥; fault = λ f bytes. (n : ℕ) × (f ≡ fault n) × IsReason n bytes }

abbrev reason_parts : (ℕ → HelloFault) → Says ServerItem HelloFault
reason_parts fault =
    then_says (valued_says 4 (λ bytes. u32_at 0 bytes)) (λ n. then_says (piece_says n) (λ _. refused_says (fault n)))

pub reason_same : (fault : ℕ → HelloFault) → Same (reason_parts fault) (reason_says fault)
reason_same fault =
    record { item = λ step bytes h. h.5.5; fault = told; item_back = λ step bytes h. absurd h; fault_back = back }
  where
    told : (f : HelloFault) (bytes : List ℕ) → (reason_parts fault).fault f bytes →
        (n : ℕ) × (f ≡ fault n) × IsReason n bytes
    told f bytes (inl none) = absurd none
    told f bytes (inr (n, front, rest, e, value, inl none)) = absurd none
    told f bytes (inr (n, front, rest, e, value, inr (text, one, two, split, is, h))) =
        let all : rest ≡ one = alone rest one two split h.1 in (
          n,
          h.0,
          record {
            head = front;
            text = rest;
            whole = e;
            head_is = (value.0, sym value.1);
            text_is = ap length all ∙ is.1;
          },
        )

    back : (f : HelloFault) (bytes : List ℕ) → (n : ℕ) × (f ≡ fault n) × IsReason n bytes →
        (reason_parts fault).fault f bytes
    back f bytes (n, e, r) = inr (
      n,
      r.head,
      r.text,
      r.whole,
      (r.head_is.0, sym r.head_is.1),
      inr (r.text, r.text, [], sym (append-nil r.text), (refl, r.text_is), (e, refl)),
    )

pub reason_reads : (fault : ℕ → HelloFault) → Reads (reason fault) (reason_says fault)
reason_reads fault = same_reads (reason fault) (reason_parts fault) (reason_says fault) (reason_same fault)
    (then_reads (valued 4 (λ bytes. u32_at 0 bytes)) (λ n. and_then (piece n) (λ _. refused (fault n)))
    (valued_says 4 (λ bytes. u32_at 0 bytes)) (λ n. then_says (piece_says n) (λ _. refused_says (fault n)))
    (valued_reads 4 (λ bytes. u32_at 0 bytes)) (λ n. then_reads (piece n) (λ _. refused (fault n)) (piece_says n)
    (λ _. refused_says (fault n)) (piece_reads n) (λ _. refused_reads (fault n))))

-- four bytes alone are their word
pub word_alone : (word : ℕ) (bytes front back : List ℕ) → bytes ≡ front ++ back →
    (length front ≡ 4) × (word ≡ u32_at 0 front) → back ≡ [] → IsWord word bytes
word_alone word bytes front back e value none = rw (alone bytes front back e none) (value.0, sym value.1)

-- a fault after a number, by what the number is
pub fault_after : (size : ℕ) (value : List ℕ → ℕ) (says : ℕ → Says ServerItem HelloFault)
    (Told : HelloFault → List ℕ → Type 0) →
    ((n : ℕ) (f : HelloFault) (bytes front back : List ℕ) → bytes ≡ front ++ back →
    (length front ≡ size) × (n ≡ value front) → (says n).fault f back → Told f bytes) →
    (f : HelloFault) (bytes : List ℕ) → (then_says (valued_says size value) says).fault f bytes → Told f bytes
fault_after size value says Told by f bytes (inl none) = absurd none
fault_after size value says Told by f bytes (inr (n, front, back, e, is, h)) = by n f bytes front back e is h

-- ---- the security type of 3.3

abbrev pub word_says : ℕ → Says ServerItem HelloFault
word_says zero = reason_says (λ n. Refused n)
word_says (suc zero) = done_says SecurityNone
word_says (suc (suc zero)) = refused_says NoneNotOffered
word_says (suc (suc (suc word))) = refused_says BadSecurityWord

pub word_reads : (word : ℕ) → Reads (after_word word) (word_says word)
word_reads zero = reason_reads (λ n. Refused n)
word_reads (suc zero) = done_reads SecurityNone
word_reads (suc (suc zero)) = refused_reads NoneNotOffered
word_reads (suc (suc (suc word))) = refused_reads BadSecurityWord

abbrev pub words_say : Says ServerItem HelloFault
words_say = then_says (valued_says 4 (λ bytes. u32_at 0 bytes)) word_says

pub words_same : (max : ℕ) → Same words_say (server_item_says max (AwaitsSecurity V33))
words_same max = record {
  item = λ step bytes h. item h.0 step bytes h.1 h.2 h.3 h.4 h.5;
  fault = fault_after 4 (λ bytes. u32_at 0 bytes) word_says (FaultsServerItem max (AwaitsSecurity V33)) fault_of;
  item_back = item_back;
  fault_back = fault_back;
}
  where
    item : (word : ℕ) (step : ServerItem) (bytes front back : List ℕ) →
        bytes ≡ front ++ back → (length front ≡ 4) × (word ≡ u32_at 0 front) → (word_says word).item step back →
        SpellsServerItem max (AwaitsSecurity V33) step bytes
    item zero step bytes front back e value h = absurd h
    item (suc zero) step bytes front back e value h = subst (λ (s : ServerItem). SpellsServerItem max
        (AwaitsSecurity V33) s bytes) (sym h.0) (word_alone 1 bytes front back e value h.1)
    item (suc (suc zero)) step bytes front back e value h = absurd h
    item (suc (suc (suc word))) step bytes front back e value h = absurd h

    fault_of : (word : ℕ) (f : HelloFault) (bytes front back : List ℕ) → bytes ≡ front ++ back → (length front ≡ 4)
        × (word ≡ u32_at 0 front) → (word_says word).fault f back → FaultsServerItem max (AwaitsSecurity V33) f bytes
    fault_of zero f bytes front back e value (n, is, r) =
        subst (λ (k : HelloFault). FaultsServerItem max (AwaitsSecurity V33) k bytes) (sym is)
        (record { head = front; reason = back; whole = e; head_is = (value.0, sym value.1); reason_is = r })
    fault_of (suc zero) f bytes front back e value h = absurd h
    fault_of (suc (suc zero)) f bytes front back e value h = subst (λ (k : HelloFault). FaultsServerItem max
        (AwaitsSecurity V33) k bytes) (sym h.0) (word_alone 2 bytes front back e value h.1)
    fault_of (suc (suc (suc word))) f bytes front back e value h =
        subst (λ (k : HelloFault). FaultsServerItem max (AwaitsSecurity V33) k bytes) (sym h.0)
        (suc (suc (suc word)), word_alone (suc (suc (suc word))) bytes front back e value h.1, omega arith)

    item_back : (step : ServerItem) (bytes : List ℕ) → SpellsServerItem max (AwaitsSecurity V33) step bytes →
        words_say.item step bytes
    item_back SecurityNone bytes h = (suc zero, bytes, [], sym (append-nil bytes), (h.0, sym h.1), (refl, refl))
    item_back step bytes h = absurd h

    above : (word : ℕ) (bytes : List ℕ) → IsWord word bytes → 2 < word → words_say.fault BadSecurityWord bytes
    above zero bytes is l = absurd (omega (arith, l))
    above (suc zero) bytes is l = absurd (omega (arith, l))
    above (suc (suc zero)) bytes is l = absurd (omega (arith, l))
    above (suc (suc (suc word))) bytes is l =
        inr (suc (suc (suc word)), bytes, [], sym (append-nil bytes), (is.0, sym is.1), (refl, refl))

    fault_back : (f : HelloFault) (bytes : List ℕ) → FaultsServerItem max (AwaitsSecurity V33) f bytes →
        words_say.fault f bytes
    fault_back (Refused n) bytes r =
        inr (zero, r.head, r.reason, r.whole, (r.head_is.0, sym r.head_is.1), (n, refl, r.reason_is))
    fault_back NoneNotOffered bytes h =
        inr (suc (suc zero), bytes, [], sym (append-nil bytes), (h.0, sym h.1), (refl, refl))
    fault_back BadSecurityWord bytes h = above h.0 bytes h.1 h.2
    fault_back f bytes h = absurd h

-- ---- the security types from 3.7 on

abbrev pub count_says : ℕ → Says ServerItem HelloFault
count_says zero = reason_says (λ n. Refused n)
count_says (suc n) = checked_says (suc n) types_fault (λ types. SecurityTypes types)

pub count_reads : (n : ℕ) → Reads (after_count n) (count_says n)
count_reads zero = reason_reads (λ n. Refused n)
count_reads (suc n) = checked_reads (suc n) types_fault (λ types. SecurityTypes types)

abbrev pub counts_say : Says ServerItem HelloFault
counts_say = then_says (valued_says 1 (λ bytes. u8_at 0 bytes)) count_says

-- the same in words, whatever the version
abbrev pub ItemOfTypes : ServerItem → List ℕ → Type 0
ItemOfTypes step bytes = (types : List ℕ) × (step ≡ SecurityTypes types) × IsTypes types bytes × (has_none types ≡ true)

abbrev pub FaultOfTypes : HelloFault → List ℕ → Type 0
FaultOfTypes f bytes = ((n : ℕ) × (f ≡ Refused n) × IsRefusal n bytes) ⊎ ((f ≡ NoneNotOffered) × IsWithoutNone bytes)

abbrev pub types_say : Says ServerItem HelloFault
types_say = record { item = ItemOfTypes; fault = FaultOfTypes }

types_good : (types : List ℕ) → types_fault types ≡ None → has_none types ≡ true
types_good types e = by (has_none types) e
  where
    by : (b : Bool) → ◌≡◌ {A = Option HelloFault} (if b then None else Some NoneNotOffered) None → b ≡ true
    by true e = refl
    by false e = cc

types_bad : (types : List ℕ) (f : HelloFault) → types_fault types ≡ Some f →
    (has_none types ≡ false) × (f ≡ NoneNotOffered)
types_bad types f e = by (has_none types) e
  where
    by : (b : Bool) → ◌≡◌ {A = Option HelloFault} (if b then None else Some NoneNotOffered) (Some f) →
        (b ≡ false) × (f ≡ NoneNotOffered)
    by true e = cc
    by false e = let same : NoneNotOffered ≡ f = cc in (refl, sym same)

-- a count and its types
counted : (n : ℕ) (bytes front back : List ℕ) → bytes ≡ front ++ back → (length front ≡ 1) × (suc n ≡ u8_at 0 front) →
    length back ≡ suc n → IsTypes back bytes
counted n bytes front back e value size =
    let head : front ≡ suc n ∷ [] = one_byte front (suc n) value.0 value.1 in
    record {
      some = omega (arith, size);
      whole = e ∙ ap (λ (ys : List ℕ). ys ++ back) head ∙ ap (λ (k : ℕ). k ∷ back) (sym size);
    }

-- types after their count
by_count : (types bytes : List ℕ) (Said : ℕ → List ℕ → Type 0) → IsTypes types bytes →
    Said (length types) types → (count : ℕ) × (front back : List ℕ) × (bytes ≡ front ++ back)
    × ((length front ≡ 1) × (count ≡ u8_at 0 front)) × Said count back
by_count types bytes Said t said = (length types, length types ∷ [], types, t.whole, (refl, refl), said)

pub counts_same : Same counts_say types_say
counts_same = record {
  item = λ step bytes h. item h.0 step bytes h.1 h.2 h.3 h.4 h.5;
  fault = fault_after 1 (λ bytes. u8_at 0 bytes) count_says FaultOfTypes fault_of;
  item_back = item_back;
  fault_back = fault_back;
}
  where
    item : (count : ℕ) (step : ServerItem) (bytes front back : List ℕ) → bytes ≡ front ++ back →
        (length front ≡ 1) × (count ≡ u8_at 0 front) → (count_says count).item step back → ItemOfTypes step bytes
    item zero step bytes front back e value h = absurd h
    item (suc n) step bytes front back e value h =
        (back, h.2, counted n bytes front back e value h.0, types_good back h.1)

    fault_of : (count : ℕ) (f : HelloFault) (bytes front back : List ℕ) → bytes ≡ front ++ back →
        (length front ≡ 1) × (count ≡ u8_at 0 front) → (count_says count).fault f back → FaultOfTypes f bytes
    fault_of zero f bytes front back e value (n, is, r) =
        inl (n, is, (back, e ∙ ap (λ (ys : List ℕ). ys ++ back) (one_byte front 0 value.0 value.1), r))
    fault_of (suc n) f bytes front back e value h =
        let bad = types_bad back f h.1 in
        inr (bad.1, (back, counted n bytes front back e value h.0, bad.0))

    after_types : (n : ℕ) (types : List ℕ) → length types ≡ n → 0 < n → has_none types ≡ true →
        (count_says n).item (SecurityTypes types) types
    after_types zero types size some has = absurd (omega (arith, some))
    after_types (suc n) types size some has = (size, rw has refl, refl)

    item_back : (step : ServerItem) (bytes : List ℕ) → ItemOfTypes step bytes → counts_say.item step bytes
    item_back step bytes (types, is, t, has) =
        by_count types bytes (λ n back. (count_says n).item step back) t
        (subst (λ (s : ServerItem). (count_says (length types)).item s types) (sym is)
        (after_types (length types) types refl t.some has))

    after_bad : (n : ℕ) (types : List ℕ) → length types ≡ n → 0 < n → has_none types ≡ false →
        (count_says n).fault NoneNotOffered types
    after_bad zero types size some has = absurd (omega (arith, some))
    after_bad (suc n) types size some has = (size, rw has refl)

    fault_back : (f : HelloFault) (bytes : List ℕ) → FaultOfTypes f bytes → counts_say.fault f bytes
    fault_back f bytes (inl (n, is, (r, e, reason_is))) = inr (zero, zero ∷ [], r, e, (refl, refl), (n, is, reason_is))
    fault_back f bytes (inr (is, (types, t, has))) =
        inr (by_count types bytes (λ n back. (count_says n).fault f back) t
        (subst (λ (k : HelloFault). (count_says (length types)).fault k types) (sym is)
        (after_bad (length types) types refl t.some has)))
