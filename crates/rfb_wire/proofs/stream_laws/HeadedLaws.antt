-- The law of a head whose first byte decides its size.
use Rattle.std.proofs.Common.{◌≡◌, ℕ, ◌+◌, ◌*◌, ◌-◌, ◌<◌, inl, inr, List, [], ◌∷◌}
use Rattle.std.proofs.Common.{◌++◌, Option, Some, None, length}
use Rattle.std.proofs.Common.{slice_index, refl, sym, subst, ◌∙◌, ap, length-append, arith}
use Rattle.rfb_wire.specs.stream.Prefix.{Reading, Says, Reads, Same, Listed}
use Rattle.rfb_wire.specs.stream.Parts.{waiting, refused, valued, rest_of_head, headed, and_then}
use Rattle.rfb_wire.specs.stream.Heads.{BeginsNone, Misses, SpellsList, SpellsText}
use Rattle.rfb_wire.proofs.stream_laws.HeadLemmas.{SizesSpell, SpelledAlone, misses_rest, begins_some}
use Rattle.rfb_wire.proofs.stream_laws.PartLaws.{ThenItem, ThenFault, then_says, then_reads, same_reads}
use Rattle.rfb_wire.proofs.stream_laws.RepeatLaws.{valued_says, valued_reads}
use Rattle.rfb_wire.proofs.stream_laws.PendingLaws.{length-pieces}

-- one byte is a list of one
pub one_byte : (bytes : List ℕ) (first : ℕ) → length bytes ≡ 1 → first ≡ slice_index bytes 0 →
    bytes ≡ first ∷ []
one_byte [] first l e = absurd (omega (arith, l))
one_byte (x ∷ []) first l e = ap (λ (n : ℕ). n ∷ []) (sym e)
one_byte (x ∷ y ∷ bytes) first l e = absurd (omega (arith, l))

-- bytes of the size that the first asks for are a head, and no head has others
pub record IsHeaded {A : Type 0} (Spells : A → List ℕ → Type 0) (size : ℕ → Option ℕ)
    (head_in : List ℕ → A) : Type 0 where
  pub made : (bytes : List ℕ) → size (slice_index bytes 0) ≡ Some (length bytes) →
      Spells (head_in bytes) bytes
  pub only : SpelledAlone Spells size head_in
  pub some : (first n : ℕ) → size first ≡ Some n → 0 < n
  pub begins : (first n : ℕ) → size first ≡ Some n → BeginsNone Spells first → ⊥

module _ {A : Type 0} {Spells : A → List ℕ → Type 0} {size : ℕ → Option ℕ}
    {head_in : List ℕ → A} where
  -- heads are so where bytes of the size that their first asks for are one, and no others are
  pub headed_by : SizesSpell Spells size → SpelledAlone Spells size head_in →
      ((first n : ℕ) → size first ≡ Some n → 0 < n) → IsHeaded Spells size head_in
  headed_by sizes only some = record {
    made = λ bytes e. let head = sizes bytes e in
        subst (λ (a : A). Spells a bytes) (only head.0 bytes head.1).0 head.1;
    only = only;
    some = some;
    begins = λ first n e none. begins_some Spells size sizes first n (some first n e) e none;
  }

  -- bytes that are fewer than their first asks for miss the others
  pub misses_others : IsHeaded Spells size head_in → (bytes : List ℕ) (n : ℕ) → 0 < length bytes →
      length bytes < n → size (slice_index bytes 0) ≡ Some n → Misses Spells (n - length bytes) bytes
  misses_others is = misses_rest Spells size (λ bytes e. (head_in bytes, is.made bytes e))

  -- a byte that asks for no size begins no head
  pub begins_none : IsHeaded Spells size head_in → (first : ℕ) → size first ≡ None →
      BeginsNone Spells first
  begins_none is first none head rest s = let told = (is.only head (first ∷ rest) s).1 in cc

module _ {A F : Type 0} where
  -- nothing
  abbrev pub waiting_says : Says A F
  waiting_says = record { item = λ _ _. ⊥; fault = λ _ _. ⊥ }

  pub waiting_reads : Reads (waiting {A = A} {F = F}) waiting_says
  waiting_reads = record {
    found = λ bytes a rest e. absurd cc;
    only = λ a front rest h. absurd h;
    blamed = λ bytes f e. absurd cc;
    blames = λ f front rest h. absurd h;
  }

  -- that fault, without bytes
  abbrev pub refused_says : F → Says A F
  refused_says f = record { item = λ _ _. ⊥; fault = λ g bytes. (g ≡ f) × (bytes ≡ []) }

  pub refused_reads : (f : F) → Reads (refused f) (refused_says f)
  refused_reads f = record {
    found = λ bytes a rest e. absurd cc;
    only = λ a front rest h. absurd h;
    blamed = λ bytes g e. let same : f ≡ g = cc in ([], bytes, refl, (sym same, refl));
    blames = λ g front rest h. rw h.0 refl;
  }

  abbrev rest_says : (ℕ → F) → (List ℕ → A) → ℕ → Option ℕ → Says A F
  rest_says unknown head_in first None = refused_says (unknown first)
  rest_says unknown head_in first (Some size) =
      valued_says (size - 1) (λ rest. head_in (first ∷ rest))

  rest_reads : (unknown : ℕ → F) (head_in : List ℕ → A) (first : ℕ) (size : Option ℕ) →
      Reads (rest_of_head unknown head_in first size) (rest_says unknown head_in first size)
  rest_reads unknown head_in first None = refused_reads (unknown first)
  rest_reads unknown head_in first (Some size) =
      valued_reads (size - 1) (λ rest. head_in (first ∷ rest))

  -- a byte that begins no head
  abbrev pub IsUnknownByte : (A → List ℕ → Type 0) → (ℕ → F) → F → List ℕ → Type 0
  IsUnknownByte Spells unknown f bytes =
      (first : ℕ) × (f ≡ unknown first) × (bytes ≡ first ∷ []) × BeginsNone Spells first

  abbrev pub headed_says : (A → List ℕ → Type 0) → (ℕ → F) → Says A F
  headed_says Spells unknown = record { item = Spells; fault = IsUnknownByte Spells unknown }

  headed_same : (Spells : A → List ℕ → Type 0) (size : ℕ → Option ℕ) (unknown : ℕ → F)
      (head_in : List ℕ → A) → IsHeaded Spells size head_in →
      Same (then_says (valued_says 1 (λ bytes. slice_index bytes 0))
      (λ first. rest_says unknown head_in first (size first))) (headed_says Spells unknown)
  headed_same Spells size unknown head_in is =
      record { item = item; fault = fault; item_back = item_back; fault_back = fault_back }
    where
      whole : (first : ℕ) (front back : List ℕ) (a : A) (told : Option ℕ) → size first ≡ told →
          front ≡ first ∷ [] → (rest_says unknown head_in first told).item a back →
          Spells a (front ++ back)
      whole first front back a None e all h = absurd h
      whole first front back a (Some n) e all h =
          let some = is.some first n e in
          let length_is : size first ≡ Some (length (first ∷ back)) =
          e ∙ ap (λ (k : ℕ). Some k) (omega (arith, some, h.0)) in
          rw (all, h.1) (is.made (first ∷ back) length_is)

      item : (a : A) (bytes : List ℕ) →
          (then_says (valued_says 1 (λ bytes. slice_index bytes 0))
          (λ first. rest_says unknown head_in first (size first))).item a bytes → Spells a bytes
      item a bytes (first, front, back, e, value, rest) =
          rw e (whole first front back a (size first) refl (one_byte front first value.0 value.1)
          rest)

      no_head : (first : ℕ) (front back : List ℕ) (f : F) (told : Option ℕ) → size first ≡ told →
          front ≡ first ∷ [] → (rest_says unknown head_in first told).fault f back →
          IsUnknownByte Spells unknown f (front ++ back)
      no_head first front back f None e all h =
          (first, h.0, rw (all, h.1) refl, begins_none is first e)
      no_head first front back f (Some n) e all h = absurd h

      fault : (f : F) (bytes : List ℕ) →
          (then_says (valued_says 1 (λ bytes. slice_index bytes 0))
          (λ first. rest_says unknown head_in first (size first))).fault f bytes →
          IsUnknownByte Spells unknown f bytes
      fault f bytes (inl none) = absurd none
      fault f bytes (inr (first, front, back, e, value, rest)) =
          rw e (no_head first front back f (size first) refl (one_byte front first value.0 value.1)
          rest)

      item_back : (a : A) (bytes : List ℕ) → Spells a bytes →
          (then_says (valued_says 1 (λ bytes. slice_index bytes 0))
          (λ first. rest_says unknown head_in first (size first))).item a bytes
      item_back a [] s = absurd (omega (arith, (is.only a [] s).2))
      item_back a (first ∷ rest) s =
          let told = is.only a (first ∷ rest) s in
          let size_is : size first ≡ Some (length (first ∷ rest)) = told.1 in (
            first,
            first ∷ [],
            rest,
            refl,
            (refl, refl),
            subst (λ (n : Option ℕ). (rest_says unknown head_in first n).item a rest)
                (sym size_is) (omega arith, told.0),
          )

      no_size : (first : ℕ) (told : Option ℕ) → size first ≡ told → BeginsNone Spells first →
          told ≡ None
      no_size first None e none = refl
      no_size first (Some n) e none = absurd (is.begins first n e none)

      fault_back : (f : F) (bytes : List ℕ) → IsUnknownByte Spells unknown f bytes →
          (then_says (valued_says 1 (λ bytes. slice_index bytes 0))
          (λ first. rest_says unknown head_in first (size first))).fault f bytes
      fault_back f bytes (first, e, all, none) =
          let size_is : size first ≡ None = no_size first (size first) refl none in
          inr (
            first,
            first ∷ [],
            [],
            all,
            (refl, refl),
            subst (λ (n : Option ℕ). (rest_says unknown head_in first n).fault f []) (sym size_is)
                (e, refl),
          )

  pub headed_reads : (Spells : A → List ℕ → Type 0) (size : ℕ → Option ℕ) (unknown : ℕ → F)
      (head_in : List ℕ → A) → IsHeaded Spells size head_in →
      Reads (headed size unknown head_in) (headed_says Spells unknown)
  headed_reads Spells size unknown head_in is =
      same_reads (headed size unknown head_in)
      (then_says (valued_says 1 (λ bytes. slice_index bytes 0))
      (λ first. rest_says unknown head_in first (size first))) (headed_says Spells unknown)
      (headed_same Spells size unknown head_in is)
      (then_reads (valued 1 (λ bytes. slice_index bytes 0))
      (λ first. rest_of_head unknown head_in first (size first))
      (valued_says 1 (λ bytes. slice_index bytes 0))
      (λ first. rest_says unknown head_in first (size first))
      (valued_reads 1 (λ bytes. slice_index bytes 0))
      (λ first. rest_reads unknown head_in first (size first)))

-- ---- what comes after a head

module _ {A B F : Type 0} where
  -- a message is a head and what comes after it, or a byte that begins no head
  pub message_reads : {Spells : A → List ℕ → Type 0} {size : ℕ → Option ℕ} {head_in : List ℕ → A}
      {unknown : ℕ → F} {body : A → Reading B F} {after : A → Says B F} {s : Says B F} →
      IsHeaded Spells size head_in → ((head : A) → Reads (body head) (after head)) →
      ((head : A) (b : B) (bytes front back : List ℕ) → bytes ≡ front ++ back →
      Spells head front → (after head).item b back → s.item b bytes) →
      ((head : A) (f : F) (bytes front back : List ℕ) → bytes ≡ front ++ back →
      Spells head front → (after head).fault f back → s.fault f bytes) →
      ((first : ℕ) (bytes : List ℕ) → bytes ≡ first ∷ [] → BeginsNone Spells first →
      s.fault (unknown first) bytes) →
      ((b : B) (bytes : List ℕ) → s.item b bytes → ThenItem (headed_says Spells unknown) after b bytes) →
      ((f : F) (bytes : List ℕ) → s.fault f bytes → ThenFault (headed_says Spells unknown) after f bytes) →
      Reads (and_then (headed size unknown head_in) body) s
  message_reads {Spells = Spells} {size = size} {head_in = head_in} {unknown = unknown} {body = body}
      {after = after} {s = s} is reads item fault refuses item_back fault_back =
      same_reads (and_then (headed size unknown head_in) body)
      (then_says (headed_says Spells unknown) after) s (record {
        item = λ b bytes h. item h.0 b bytes h.1 h.2 h.3 h.4 h.5;
        fault = faults;
        item_back = item_back;
        fault_back = fault_back;
      })
      (then_reads (headed size unknown head_in) body (headed_says Spells unknown) after
      (headed_reads Spells size unknown head_in is) reads)
    where
      faults : (f : F) (bytes : List ℕ) → ThenFault (headed_says Spells unknown) after f bytes →
          s.fault f bytes
      faults f bytes (inl (first, e, all, none)) = rw e (refuses first bytes all none)
      faults f bytes (inr (head, front, back, e, h, w)) = fault head f bytes front back e h w

module _ {A : Type 0} where
  -- a list after the head that says how many items it has
  pub list_follows : (Head : ℕ → List ℕ → Type 0) (R : A → List ℕ → Type 0) (count : ℕ) (items : List A)
      (bytes front back : List ℕ) → bytes ≡ front ++ back → Head count front →
      (length items ≡ count) × Listed R items back → SpellsList Head R items bytes
  list_follows Head R count items bytes front back e s many =
      record { head = front; list = back; whole = e; head_is = rw many.0 s; listed = many.1 }

  -- such a list has as many bytes as its head and its items
  pub list_sized : (Head : ℕ → List ℕ → Type 0) (R : A → List ℕ → Type 0) (n size : ℕ) → 0 < n →
      ((count : ℕ) (head : List ℕ) → Head count head → length head ≡ n) →
      ((a : A) (bytes : List ℕ) → R a bytes → length bytes ≡ size) →
      (items : List A) (bytes : List ℕ) → SpellsList Head R items bytes →
      (length bytes ≡ n + length items * size) × (0 < length bytes)
  list_sized Head R n size some head_sized sized items bytes s =
      let head = head_sized (length items) s.head s.head_is in
      let list = length-pieces R size sized items s.list s.listed in
      let all : length bytes ≡ length s.head + length s.list =
      ap length s.whole ∙ length-append s.head s.list in
      (omega (arith, head, list, all), omega (arith, some, head, all))

-- a text after the head that says how many bytes it has
pub text_follows : (Head : ℕ → List ℕ → Type 0) (count : ℕ) (text bytes front back : List ℕ) →
    bytes ≡ front ++ back → Head count front → (back ≡ text) × (length back ≡ count) →
    SpellsText Head text bytes
text_follows Head count text bytes front back e s is =
    record {
      head = front;
      whole = e ∙ ap (λ (ys : List ℕ). front ++ ys) is.0;
      head_is = subst (λ (n : ℕ). Head n front) (sym is.1 ∙ ap length is.0) s;
    }

-- such a text has as many bytes as its head and itself
pub text_sized : (Head : ℕ → List ℕ → Type 0) (n : ℕ) → 0 < n →
    ((count : ℕ) (head : List ℕ) → Head count head → length head ≡ n) →
    (text bytes : List ℕ) → SpellsText Head text bytes →
    (length bytes ≡ n + length text) × (0 < length bytes)
text_sized Head n some head_sized text bytes s =
    let head = head_sized (length text) s.head s.head_is in
    let all : length bytes ≡ length s.head + length text =
    ap length s.whole ∙ length-append s.head text in
    (omega (arith, head, all), omega (arith, some, head, all))
