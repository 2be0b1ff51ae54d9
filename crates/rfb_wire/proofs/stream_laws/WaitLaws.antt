-- Bytes that are too few for a part, or for a head, wait for more.
use Rattle.std.proofs.Common.{◌≡◌, ℕ, zero, suc, ◌-◌, ◌*◌, ◌<◌, inl, inr, List, [], ◌∷◌, ◌++◌, Option, Some, length}
use Rattle.std.proofs.Common.{take, drop, replicate, slice_index, refl, subst, arith, length-append, length-drop}
use Rattle.std.proofs.Common.{take-append-drop}
use Rattle.std.proofs.lemmas.List.{length-replicate, length-take-le}
use Rattle.std.proofs.lemmas.Bool.{cases_lt}
use Rattle.rfb_wire.specs.stream.Prefix.{More, Got, Reading}
use Rattle.rfb_wire.specs.stream.Parts.{and_then, valued, each, headed}
use Rattle.rfb_wire.specs.stream.Heads.{Misses}
use Rattle.rfb_wire.proofs.stream_laws.PartLaws.{piece_short}
use Rattle.rfb_wire.proofs.stream_laws.RepeatLaws.{valued_reads}
use Rattle.rfb_wire.proofs.stream_laws.HeadedLaws.{IsHeaded}

module _ {A F : Type 0} where
  -- fewer bytes than are asked
  pub valued_waits : (n : ℕ) (value : List ℕ → A) (bytes : List ℕ) → length bytes < n →
      valued {F = F} n value bytes ≡ More
  valued_waits n value bytes less = rw (piece_short {F = F} n bytes less) refl

  -- fewer bytes than n pieces have
  pub pieces_wait : (n size : ℕ) (value : List ℕ → A) (before : List A) (bytes : List ℕ) →
      length bytes < n * size → each {F = F} n (λ _. valued size value) before bytes ≡ More
  pieces_wait zero size value before bytes less = absurd (omega (arith, less))
  pieces_wait (suc n) size value before bytes less = elim (cases_lt (length bytes) size) [
    | inl short ↦ rw (valued_waits size value bytes short) refl
    | inr enough ↦
        let one : valued {F = F} size value (take size bytes ++ drop size bytes)
        ≡ Got (value (take size bytes)) (drop size bytes) =
        (valued_reads size value).only (value (take size bytes)) (take size bytes)
        (drop size bytes) (length-take-le size bytes enough, refl) in
        let here : valued {F = F} size value bytes
        ≡ Got (value (take size bytes)) (drop size bytes) =
        subst (λ (zs : List ℕ). valued {F = F} size value zs
        ≡ Got (value (take size bytes)) (drop size bytes)) (take-append-drop size bytes)
        one in
        let others =
        pieces_wait n size value (before ++ value (take size bytes) ∷ []) (drop size bytes)
        (omega (arith, less, enough, length-drop size bytes)) in
        rw (here, others) refl
  ]

module _ {A F : Type 0} where
  -- a head that is not whole
  pub headed_waits : (Spells : A → List ℕ → Type 0) (size : ℕ → Option ℕ) (unknown : ℕ → F)
      (head_in : List ℕ → A) → IsHeaded Spells size head_in → (n : ℕ) (bytes : List ℕ) →
      Misses Spells n bytes → headed size unknown head_in bytes ≡ More
  headed_waits Spells size unknown head_in is n [] misses = refl
  headed_waits Spells size unknown head_in is n (first ∷ rest) misses =
      let missing = replicate n 0 in
      let long : length missing ≡ n = length-replicate n 0 in
      let made = misses.1 missing long in
      let told : size first ≡ Some (length (first ∷ (rest ++ missing))) =
      (is.only made.0 (first ∷ (rest ++ missing)) made.1).1 in
      let one : valued {F = F} 1 (λ bytes. slice_index bytes 0) (first ∷ rest) ≡ Got first rest =
      (valued_reads 1 (λ bytes. slice_index bytes 0)).only first (first ∷ []) rest
      (refl, refl) in
      rw (one, told)
      (valued_waits (length (first ∷ (rest ++ missing)) - 1) (λ bytes. head_in (first ∷ bytes))
      rest (omega (arith, length-append rest missing, long, misses.0)))

module _ {A B F : Type 0} where
  -- after an item, bytes that are too few for what it asks
  pub after_waits : (p : Reading A F) (k : A → Reading B F) (a : A) (bytes rest : List ℕ) →
      p bytes ≡ Got a rest → k a rest ≡ More → and_then p k bytes ≡ More
  after_waits p k a bytes rest got more = rw got more

  pub first_waits : (p : Reading A F) (k : A → Reading B F) (bytes : List ℕ) → p bytes ≡ More →
      and_then p k bytes ≡ More
  first_waits p k bytes more = rw more refl
