-- What follows for any kind of head whose size its first byte decides.
use Rattle.std.proofs.Common.{◌≡◌, ℕ, ◌-◌, ◌<◌, List, [], ◌∷◌, ◌++◌, length, slice_index, replicate, Option, Some, ap}
use Rattle.std.proofs.Common.{sym, ◌∙◌, inl, inr, arith, length-append}
use Rattle.std.proofs.lemmas.Bool.{cases_eq}
use Rattle.std.proofs.lemmas.List.{length-replicate}
use Rattle.rfb_wire.specs.stream.Heads.{BeginsNone, Misses}

module _ {V : Type 0} (Spells : V → List ℕ → Type 0) (size : ℕ → Option ℕ) where
  -- bytes of the size that their first asks for are a head
  abbrev pub SizesSpell : Type 0
  SizesSpell =
      (bytes : List ℕ) → size (slice_index bytes 0) ≡ Some (length bytes) → (v : V) × Spells v bytes

  -- the bytes of a head are those of no other, as many as their first asks for, and not none
  abbrev pub SpelledAlone : (List ℕ → V) → Type 0
  SpelledAlone head_in =
      (v : V) (bytes : List ℕ) → Spells v bytes →
      (v ≡ head_in bytes) × (size (slice_index bytes 0) ≡ Some (length bytes)) × (0 < length bytes)

  -- bytes that are fewer than their first asks for miss the others
  pub misses_rest : SizesSpell → (bytes : List ℕ) (n : ℕ) → 0 < length bytes → length bytes < n →
      size (slice_index bytes 0) ≡ Some n → Misses Spells (n - length bytes) bytes
  misses_rest made [] n some short h = absurd (omega arith)
  misses_rest made (first ∷ rest) n some short h = (
    omega arith,
    λ missing e.
        let whole : n ≡ length (first ∷ rest ++ missing) = simp length-append (omega arith) in
        made (first ∷ rest ++ missing) (h ∙ ap Some whole),
  )

  -- a byte that asks for a size begins a head
  pub begins_some : SizesSpell → (first n : ℕ) → 0 < n → size first ≡ Some n →
      BeginsNone Spells first → ⊥
  begins_some made first n some h none =
      let rest = replicate (n - 1) 0 in
      let whole : n ≡ length (first ∷ rest) = simp length-replicate (omega arith) in
      let head = made (first ∷ rest) (h ∙ ap Some whole) in
      none head.0 rest head.1

module _ (size : ℕ → Option ℕ) where
  -- bytes of the size that their first asks for: those of one type, and others
  pub by_type : {X : Type 0} (bytes : List ℕ) → size (slice_index bytes 0) ≡ Some (length bytes) →
      (kind n : ℕ) → size kind ≡ Some n → (length bytes ≡ n → slice_index bytes 0 ≡ kind → X) →
      ((slice_index bytes 0 ≡ kind → ⊥) → X) → X
  by_type bytes h kind n has here other = elim (cases_eq (slice_index bytes 0) kind) [
    | inl is ↦
        let told : Some n ≡ Some (length bytes) = sym has ∙ ap size (sym is) ∙ h in
        let whole : length bytes ≡ n = cc in
        here whole is
    | inr not ↦ other not
  ]

  -- bytes of a type and of its size are as many as their first asks for, and not none
  pub of_type : {V : Type 0} {v w : V} {kind n : ℕ} (bytes : List ℕ) → length bytes ≡ n →
      slice_index bytes 0 ≡ kind → size kind ≡ Some n → 0 < n → v ≡ w →
      (v ≡ w) × (size (slice_index bytes 0) ≡ Some (length bytes)) × (0 < length bytes)
  of_type bytes l is has some same = (same, ap size is ∙ has ∙ ap Some (sym l), omega (arith, l, some))
