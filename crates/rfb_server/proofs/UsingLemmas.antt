-- Which hints become copies, hint by hint.
use Rattle.std.proofs.Common.{◌≡◌, ℕ, zero, suc, ◌+◌, Bool, true, false, List, [], ◌∷◌, ◌++◌}
use Rattle.std.proofs.Common.{length, take, slice_get}
use Rattle.std.proofs.Common.{Some, inl, inr, if◌then◌else◌, refl, sym, ap, subst, arith}
use Rattle.std.proofs.lemmas.List.{take_all}
use Rattle.rfb_wire.specs.declared.encoding.Encoding.TheVariants.{CopyRect}
use Rattle.rfb_server.specs.declared.hint.Hint.{Hint}
use Rattle.rfb_server.specs.Encodings.{is_listed}
use Rattle.rfb_server.specs.Server.{ServerState}
use Rattle.rfb_server.specs.Composition.{Move, moved, all_moved}
use Rattle.rfb_server.specs.UsedHints.{move_of, IsOfUse, AreUsed, usable}

-- one item more from the front
pub take_next : {X : Type 0} (xs : List X) (n : ℕ) (x : X) → slice_get xs n ≡ Some x →
    take (n + 1) xs ≡ take n xs ++ x ∷ []
take_next [] n x e = absurd cc
take_next (y ∷ ys) zero x e = cc
take_next (y ∷ ys) (suc n) x e =
    let on : suc n + 1 ≡ suc (n + 1) = omega arith in
    rw on (ap (λ zs. y ∷ zs) (take_next ys n x e))

-- the next hint is of use
used_more : (s : ServerState) (hints : List Hint) (moves : List Move) (hint : Hint) → AreUsed s hints moves →
    IsOfUse (all_moved moves s) (move_of hint) → AreUsed s (hints ++ hint ∷ []) (moves ++ move_of hint ∷ [])
used_more s [] moves hint none good =
    subst (λ (list : List Move). IsOfUse (all_moved list s) (move_of hint) →
    AreUsed s (hint ∷ []) (list ++ move_of hint ∷ [])) (sym none)
    (λ this. inl ([], refl, this, refl)) good
used_more s (first ∷ hints) moves hint (inl (later, is, of_use, rest)) good =
    inl (
      later ++ move_of hint ∷ [],
      ap (λ (list : List Move). list ++ move_of hint ∷ []) is,
      of_use,
      used_more (moved (move_of first) s) hints later hint rest
          (subst (λ (list : List Move). IsOfUse (all_moved list s) (move_of hint)) is good),
    )
used_more s (first ∷ hints) moves hint (inr (no_use, rest)) good =
    inr (no_use, used_more s hints moves hint rest good)

-- the next hint is of no use
left_more : (s : ServerState) (hints : List Hint) (moves : List Move) (hint : Hint) → AreUsed s hints moves →
    (IsOfUse (all_moved moves s) (move_of hint) → ⊥) → AreUsed s (hints ++ hint ∷ []) moves
left_more s [] moves hint none no_use =
    inr (subst (λ (list : List Move). IsOfUse (all_moved list s) (move_of hint) → ⊥) none no_use, none)
left_more s (first ∷ hints) moves hint (inl (later, is, of_use, rest)) no_use =
    inl (
      later,
      is,
      of_use,
      left_more (moved (move_of first) s) hints later hint rest
          (subst (λ (list : List Move). IsOfUse (all_moved list s) (move_of hint) → ⊥) is no_use),
    )
left_more s (first ∷ hints) moves hint (inr (never, rest)) no_use =
    inr (never, left_more s hints moves hint rest no_use)

module _ (s : ServerState) (hints : List Hint) (n : ℕ) (moves : List Move) (hint : Hint)
    (this : slice_get hints n ≡ Some hint)
    (used : AreUsed s (take n hints) moves) where
  pub used_next : IsOfUse (all_moved moves s) (move_of hint) →
      AreUsed s (take (n + 1) hints) (moves ++ move_of hint ∷ [])
  used_next good =
      subst (λ (list : List Hint). AreUsed s list (moves ++ move_of hint ∷ [])) (sym (take_next hints n hint this))
      (used_more s (take n hints) moves hint used good)

  pub left_next : (IsOfUse (all_moved moves s) (move_of hint) → ⊥) → AreUsed s (take (n + 1) hints) moves
  left_next no_use =
      subst (λ (list : List Hint). AreUsed s list moves) (sym (take_next hints n hint this))
      (left_more s (take n hints) moves hint used no_use)

-- all hints that may be used were looked at
pub used_all : (s : ServerState) (hints : List Hint) (moves : List Move) →
    AreUsed s (take (if is_listed CopyRect s.encodings then length hints else 0) hints) moves →
    AreUsed s (usable s hints) moves
used_all s hints moves used = by (is_listed CopyRect s.encodings) used
  where
    by : (listed : Bool) → AreUsed s (take (if listed then length hints else 0) hints) moves →
        AreUsed s (if listed then hints else []) moves
    by true all = subst (λ (list : List Hint). AreUsed s list moves) (take_all (length hints) hints (omega arith)) all
    by false all = all
