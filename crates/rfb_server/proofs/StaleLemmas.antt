-- Rows that no longer count, run by run.
use Rattle.std.proofs.Common.{◌≡◌, ℕ, ◌+◌, ◌<◌, ◌≤◌, ◌||◌, Bool, true, false, List, [], ◌∷◌, take, refl, ◌∙◌, zero, suc}
use Rattle.std.proofs.Common.{arith}
use Rattle.std.specs.Prelude.{slice_index_or, length, slice_set}
use Rattle.std.specs.List.{list_any}
use Rattle.std.proofs.lemmas.List.Folds.{list_any_more}
use Rattle.std.proofs.lemmas.Bool.{both_ways}
use Rattle.std.proofs.lemmas.Bool.Decides.{nat_tests}
use Rattle.rfb_server.specs.declared.claim.stale.Rows.{Rows}
use Rattle.rfb_server.specs.Claims.{has_row}

-- in none of the runs so far, nor in the next one
pub none_more : (p : Rows → Bool) (runs : List Rows) (i : ℕ) (d : Rows) → i < length runs →
    list_any p (take i runs) ≡ false → p (slice_index_or runs i d) ≡ false → list_any p (take (i + 1) runs) ≡ false
none_more p runs i d within none this =
    list_any_more p runs i d within ∙ (rw (none, this) refl)

either_false : (a b : Bool) → (a || b) ≡ false → (a ≡ false) × (b ≡ false)
either_false false b e = (refl, e)
either_false true b e = absurd cc

-- one run becomes another, which has what it had
pub none_set : (p : Rows → Bool) (runs : List Rows) (i : ℕ) (run d : Rows) → i < length runs →
    list_any p (slice_set runs i run) ≡ false →
    (p run ≡ false) × ((p run ≡ false → p (slice_index_or runs i d) ≡ false) → list_any p runs ≡ false)
none_set p [] i run d within none = absurd (omega (arith, within))
none_set p (r ∷ runs) zero run d within none =
    let (here, rest) = either_false (p run) (list_any p runs) none in
    (here, λ covered. rw (covered here, rest) refl)
none_set p (r ∷ runs) (suc i) run d within none =
    let (here, rest) = either_false (p r) (list_any p (slice_set runs i run)) none in
    let (set, covers) = none_set p runs i run d (omega (arith, within)) rest in
    (set, λ covered. rw (here, covers covered) refl)

-- rows that were moved as far as a row is: that was one of them only where it is one of those now
pub row_moved : (old new : Rows) (from to s y : ℕ) → y + from ≡ s + to → y < 65535 →
    ((z : ℕ) → old.first + to ≤ z + from → new.first ≤ z) →
    ((z : ℕ) → z + from < old.end + to → z < 65535 → z < new.end) → has_row new y ≡ false → has_row old s ≡ false
row_moved old new from to s y far low first end none = by (has_row old s) refl
  where
    by : (was : Bool) → has_row old s ≡ was → was ≡ false
    by false e = refl
    by true e =
        let above : old.first ≤ s = grind (arith, nat_tests) in
        let below : s < old.end = grind (arith, nat_tests) in
        let a : new.first ≤ y = first y (omega arith) in
        let b : y < new.end = end y (omega arith) low in
        let some : has_row new y ≡ true = grind (arith, nat_tests) in
        absurd (both_ways (has_row new y) none some)
