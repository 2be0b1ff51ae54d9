-- Doors that close one by one.
use Rattle.std.proofs.Common.{◌≡◌, ℕ, ◌+◌, ◌<◌, Bool, List, Some, length, set}
use Rattle.std.proofs.Common.{refl, ◌∙◌, subst, sym, arith, inl, inr}
use Rattle.std.specs.Prelude.{slice_get}
use Rattle.std.proofs.lemmas.Bool.Decides.{eqb_tells}
use Rattle.std.proofs.lemmas.List.{length-set}
use Rattle.rfb_session.specs.declared.doors.place.Place.{Place}
use Rattle.rfb_session.specs.declared.doors.place.Place.TheVariants.{Empty}
use Rattle.rfb_session.specs.doors.Wants.{IsOver}
use Rattle.rfb_session.specs.doors.Lives.{Closes}
use Rattle.rfb_session.proofs.DoorTurnLemmas.{slice_get-set_same, slice_get-set_other}

-- of the doors before this one, those that are over have become empty
pub record ClosesUpTo {C D : Type 0} (closed : C → ℕ → Bool) (waiting : C → ℕ → List ℕ) (core : C)
    (doors doors' : List (Place D)) (door : ℕ) : Type 0 where
  pub many : length doors' ≡ length doors
  pub shut : (d : ℕ) → d < door → IsOver closed waiting core d → slice_get doors' d ≡ Some Empty
  pub kept : (d : ℕ) → (IsOver closed waiting core d → ⊥) → slice_get doors' d ≡ slice_get doors d

module _ {C D : Type 0} (closed : C → ℕ → Bool) (waiting : C → ℕ → List ℕ) (core : C)
    (doors : List (Place D)) where
  pub closes_none : ClosesUpTo closed waiting core doors doors 0
  closes_none = record {
    many = refl;
    shut = λ d before over. absurd (omega (arith, before));
    kept = λ d going. refl;
  }

  -- the next one is over
  pub closes_over : (doors' : List (Place D)) (door : ℕ) → door < length doors →
      ClosesUpTo closed waiting core doors doors' door → IsOver closed waiting core door →
      ClosesUpTo closed waiting core doors (set doors' door Empty) (door + 1)
  closes_over doors' door within was over = record {
    many = length-set doors' door Empty ∙ was.many;
    shut = λ d before ends. elim (eqb_tells d door) [
      | inl same ↦ subst (λ (n : ℕ). slice_get (set doors' door Empty) n ≡ Some Empty) (sym same.1)
          (slice_get-set_same doors' door Empty (omega (arith, within, was.many)))
      | inr other ↦ slice_get-set_other doors' door d Empty other.1
          ∙ was.shut d (omega (arith, before, other.1)) ends
    ];
    kept = λ d going.
        slice_get-set_other doors' door d Empty
        (λ same. going (subst (λ (n : ℕ). IsOver closed waiting core n) (sym same) over))
        ∙ was.kept d going;
  }

  -- it is not
  pub closes_not : (doors' : List (Place D)) (door : ℕ) → ClosesUpTo closed waiting core doors doors' door →
      (IsOver closed waiting core door → ⊥) → ClosesUpTo closed waiting core doors doors' (door + 1)
  closes_not doors' door was going = record {
    many = was.many;
    shut = λ d before ends. elim (eqb_tells d door) [
      | inl same ↦ absurd (going (subst (λ (n : ℕ). IsOver closed waiting core n) same.1 ends))
      | inr other ↦ was.shut d (omega (arith, before, other.1)) ends
    ];
    kept = was.kept;
  }

  pub closes_all : (doors' : List (Place D)) (door : ℕ) → ClosesUpTo closed waiting core doors doors' door →
      door ≡ length doors → Closes closed waiting core doors doors'
  closes_all doors' door was all = record {
    many = was.many;
    shut = λ d within ends. was.shut d (omega (arith, within, all)) ends;
    kept = was.kept;
  }
