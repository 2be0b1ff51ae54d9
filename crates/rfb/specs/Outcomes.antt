-- A core behind doors: what happens to it until it ends, and what a command that runs one leaves.
use Rattle.std.specs.Prelude.{◌≡◌, ◌⊎◌, ℕ, List, Option}
use Rattle.rfb_session.specs.doors.Tenants.{Happening}

-- these happened to a core that was asked for so, in this order, and nothing else did; so it has
-- ended, or has not
pub record HappensUntil {K O : Type 0} (IsAsked : K → Type 0)
    (Goes : K → List Happening → K → Type 0) (outcome_of : K → O) (outcome : O) : Type 0 where
  pub old : K
  pub new : K
  pub asked : IsAsked old
  pub happenings : List Happening
  pub goes : Goes old happenings new
  pub ends : outcome_of new ≡ outcome

-- nothing was written before there was a core, or it has come so far, and that is so
abbrev pub LeavesCore : {O : Type 0} → (O → Type 0) → (O → Type 0) → Option (List ℕ) →
    Option (List ℕ) → Type 0
LeavesCore {O} Until IsSo before after =
    (after ≡ before) ⊎ ((outcome : O) × Until outcome × IsSo outcome)
