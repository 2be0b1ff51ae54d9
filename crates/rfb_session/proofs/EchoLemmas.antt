-- An echo over many events, and over devices.
use Rattle.std.proofs.Common.{◌≡◌, ℕ, ◌≤◌, Bool, List, [], ◌∷◌, ◌++◌, Option, length}
use Rattle.std.proofs.Common.{sym, ap, ◌∙◌, append_assoc, append-nil, arith, inl, inr}
use Rattle.std.proofs.lemmas.Bool.Decides.{eqb_tells}
use Rattle.rfb_session.specs.declared.doors.echo.Echo.{Echo}
use Rattle.rfb_session.specs.doors.Events.{Event, Runs, came, left, came_by, left_by}
use Rattle.rfb_session.specs.doors.Turns.{Turns}
use Rattle.rfb_session.specs.doors.Echo.{other, waiting_at, Echoes, EchoesAll, LeavesBeginning}

pub echoes_then : (old new : Echo) (events : List Event) → Runs Echoes old events new → EchoesAll old events new
echoes_then old new [] runs = λ d. ap (λ (e : Echo). waiting_at e d) runs ∙ sym (append-nil (waiting_at old d))
echoes_then old new (event ∷ events) runs = λ d.
    let mid = runs.0 in
    let first = left_by d event in
    let next = came_by (other d) event in
    append_assoc first (left d events) (waiting_at new d)
    ∙ ap (λ (l : List ℕ). first ++ l) (echoes_then mid new events runs.2 d)
    ∙ sym (append_assoc first (waiting_at mid d) (came (other d) events))
    ∙ ap (λ (l : List ℕ). l ++ came (other d) events) (runs.1 d)
    ∙ append_assoc (waiting_at old d) next (came (other d) events)

-- few bytes wait at each door
pub few_wait : (echo : Echo) (d : ℕ) → length (waiting_at echo d) ≤ 64
few_wait echo d = elim (eqb_tells d 0) [
  | inl first ↦ rw (first.0) echo.first_few
  | inr more ↦ rw (more.0) (elim (eqb_tells d 1) [
    | inl second ↦ rw (second.0) echo.second_few
    | inr none ↦ rw (none.0) (omega arith)
  ])
]

module _ {D : Type 0} (unread written : D → Option (List ℕ)) (failed : D → ℕ)
    (stands : D → Bool) where
  pub leaves : (old new : Echo) (doors doors' : List D) → ((d : ℕ) → waiting_at old d ≡ []) →
      Turns Echoes unread written failed stands old new doors doors' → (d : ℕ) →
      LeavesBeginning unread written doors doors' d
  leaves old new doors doors' none turns d = record {
    got = came (other d) turns.events;
    sent = left d turns.events;
    rest = waiting_at new d;
    parts = sym (echoes_then old new turns.events turns.runs d
        ∙ ap (λ (l : List ℕ). l ++ came (other d) turns.events) (none d));
    few = few_wait new d;
    reads = turns.reads (other d);
    writes = turns.writes d;
  }
