-- Whether an update is due, cell by cell.
use Rattle.std.proofs.Common.{◌≡◌, ℕ, ◌+◌, ◌*◌, ◌<◌, true, false, Option, Some, None, refl, arith, inl, inr}
use Rattle.std.specs.Int.{div_ceil}
use Rattle.std.specs.Option.{is_some}
use Rattle.std.proofs.lemmas.Bool.{cases_eq, cases_lt, both_ways}
use Rattle.rfb_pixel.specs.declared.colour.Colour.{Colour}
use Rattle.rfb_picture.specs.declared.rect.Rect.{Rect}
use Rattle.rfb_picture.specs.Grid.{Grid}
use Rattle.rfb_picture.proofs.GridLaws.{contains_true}
use Rattle.rfb_server.specs.declared.session.Session.{Session}
use Rattle.rfb_server.specs.update.Needs.{HasBox, needs_of}
use Rattle.rfb_server.specs.KnownScreen.{Follows}
use Rattle.rfb_server.specs.Cells.{cell_of, IsCell}
use Rattle.rfb_server.specs.update.Sends.{NoneMayNeed, state_of}
use Rattle.rfb_server.specs.Composition.{IsDue}
use Rattle.rfb_server.proofs.SentCells.{quiet_unless}
use Rattle.rfb_server.proofs.ComposesLemmas.{all_cells}

module _ (screen : Grid Colour) (session : Session) (about : Follows screen session) where
  -- no place of the first cells needs sending
  abbrev pub AreQuiet : ℕ → Type 0
  AreQuiet n = (x y : ℕ) → x < session.known.width → y < session.known.height →
      cell_of (div_ceil session.known.width 64) x y < n → needs_of screen session x y ≡ false

  -- a cell with a box has a place that needs sending
  pub box_due : (index : ℕ) (cell : Rect) (found : Option Rect) →
      IsCell session.known.width session.known.height (div_ceil session.known.width 64) index cell →
      HasBox (needs_of screen session) cell found → is_some found ≡ true → IsDue (state_of screen session)
  box_due index cell None is box e = absurd cc
  box_due index cell (Some r) is box e =
      let (j, c, need) = box.tight.left in
      let (a, b, d, f) = contains_true r r.x j c in
      record {
        ready = refl;
        x = r.x;
        y = j;
        is_place = (
          omega (arith, b, box.within.1, is.held.0, about.alike.columns),
          omega (arith, f, box.within.3, is.held.1, about.alike.rows),
        );
        needs = need;
      }

  -- cells that have no marked and asked place are quiet
  pub quiet_skip : (n m : ℕ) → NoneMayNeed session n m → AreQuiet n → AreQuiet m
  quiet_skip n m none quiet = λ x y p q l.
      elim (cases_lt (cell_of (div_ceil session.known.width 64) x y) n) [
        | inl less ↦ quiet x y p q less
        | inr more ↦ quiet_unless screen session x y about p q (none x y p q more l)
      ]

  -- and so is one without a box
  pub quiet_more : (index : ℕ) (cell : Rect) (found : Option Rect) →
      IsCell session.known.width session.known.height (div_ceil session.known.width 64) index cell →
      HasBox (needs_of screen session) cell found → is_some found ≡ false → AreQuiet index → AreQuiet (index + 1)
  quiet_more index cell None is clear e quiet = λ x y p q l.
      elim (cases_eq (cell_of (div_ceil session.known.width 64) x y) index) [
        | inl here ↦
            let (a, b, d, f) = contains_true cell x y (is.all x y p q here) in
            clear x y (omega (arith, a)) (omega (arith, b)) (omega (arith, d)) (omega (arith, f))
        | inr other ↦ quiet x y p q (omega (arith, l, other))
      ]
  quiet_more index cell (Some r) is box e quiet = absurd cc

  -- where all are quiet no update is due
  pub quiet_not_due : AreQuiet (div_ceil session.known.width 64 * div_ceil session.known.height 64) →
      IsDue (state_of screen session) → ⊥
  quiet_not_due quiet due =
      let wide : due.x < session.known.width = rw (← about.alike.columns) due.is_place.0 in
      let high : due.y < session.known.height = rw (← about.alike.rows) due.is_place.1 in
      both_ways (needs_of screen session due.x due.y)
      (quiet due.x due.y wide high (all_cells session.known.width session.known.height due.x due.y wide high)) due.needs
