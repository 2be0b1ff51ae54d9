-- Slots whose sessions follow a screen, whoever sits in them.
use Rattle.std.proofs.Common.{◌≡◌, ◌≢◌, ◌<◌, ◌≤◌, ◌⊎◌, ◌+◌, nat_eq, ℕ, false, List, length, set}
use Rattle.std.proofs.Common.{All, Option, Some, None, inl, inr, sym, ap, ◌∙◌, subst}
use Rattle.std.specs.Option.{ForSome}
use Rattle.std.proofs.lemmas.Bool.{cases_eq}
use Rattle.rfb_pixel.specs.declared.colour.Colour.{Colour}
use Rattle.rfb_picture.specs.declared.rect.Rect.{Rect}
use Rattle.rfb_picture.specs.Grid.{Grid, Holds}
use Rattle.rfb_server.specs.declared.session.Session.{Session}
use Rattle.rfb_server.specs.KnownScreen.{Follows, IsTold}
use Rattle.rfb_server.specs.Model.{notes_in}
use Rattle.rfb_server.specs.Strokes.{Stroke, drawn_by, notice_of}
use Rattle.rfb_server.proofs.DrawingLaws.{follows_stroke}
use Rattle.rfb_session.specs.Slots.{seat_at, OnSlot}
use Rattle.rfb_session.proofs.SlotLemmas.{not_both, on_seat, each_seat, all_seats, seat_set_same}
use Rattle.rfb_session.proofs.SlotLemmas.{seat_set_other, other}

-- what lies on the screen lies on those that a session is about
pub held_known : (screen : Grid Colour) (session : Session) (rect : Rect) → Follows screen session →
    Holds screen rect → Holds (notes_in session).known rect
held_known screen session rect follows held = (
  subst (λ (n : ℕ). rect.x + rect.w ≤ n) follows.alike.columns held.0,
  subst (λ (n : ℕ). rect.y + rect.h ≤ n) follows.alike.rows held.1,
)

module _ {X : Type 0} where
  -- each slot's session follows the screen
  abbrev pub AllFollow : (X → Session) → Grid Colour → List (Option X) → Type 0
  AllFollow session screen slots =
      All (λ slot. ForSome slot (λ seat. Follows screen (session seat))) slots

  pub all_about : (session : X → Session) (screen : Grid Colour) (slots : List (Option X))
      (rect : Rect) →
      AllFollow session screen slots → Holds screen rect →
      All (λ slot. ForSome slot (λ seat. Holds (notes_in (session seat)).known rect)) slots
  all_about session screen slots rect follow held = λ k d within seat is.
      held_known screen (session seat) rect (follow k d within seat is) held

  -- each of them was told of a drawing on the screen that it followed
  pub all_notified : (session : X → Session) (R : X → X → Type 0) (screen : Grid Colour)
      (old new : List (Option X)) (s : Stroke) →
      ((a b : X) → R a b → (before later : Grid Colour) → Follows before (session a) →
      IsTold (notice_of s) before later → Follows later (session b)) →
      AllFollow session screen old →
      ((k : ℕ) → OnSlot R (seat_at k old) (seat_at k new)) → AllFollow session (drawn_by s screen) new
  all_notified session R screen old new s told follow drawn =
      all_seats (λ seat. Follows (drawn_by s screen) (session seat)) new (λ k seat there.
      let one = on_seat R (seat_at k old) (seat_at k new) seat (drawn k) there in
      follows_stroke s (session one.0) (session seat) screen
      (each_seat (λ s. Follows screen (session s)) old follow k one.0 one.1)
      (told one.0 seat one.2))

  -- one slot is set
  pub all_set : (session : X → Session) (screen : Grid Colour) (slots : List (Option X)) (i : ℕ)
      (x : Option X) → i < length slots → AllFollow session screen slots →
      ((seat : X) → x ≡ Some seat → Follows screen (session seat)) →
      AllFollow session screen (set slots i x)
  all_set session screen slots i x within follow one =
      all_seats (λ seat. Follows screen (session seat)) (set slots i x) (λ k seat there.
      by k seat there (cases_eq k i))
    where
      by : (k : ℕ) (seat : X) → seat_at k (set slots i x) ≡ Some seat → ((k ≡ i) ⊎ (k ≢ i)) →
          Follows screen (session seat)
      by k seat there (inl is) =
          one seat (sym (seat_set_same slots i x within)
          ∙ (ap (λ (j : ℕ). seat_at j (set slots i x)) (sym is) ∙ there))
      by k seat there (inr differ) =
          each_seat (λ s. Follows screen (session s)) slots follow k seat
          (sym (seat_set_other slots i k x (other k i differ)) ∙ there)

  -- all but one slot are emptied
  pub all_emptied : (session : X → Session) (screen : Grid Colour) (old new : List (Option X))
      (own : ℕ) → AllFollow session screen old → seat_at own new ≡ seat_at own old →
      ((k : ℕ) → nat_eq k own ≡ false → seat_at k new ≡ None) → AllFollow session screen new
  all_emptied session screen old new own follow same emptied =
      all_seats (λ seat. Follows screen (session seat)) new (λ k seat there.
      by k seat there (cases_eq k own))
    where
      by : (k : ℕ) (seat : X) → seat_at k new ≡ Some seat → ((k ≡ own) ⊎ (k ≢ own)) →
          Follows screen (session seat)
      by k seat there (inl is) =
          each_seat (λ s. Follows screen (session s)) old follow k seat
          (ap (λ (j : ℕ). seat_at j old) is
          ∙ (sym same ∙ (ap (λ (j : ℕ). seat_at j new) (sym is) ∙ there)))
      by k seat there (inr differ) =
          absurd (not_both (seat_at k new) seat there (emptied k (other k own differ)))
