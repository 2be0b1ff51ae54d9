-- Marks, where a session is made and where its screen is drawn.
use Rattle.std.proofs.Common.{◌≡◌, ℕ, ◌<◌, Bool, true, false, Option, Some, None, if◌then◌else◌, ◌≤◌, ◌+◌, refl, sym}
use Rattle.std.proofs.Common.{◌∙◌, arith}
use Rattle.std.proofs.lemmas.Bool.Decides.{nat_tests}
use Rattle.rfb_pixel.specs.declared.colour.Colour.{Colour}
use Rattle.rfb_pixel.specs.Format.{PixelFormat}
use Rattle.rfb_picture.specs.declared.rect.Rect.{Rect}
use Rattle.rfb_picture.specs.Rect.{contains}
use Rattle.rfb_picture.specs.Grid.{Grid, IsGrid, at_or, filled, uniform}
use Rattle.rfb_picture.specs.Box.{is_in}
use Rattle.rfb_picture.specs.Area.{Places}
use Rattle.rfb_picture.proofs.GridLaws.{at-filled, width-changed, height-changed, whole-changed, whole-uniform}
use Rattle.rfb_picture.proofs.GridLaws.{width-uniform, height-uniform}
use Rattle.rfb_codec.specs.Effect.{IsAlike}
use Rattle.rfb_server.specs.declared.session.Session.{Session}
use Rattle.rfb_server.specs.Request.{wanted_at}
use Rattle.rfb_server.specs.session.Marks.{AreAlike}
use Rattle.rfb_server.specs.Claims.{IsClaimed}
use Rattle.rfb_server.specs.KnownScreen.{IsCaughtUp, IsSameOutside, Follows}
use Rattle.rfb_server.specs.declared.hint.Hint.{Hint}
use Rattle.rfb_server.specs.session.Sessions.{IsSame, IsHinted, KeepsUp}

-- more marks are of the same places
pub alike_marked : (known : Grid (Option ℕ)) (area : Places) (marks now : Grid Bool) (rect : Rect) →
    AreAlike known area marks → now ≡ filled rect true marks → AreAlike known area now
alike_marked known area marks now rect alike e =
    rw e
    (record {
      known_whole = alike.known_whole;
      area_is = alike.area_is;
      marks_whole = whole-changed _ marks alike.marks_whole;
      area_wide = alike.area_wide;
      area_high = alike.area_high;
      marks_wide = width-changed _ marks ∙ alike.marks_wide;
      marks_high = height-changed _ marks ∙ alike.marks_high;
      columns = alike.columns;
      rows = alike.rows;
    })

-- where each place is marked, nothing is said
pub caught_unseen : (screen : Grid Colour) (known : Grid (Option ℕ)) (area : Places)
    (form : PixelFormat) (marks : Grid Bool) →
    ((x y : ℕ) → x < marks.width → y < marks.height → is_in marks x y ≡ true) →
    IsCaughtUp screen known area form marks
caught_unseen screen known area form marks all =
    record {
      right = λ x y p q e. absurd (true_false (sym (all x y p q) ∙ e));
      not_whole = λ x y p q e. absurd (true_false (sym (all x y p q) ∙ e));
    }
  where
    true_false : true ≡ false → ⊥
    true_false e = cc

-- a place that is not marked after a rectangle was not before, and lies outside
pub unmarked : (marks : Grid Bool) (rect : Rect) (x y : ℕ) → IsGrid marks → x < marks.width → y < marks.height →
    is_in (filled rect true marks) x y ≡ false → (contains rect x y ≡ false) × (is_in marks x y ≡ false)
unmarked marks rect x y whole p q e =
    split (contains rect x y) (is_in marks x y) (sym (at-filled rect true marks x y false whole p q) ∙ e)
  where
    split : (inside old : Bool) → (if inside then true else old) ≡ false → (inside ≡ false) × (old ≡ false)
    split true old h = cc
    split false old h = (refl, h)

-- a drawing whose rectangle is marked leaves it so
pub caught_drawn : (before after : Grid Colour) (known : Grid (Option ℕ)) (area : Places) (form : PixelFormat)
    (marks now : Grid Bool) (rect : Rect) →
    AreAlike known area marks → IsAlike before known → IsSameOutside rect before after →
    now ≡ filled rect true marks →
    IsCaughtUp before known area form marks → IsCaughtUp after known area form now
caught_drawn before after known area form marks now rect alike size outside e caught =
    rw e (record { right = right; not_whole = not_whole })
  where
    right : (x y : ℕ) → x < (filled rect true marks).width → y < (filled rect true marks).height →
        is_in (filled rect true marks) x y ≡ false →
        at_or known x y None ≡ Some (wanted_at after form x y)
    right x y p q h =
        let p' : x < marks.width = rw (← width-changed (λ i j old. if contains rect i j then true else old) marks) p in
        let q' : y < marks.height =
        rw (← height-changed (λ i j old. if contains rect i j then true else old) marks) q in
        let was = unmarked marks rect x y alike.marks_whole p' q' h in
        let wide : x < before.width = rw (size.columns, ← alike.marks_wide) p' in
        let high : y < before.height = rw (size.rows, ← alike.marks_high) q' in
        rw (outside.same x y wide high was.0) (caught.right x y p' q' was.1)

    not_whole : (x y : ℕ) → x < (filled rect true marks).width → y < (filled rect true marks).height →
        is_in (filled rect true marks) x y ≡ false →
        at_or area.whole x y false ≡ false
    not_whole x y p q h =
        let p' : x < marks.width = rw (← width-changed (λ i j old. if contains rect i j then true else old) marks) p in
        let q' : y < marks.height =
        rw (← height-changed (λ i j old. if contains rect i j then true else old) marks) q in
        caught.not_whole x y p' q' (unmarked marks rect x y alike.marks_whole p' q' h).1

pub contained : (r : Rect) (x y : ℕ) → r.x ≤ x → x < r.x + r.w → r.y ≤ y → y < r.y + r.h → contains r x y ≡ true
contained r x y a b c d = grind (arith, nat_tests)

-- each place of a screen lies in the rectangle of its size
pub in_all : (w h x y : ℕ) → x < w → y < h →
    is_in (filled (record { x = 0; y = 0; w = w; h = h }) true (uniform w h false)) x y ≡ true
in_all w h x y p q =
    at-filled (record { x = 0; y = 0; w = w; h = h }) true (uniform w h false) x y false (whole-uniform w h false)
    (rw width-uniform p) (rw height-uniform q)
    ∙ (rw (contained (record { x = 0; y = 0; w = w; h = h }) x y (omega arith) (omega arith)
    (omega arith) (omega arith)) refl)

-- a session that was notified where the screen is drawn on follows it again
pub follows_drawn : (old new : Session) (before after : Grid Colour) (rect : Rect) →
    IsSame old new → new.marks ≡ filled rect true old.marks →
    Follows before old → IsGrid after → IsSameOutside rect before after →
    IsClaimed after old.known old.format new.claim → Follows after new
follows_drawn old new before after rect same marks follows whole outside claimed =
    record {
      whole = whole;
      alike = record {
        columns = outside.columns ∙ (follows.alike.columns ∙ (rw same.known refl));
        rows = outside.rows ∙ (follows.alike.rows ∙ (rw same.known refl));
      };
      caught_up = rw (same.known, same.area, same.setting.format)
          (caught_drawn before after old.known old.area old.format old.marks new.marks rect old.alike follows.alike
          outside marks follows.caught_up);
      claimed = rw (same.known, same.setting.format) claimed;
    }

-- so does one that was given a hint beside
pub follows_hinted : (old new : Session) (hint : Hint) (screen : Grid Colour) → IsHinted hint old new →
    Follows screen old → Follows screen new
follows_hinted old new hint screen hinted follows =
    record {
      whole = follows.whole;
      alike = record {
        columns = follows.alike.columns ∙ (rw (hinted.same.known) refl);
        rows = follows.alike.rows ∙ (rw (hinted.same.known) refl);
      };
      caught_up = rw (hinted.same.known, hinted.same.area, hinted.same.setting.format, hinted.marks) follows.caught_up;
      claimed = rw (hinted.same.known, hinted.same.setting.format, hinted.claim) follows.claimed;
    }

-- whatever it is fed, it follows
pub follows_up : (old new : Session) (screen : Grid Colour) → KeepsUp old new → Follows screen old → Follows screen new
follows_up old new screen up follows =
    record {
      whole = follows.whole;
      alike = record { columns = follows.alike.columns ∙ sym up.columns; rows = follows.alike.rows ∙ sym up.rows };
      caught_up = up.caught_up screen follows.alike follows.caught_up;
      claimed = up.claimed screen follows.claimed;
    }
