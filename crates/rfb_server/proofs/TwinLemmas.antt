-- Sessions for which one update is composed: what is marked and asked is the same.
use Rattle.std.proofs.Common.{◌≡◌, ℕ, ◌<◌, ◌+◌, ◌*◌, ◌||◌, ◌&&◌}
use Rattle.std.proofs.Common.{Bool, true, false}
use Rattle.std.proofs.Common.{sym, subst, ap, not, ◌∙◌, refl, arith, inl, inr, Option, Some, None}
use Rattle.std.specs.Int.{div_ceil}
use Rattle.std.specs.Option.{is_some}
use Rattle.std.proofs.lemmas.Bool.{cases_eq, cases_lt, both_ways}
use Rattle.rfb_pixel.specs.Format.{PixelFormat}
use Rattle.rfb_pixel.specs.declared.colour.Colour.{Colour}
use Rattle.rfb_picture.specs.declared.rect.Rect.{Rect}
use Rattle.rfb_picture.specs.Rect.{contains}
use Rattle.rfb_picture.specs.Grid.{Grid}
use Rattle.rfb_picture.specs.Box.{is_in, HasBox, IsBox, IsClear}
use Rattle.rfb_picture.specs.Area.{AsksEach, HasNoWhole, Places, asked_at}
use Rattle.rfb_picture.specs.CellOrder.{HasNextCell}
use Rattle.rfb_picture.proofs.GridLaws.{contains_true}
use Rattle.rfb_server.specs.declared.session.Session.{Session}
use Rattle.rfb_server.specs.Cells.{cell_of, IsCell}
use Rattle.rfb_server.specs.KnownScreen.{Follows}
use Rattle.rfb_server.specs.Request.{wanted_at}
use Rattle.rfb_server.specs.update.Sends.{NoneMayNeed, HasNext}
use Rattle.rfb_server.specs.session.Twins.{Agree, AgreeIn, AgreeBelow, AsksAll, AreKnownAlike, IsKnownAlike, IsShown}
use Rattle.rfb_server.proofs.ComposesLemmas.{all_cells}
use Rattle.rfb_server.proofs.RecordLemmas.{same_values}
use Rattle.rfb_server.proofs.AlikeLemmas.{no_either}

-- ---- what is marked

in_either : (a b c d : Bool) → ((a && c) || (b && d)) ≡ true → (a || b) ≡ true
in_either true b c d e = refl
in_either false true c d e = refl
in_either false false c d e = absurd cc

unmarked : (x y : ℕ) (p : ℕ → ℕ → Bool) (cell : Rect) →
    IsClear p cell.x (cell.x + cell.w) cell.y (cell.y + cell.h) →
    contains cell x y ≡ true → p x y ≡ false
unmarked x y p cell clear e =
    let (a, b, c, d) = contains_true cell x y e in
    clear x y a b c d

-- where nothing is marked nothing is to agree
pub agree_clear : (one other : Session) (cell : Rect) → HasBox (is_in one.marks) cell None →
    HasBox (is_in other.marks) cell None → AgreeIn one other cell
agree_clear one other cell clear clear_too = λ x y e m.
    absurd (no_either _ _ (unmarked x y (is_in one.marks) cell clear e)
    (unmarked x y (is_in other.marks) cell clear_too e) m)

-- nor does what is known differ anywhere where both know the same
pub agree_same : (one other : Session) → other.known ≡ one.known → Agree one other
agree_same one other same = λ x y p q some. rw same refl

-- and else within the bounds of both
pub agree_boxed : (one other : Session) (cell here there : Rect) → IsBox (is_in one.marks) cell here →
    IsBox (is_in other.marks) cell there → here ≡ there → AreKnownAlike one.known other.known here →
    AgreeIn one other cell
agree_boxed one other cell here there box box_too bounds same = λ x y e m.
    by x y e (is_in one.marks x y) refl (is_in other.marks x y) refl m
  where
    by : (x y : ℕ) → contains cell x y ≡ true → (a : Bool) → is_in one.marks x y ≡ a → (b : Bool) →
        is_in other.marks x y ≡ b → (is_in one.marks x y || is_in other.marks x y) ≡ true →
        IsKnownAlike one.known other.known x y
    by x y e true m b n some = same x y (box.holds x y e m)
    by x y e false m true n some = same x y (rw bounds (box_too.holds x y e n))
    by x y e false m false n some = absurd (no_either _ _ m n some)

-- ---- cell by cell

module _ (one other : Session) (wide : one.known.width ≡ other.known.width) where
  pub agree_skip : (n m : ℕ) → one.known.height ≡ other.known.height →
      NoneMayNeed one n m → NoneMayNeed other n m → AgreeBelow one other n → AgreeBelow one other m
  agree_skip n m high none none_too same = λ x y p q l some.
      elim (cases_lt (cell_of (div_ceil one.known.width 64) x y) n) [
        | inl less ↦ same x y p q less some
        | inr more ↦ absurd (no_either _ _ (none x y p q more l)
            (none_too x y (rw (← wide) p) (rw (← high) q) (rw (← wide) more) (rw (← wide) l)) some)
      ]

  pub agree_more : (index : ℕ) (cell : Rect) →
      IsCell one.known.width one.known.height (div_ceil one.known.width 64) index cell →
      AgreeIn one other cell → AgreeBelow one other index → AgreeBelow one other (index + 1)
  agree_more index cell is agree same = λ x y p q l some.
      elim (cases_eq (cell_of (div_ceil one.known.width 64) x y) index) [
        | inl here ↦ agree x y (is.all x y p q here) (in_either (is_in one.marks x y) (is_in other.marks x y)
            (asked_at one.area x y) (asked_at other.area x y) some)
        | inr apart ↦ same x y p q (omega (arith, l, apart)) some
      ]

  pub agree_all : AgreeBelow one other (div_ceil one.known.width 64 * div_ceil one.known.height 64) → Agree one other
  agree_all same = λ x y p q some. same x y p q (all_cells one.known.width one.known.height x y p q) some

-- where both go on at one cell, or at none
pub agree_end : (one other : Session) (n : ℕ) (found : Option ℕ) (none : Bool) →
    one.known.width ≡ other.known.width → one.known.height ≡ other.known.height →
    NoneMayNeed one n (div_ceil one.known.width 64 * div_ceil one.known.height 64) → HasNext other n found →
    is_some found ≡ not none → none ≡ true → AgreeBelow one other n → Agree one other
agree_end one other n None none wide high left left_too e f same =
    let all : div_ceil other.known.width 64 * div_ceil other.known.height 64
    ≡ div_ceil one.known.width 64 * div_ceil one.known.height 64 = rw (wide, high) refl in
    agree_all one other wide (agree_skip one other wide n (div_ceil one.known.width 64 * div_ceil one.known.height 64)
    high left (subst (λ (m : ℕ). NoneMayNeed other n m) all left_too) same)
agree_end one other n (Some cell) none wide high left left_too e f same =
    absurd (both_ways (not none) (rw f refl) (sym e))

-- ---- what is asked

-- all of the screen, and none of it whole
pub asks_plain : (s : Session) (whole : Bool) → whole ≡ false → AsksEach s.area →
    HasNoWhole s.area → AsksAll whole s
asks_plain s whole unset each none = subst (λ (b : Bool). AsksAll b s) (sym unset) (λ x y p q.
    let wide : x < s.area.asked.width = rw (s.alike.area_wide) p in
    let high : y < s.area.asked.height = rw (s.alike.area_high) q in
    (each x y wide high, none x y wide high))

abbrev places_of : Grid Bool → Grid Bool → Places
places_of asked whole = record { asked = asked; whole = whole }

same_places : (a b c d : Grid Bool) → a ≡ b → c ≡ d → places_of a c ≡ places_of b d
same_places a b c d e f = rw (e, f) refl

-- sessions that ask for all of a screen in the same way ask for the same
pub same_asked : (one other : Session) (whole : Bool) → one.known.width ≡ other.known.width →
    one.known.height ≡ other.known.height → AsksAll whole one → AsksAll whole other → one.area ≡ other.area
same_asked one other whole wide high all all_too =
    let asked : one.area.asked ≡ other.area.asked =
    same_values false one.area.asked other.area.asked one.alike.area_is.asks other.alike.area_is.asks
    (one.alike.area_wide ∙ (wide ∙ sym other.alike.area_wide))
    (one.alike.area_high ∙ (high ∙ sym other.alike.area_high))
    (λ x y p q.
    let p' : x < one.known.width = rw (← one.alike.area_wide) p in
    let q' : y < one.known.height = rw (← one.alike.area_high) q in
    (all x y p' q').0 ∙ sym (all_too x y (rw (← wide) p') (rw (← high) q')).0) in
    let wholes : one.area.whole ≡ other.area.whole =
    same_values false one.area.whole other.area.whole one.alike.area_is.wholes other.alike.area_is.wholes
    (one.alike.area_is.wide ∙
    (one.alike.area_wide ∙ (wide ∙ (sym other.alike.area_wide ∙ sym other.alike.area_is.wide))))
    (one.alike.area_is.high ∙
    (one.alike.area_high ∙ (high ∙ (sym other.alike.area_high ∙ sym other.alike.area_is.high))))
    (λ x y p q.
    let p' : x < one.known.width = rw (← one.alike.area_wide, ← one.alike.area_is.wide) p in
    let q' : y < one.known.height = rw (← one.alike.area_high, ← one.alike.area_is.high) q in
    (all x y p' q').1 ∙ sym (all_too x y (rw (← wide) p') (rw (← high) q')).1) in
    same_places one.area.asked other.area.asked one.area.whole other.area.whole asked wholes

-- ---- nothing is marked

pub shown_by : (s : Session) (found : Option ℕ) (none : Bool) →
    HasNextCell (is_in s.marks) s.marks.width s.marks.height 0 found → is_some found ≡ not none →
    none ≡ true → IsShown s
shown_by s None none next e f = λ x y p q.
    let wide : x < s.marks.width = rw (s.alike.marks_wide) p in
    let high : y < s.marks.height = rw (s.alike.marks_high) q in
    next x y wide high (omega arith) (all_cells s.marks.width s.marks.height x y wide high)
shown_by s (Some cell) none next e f = absurd (both_ways (not none) (rw f refl) (sym e))

-- then both viewers have what the screen shows
pub shown_alike : (screen : Grid Colour) (one other : Session) → Follows screen one → Follows screen other →
    one.format ≡ other.format → IsShown one → IsShown other → other.known ≡ one.known
shown_alike screen one other about about_too form shown shown_too =
    let wide : one.known.width ≡ other.known.width = sym about.alike.columns ∙ about_too.alike.columns in
    let high : one.known.height ≡ other.known.height = sym about.alike.rows ∙ about_too.alike.rows in
    sym (same_values None one.known other.known one.alike.known_whole other.alike.known_whole wide high (λ x y p q.
    let p' : x < other.known.width = rw (← wide) p in
    let q' : y < other.known.height = rw (← high) q in
    about.caught_up.right x y (rw (one.alike.marks_wide) p) (rw (one.alike.marks_high) q) (shown x y p q)
    ∙ (ap (λ (f : PixelFormat). Some (wanted_at screen f x y)) form
    ∙ sym (about_too.caught_up.right x y (rw (other.alike.marks_wide) p') (rw (other.alike.marks_high) q')
    (shown_too x y p' q')))))
