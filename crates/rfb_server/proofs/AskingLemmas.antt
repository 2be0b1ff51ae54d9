-- Marks, where places are asked for and where the format changes.
use Rattle.std.proofs.Common.{◌≡◌, ℕ, ◌<◌, Bool, true, false, Option, Some, None, if◌then◌else◌, refl, sym, ap, ◌∙◌}
use Rattle.std.proofs.Common.{arith}
use Rattle.rfb_pixel.specs.declared.colour.Colour.{Colour}
use Rattle.rfb_pixel.specs.Format.{PixelFormat}
use Rattle.rfb_picture.specs.declared.rect.Rect.{Rect}
use Rattle.rfb_picture.specs.Rect.{contains}
use Rattle.rfb_picture.specs.Grid.{Grid, IsGrid, at_or, filled}
use Rattle.rfb_picture.specs.Box.{is_in}
use Rattle.rfb_picture.specs.Area.{Places, IsArea, added}
use Rattle.rfb_picture.proofs.GridLaws.{at-filled, same_changes, width-changed, height-changed, whole-uniform}
use Rattle.rfb_picture.proofs.GridLaws.{width-uniform, height-uniform}
use Rattle.rfb_picture.proofs.AreaLaws.{area-added}
use Rattle.rfb_server.specs.Request.{wanted_at}
use Rattle.rfb_server.specs.session.Marks.{AreAlike}
use Rattle.rfb_server.specs.KnownScreen.{IsCaughtUp}
use Rattle.rfb_server.specs.Record.{forgotten}
use Rattle.rfb_server.specs.declared.session.Session.{Session}
use Rattle.rfb_server.specs.session.Sessions.{IsAskedFor}
use Rattle.rfb_server.proofs.KeptLemmas.{alike_sent}
use Rattle.rfb_server.proofs.MarksLemmas.{unmarked, contained}

-- a rectangle, and its part that lies in the grid, fill the same
filled_part : (g : Grid Bool) (rect part : Rect) → IsGrid g →
    ((x y : ℕ) → x < g.width → y < g.height → contains part x y ≡ contains rect x y) →
    filled part true g ≡ filled rect true g
filled_part g rect part whole same =
    same_changes (λ x y old. if contains part x y then true else old)
    (λ x y old. if contains rect x y then true else old) g whole
    (λ x y d p q. ap (λ (inside : Bool). if inside then true else at_or g x y d) (same x y p q))

abbrev places : Grid Bool → Grid Bool → Places
places asked whole = record { asked = asked; whole = whole }

-- so they ask for the same
pub added_part : (area : Places) (rect part : Rect) (whole : Bool) → IsArea area →
    ((x y : ℕ) → x < area.asked.width → y < area.asked.height → contains part x y ≡ contains rect x y) →
    added part whole area ≡ added rect whole area
added_part area rect part true sound same =
    both (filled_part area.asked rect part sound.asks same)
    (filled_part area.whole rect part sound.wholes (λ x y p q. same x y (rw (← sound.wide) p) (rw (← sound.high) q)))
  where
    both : {a b c d : Grid Bool} → a ≡ b → c ≡ d → places a c ≡ places b d
    both e f = rw (e, f) refl
added_part area rect part false sound same =
    ap (λ (asked : Grid Bool). places asked area.whole) (filled_part area.asked rect part sound.asks same)

-- what is asked for more is of the same places
pub alike_asked : (known : Grid (Option ℕ)) (area : Places) (marks : Grid Bool) (rect : Rect) (whole : Bool) →
    AreAlike known area marks → AreAlike known (added rect whole area) marks
alike_asked known area marks rect whole alike = record {
  known_whole = alike.known_whole;
  area_is = area-added rect whole area alike.area_is;
  marks_whole = alike.marks_whole;
  area_wide = width-changed _ area.asked ∙ alike.area_wide;
  area_high = height-changed _ area.asked ∙ alike.area_high;
  marks_wide = alike.marks_wide;
  marks_high = alike.marks_high;
  columns = alike.columns;
  rows = alike.rows;
}

-- places that are asked for and are not whole
pub caught_asked : (screen : Grid Colour) (known : Grid (Option ℕ)) (area : Places) (form : PixelFormat)
    (marks : Grid Bool) (rect : Rect) →
    IsCaughtUp screen known area form marks → IsCaughtUp screen known (added rect false area) form marks
caught_asked screen known area form marks rect caught = record { right = caught.right; not_whole = caught.not_whole }

-- and whole ones, which are marked
pub caught_whole : (screen : Grid Colour) (known : Grid (Option ℕ)) (area : Places) (form : PixelFormat)
    (marks : Grid Bool) (rect : Rect) →
    AreAlike known area marks →
    IsCaughtUp screen known area form marks →
    IsCaughtUp screen known (added rect true area) form (filled rect true marks)
caught_whole screen known area form marks rect alike caught = record { right = right; not_whole = not_whole }
  where
    was : (x y : ℕ) → x < (filled rect true marks).width → y < (filled rect true marks).height →
        is_in (filled rect true marks) x y ≡ false →
        (x < marks.width) × (y < marks.height) × (contains rect x y ≡ false) × (is_in marks x y ≡ false)
    was x y p q h =
        let p' : x < marks.width = rw (← width-changed (λ i j old. if contains rect i j then true else old) marks) p in
        let q' : y < marks.height =
        rw (← height-changed (λ i j old. if contains rect i j then true else old) marks) q in
        let both = unmarked marks rect x y alike.marks_whole p' q' h in
        (p', q', both.0, both.1)

    right : (x y : ℕ) → x < (filled rect true marks).width → y < (filled rect true marks).height →
        is_in (filled rect true marks) x y ≡ false →
        at_or known x y None ≡ Some (wanted_at screen form x y)
    right x y p q h = let w = was x y p q h in caught.right x y w.0 w.1 w.3

    not_whole : (x y : ℕ) → x < (filled rect true marks).width → y < (filled rect true marks).height →
        is_in (filled rect true marks) x y ≡ false →
        at_or (filled rect true area.whole) x y false ≡ false
    not_whole x y p q h =
        let w = was x y p q h in
        let wide : x < area.whole.width = rw (alike.area_is.wide, alike.area_wide, ← alike.marks_wide) w.0 in
        let high : y < area.whole.height = rw (alike.area_is.high, alike.area_high, ← alike.marks_high) w.1 in
        at-filled rect true area.whole x y false alike.area_is.wholes wide high
        ∙ (rw (w.2) (caught.not_whole x y w.0 w.1 w.3))

-- with all places marked nothing is said
pub all_marked : (marks : Grid Bool) (w h : ℕ) → IsGrid marks → marks.width ≡ w → marks.height ≡ h →
    (x y : ℕ) → x < (filled (record { x = 0; y = 0; w = w; h = h }) true marks).width →
    y < (filled (record { x = 0; y = 0; w = w; h = h }) true marks).height →
    is_in (filled (record { x = 0; y = 0; w = w; h = h }) true marks) x y ≡ true
all_marked marks w h whole wide high x y p q =
    let all : Rect = record { x = 0; y = 0; w = w; h = h } in
    let p' : x < marks.width = rw (← width-changed (λ i j old. if contains all i j then true else old) marks) p in
    let q' : y < marks.height = rw (← height-changed (λ i j old. if contains all i j then true else old) marks) q in
    let inside : contains all x y ≡ true = contained all x y (omega arith) (omega arith) (omega arith) (omega arith) in
    at-filled all true marks x y false whole p' q' ∙ (rw inside refl)

-- a session that forgets what it sent keeps its places
pub alike_forgotten : (known now : Grid (Option ℕ)) (area : Places) (marks : Grid Bool) →
    AreAlike known area marks → now ≡ forgotten known → AreAlike now area marks
alike_forgotten known now area marks alike e =
    rw e
    (alike_sent known _ area marks (whole-uniform _ _ _) (record {
      columns = sym (width-uniform known.width known.height _);
      rows = sym (height-uniform known.width known.height _);
    }) alike)

-- what was asked for a rectangle's part on the screen was asked for the rectangle
pub asked_part : (old new : Session) (rect part : Rect) (whole : Bool) →
    ((x y : ℕ) → x < old.known.width → y < old.known.height → contains part x y ≡ contains rect x y) →
    IsAskedFor part whole old new → IsAskedFor rect whole old new
asked_part old new rect part whole same asked = record {
  setting = asked.setting;
  known = asked.known;
  hints = asked.hints;
  area = asked.area ∙ added_part old.area rect part whole old.alike.area_is
      (λ x y p q. same x y (rw (← old.alike.area_wide) p) (rw (← old.alike.area_high) q));
  claim = asked.claim;
}
