-- Drawings, one after another; and the screens of the test scene, row by row.
use Rattle.std.proofs.Common.{◌≡◌, ◌∙◌, ◌<◌, ◌+◌, ◌-◌, ap, sym, refl, subst, ℕ, List, length, nat_lt, if◌then◌else◌}
use Rattle.std.proofs.Common.{slice_index_or, arith, Bool, true, false, inl, inr}
use Rattle.std.proofs.lemmas.Bool.{cases_order}
use Rattle.std.proofs.lemmas.Bool.Decides.{nat_tests}
use Rattle.rfb_pixel.specs.declared.colour.Colour.{Colour}
use Rattle.rfb_picture.specs.declared.rect.Rect.{Rect}
use Rattle.rfb_picture.specs.Grid.{Grid, IsGrid, at_or, changed, copied, filled, with_row}
use Rattle.rfb_picture.specs.Rect.{contains, rect}
use Rattle.rfb_picture.proofs.GridLaws.{changed_is, changed_twice, height-changed, same_changes, width-changed}
use Rattle.rfb_codec.specs.Effect.{IsAlike}
use Rattle.rfb_server.specs.declared.server.Server.{Server}
use Rattle.rfb_server.specs.Model.{Draws, screen_of}
use Rattle.rfb.specs.Scene.{begun_at, last_row, moved_up, pattern, step_colour, stepped, upper_rows}

-- ---- drawings

pub draws_none : (server : Server) → Draws (screen_of server) server server
draws_none server = record {
  screen_is = refl;
  fault_is = refl;
  notes_are = refl;
  taken_is = refl;
  stands = λ serving s prefix stands. record {
    setup_is = stands.setup_is;
    limit_is = stands.limit_is;
    progress_is = stands.progress_is;
    screen_is = refl;
    known_is = stands.known_is;
    area_is = stands.area_is;
    form_is = stands.form_is;
    encodings_are = stands.encodings_are;
  };
}

pub draws_then : (one two : Grid Colour) (old mid new : Server) → Draws one old mid →
    Draws two mid new → Draws two old new
draws_then one two old mid new first second = record {
  screen_is = second.screen_is;
  fault_is = second.fault_is ∙ first.fault_is;
  notes_are = second.notes_are ∙ first.notes_are;
  taken_is = second.taken_is ∙ first.taken_is;
  stands = λ serving s prefix stands.
      second.stands serving _ prefix (first.stands serving s prefix stands);
}

pub draws_so : (one two : Grid Colour) (old new : Server) → one ≡ two → Draws one old new → Draws two old new
draws_so one two old new same draws = subst (λ (g : Grid Colour). Draws g old new) same draws

-- ---- the first screen

-- the first k rows of the pattern
abbrev pub begun_above : ℕ → ℕ → ℕ → Colour → Colour
begun_above k x y before = if nat_lt y k then begun_at x y else before

abbrev pub pattern_above : ℕ → Grid Colour → Grid Colour
pattern_above k old = changed (begun_above k) old

-- a change that changes nothing
pub no_change : (f : ℕ → ℕ → Colour → Colour) (g : Grid Colour) → IsGrid g →
    ((x y : ℕ) (d : Colour) → x < g.width → y < g.height → at_or g x y d ≡ f x y (at_or g x y d)) →
    g ≡ changed f g
no_change f g whole each = changed_is f g g.places whole refl each

pub above_none : (g : Grid Colour) → IsGrid g → g ≡ pattern_above 0 g
above_none g whole = no_change (begun_above 0) g whole
    (λ x y d p q. let out : nat_lt y 0 ≡ false = grind (arith, nat_tests) in rw out refl)

begun_more : (row : List Colour) (k w x y : ℕ) (d : Colour) → length row ≡ w → x < w →
    ((i : ℕ) (c : Colour) → i < length row → slice_index_or row i c ≡ begun_at i k) →
    (if contains (record { x = 0; y = k; w = length row; h = 1 }) x y
    then slice_index_or row (x - 0) (begun_above k x y d)
    else begun_above k x y d) ≡ begun_above (k + 1) x y d
begun_more row k w x y d size inside each =
    let one : Rect = record { x = 0; y = k; w = length row; h = 1 } in
    elim (cases_order y k) [
      | inl same ↦
          let within : contains one x y ≡ true = grind (arith, nat_tests) in
          let new : nat_lt y (k + 1) ≡ true = grind (arith, nat_tests) in
          let zero : x - 0 ≡ x = omega arith in
          rw (within, new, zero) (each x _ (omega arith) ∙ ap (begun_at x) (sym same))
      | inr (inl below) ↦
          let out : contains one x y ≡ false = grind (arith, nat_tests) in
          let old : nat_lt y k ≡ true = grind (arith, nat_tests) in
          let new : nat_lt y (k + 1) ≡ true = grind (arith, nat_tests) in
          rw (out, old, new) refl
      | inr (inr above) ↦
          let out : contains one x y ≡ false = grind (arith, nat_tests) in
          let old : nat_lt y k ≡ false = grind (arith, nat_tests) in
          let new : nat_lt y (k + 1) ≡ false = grind (arith, nat_tests) in
          rw (out, old, new) refl
    ]

pub above_more : (row : List Colour) (k : ℕ) (g : Grid Colour) → IsGrid g → length row ≡ g.width →
    ((i : ℕ) (c : Colour) → i < length row → slice_index_or row i c ≡ begun_at i k) →
    with_row 0 k row (pattern_above k g) ≡ pattern_above (k + 1) g
above_more row k g whole size each =
    changed_twice (begun_above k) _ g
    ∙ same_changes _ (begun_above (k + 1)) g whole
    (λ x y d p q. begun_more row k g.width x y (at_or g x y d) size p each)

pub above_all : (g : Grid Colour) → IsGrid g → pattern_above g.height g ≡ pattern g
above_all g whole =
    same_changes (begun_above g.height) (λ x y before. begun_at x y) g whole
    (λ x y d p q. let under : nat_lt y g.height ≡ true = grind (arith, nat_tests) in rw under refl)

-- ---- a screen without rows

pub no_rows : (f : ℕ → ℕ → Colour → Colour) (g : Grid Colour) → IsGrid g → g.height ≡ 0 → changed f g ≡ g
no_rows f g whole none = sym (no_change f g whole (λ x y d p q. absurd (omega arith)))

-- ---- a step

pub size_drawn : (f : ℕ → ℕ → Colour → Colour) (old new : Server) → Draws (changed f (screen_of old)) old new →
    ((screen_of new).width ≡ (screen_of old).width) × ((screen_of new).height ≡ (screen_of old).height)
size_drawn f old new draws = (
  ap (λ (g : Grid Colour). g.width) draws.screen_is ∙ width-changed f (screen_of old),
  ap (λ (g : Grid Colour). g.height) draws.screen_is ∙ height-changed f (screen_of old),
)

pub moved_up_is : (g : Grid Colour) (w above : ℕ) → w ≡ g.width → above + 1 ≡ g.height → 0 < above →
    copied (rect 0 0 w above) 0 1 g ≡ moved_up g
moved_up_is g w above columns rows some =
    let tall : nat_lt 1 g.height ≡ true = grind (arith, nat_tests) in
    let size : above ≡ g.height - 1 = omega arith in
    rw (tall, columns, size) refl

size_either : (b : Bool) (one two g : Grid Colour) → IsAlike one g → IsAlike two g → IsAlike (if b then one else two) g
size_either true one two g first second = first
size_either false one two g first second = second

pub size_moved_up : (g : Grid Colour) → IsAlike (moved_up g) g
size_moved_up g =
    size_either (nat_lt 1 g.height) (copied (upper_rows g) 0 1 g) g g
    (record { columns = width-changed _ g; rows = height-changed _ g })
    (record { columns = refl; rows = refl })

pub stepped_is : (g mid : Grid Colour) (last : Rect) (colour : Colour) (n : ℕ) → mid ≡ moved_up g → last ≡ last_row g →
    colour ≡ step_colour n → filled last colour mid ≡ stepped n g
stepped_is g mid last colour n is row paint = rw (is, row, paint) refl

pub size_stepped : (n : ℕ) (g now : Grid Colour) → now ≡ stepped n g → IsAlike now g
size_stepped n g now is =
    let alike = size_moved_up g in
    record {
      columns = ap (λ (k : Grid Colour). k.width) is ∙ width-changed _ (moved_up g) ∙ alike.columns;
      rows = ap (λ (k : Grid Colour). k.height) is ∙ height-changed _ (moved_up g) ∙ alike.rows;
    }

-- a step of a screen without rows
pub stepped_empty : (n : ℕ) (g : Grid Colour) → IsGrid g → g.height ≡ 0 → g ≡ stepped n g
stepped_empty n g whole none =
    let short : nat_lt 1 g.height ≡ false = grind (arith, nat_tests) in
    rw short (sym (no_rows _ g whole none))
