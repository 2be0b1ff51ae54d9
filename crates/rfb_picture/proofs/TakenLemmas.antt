-- What a set has after places of another were taken away, by cells.
use Rattle.std.proofs.Common.{ℕ, Bool, true, false, ◌≡◌, ◌/◌, ◌<◌}
use Rattle.std.proofs.Common.{◌&&◌, ◌||◌, not, refl, sym, ◌∙◌, arith}
use Rattle.std.proofs.Common.{nat_eq, inl, inr}
use Rattle.std.proofs.lemmas.Bool.{and_parts, false_from_ne_true}
use Rattle.std.proofs.lemmas.Bool.Decides.{nat_tests}
use Rattle.rfb_picture.specs.declared.rect.Rect.{Rect}
use Rattle.rfb_picture.specs.declared.place_set.layers.Layers.{Layers}
use Rattle.rfb_picture.specs.Rect.{contains}
use Rattle.rfb_picture.specs.Grid.{filled}
use Rattle.rfb_picture.specs.Box.{is_in}
use Rattle.rfb_picture.specs.Places.{without}
use Rattle.rfb_picture.specs.layout.Marks.{without_in}
use Rattle.rfb_picture.specs.layout.Cells.{cell_at, one_cell, zone_of}
use Rattle.rfb_picture.specs.layout.PlaceSet.{in_set, layered, IsLayers, AreAlike, IsSpread, HasLost}
use Rattle.rfb_picture.specs.layout.PlaceSet.{notes_of, with_marks}
use Rattle.rfb_picture.proofs.GridLemmas.{contains_true, contains_row, width-changed, height-changed, whole-changed}
use Rattle.rfb_picture.proofs.GridLemmas.{at-changed, at-filled}
use Rattle.rfb_picture.proofs.WordLemmas.{cases_place}
use Rattle.rfb_picture.proofs.TakenWordLemmas.{and_true}
use Rattle.rfb_picture.proofs.PlaceSetLemmas.{cell_below, layered_is, at-layered, whole-layered, same_sizes}
use Rattle.rfb_picture.proofs.NotedLemmas.{sound-marked}

-- ---- one cell

-- a cell's places
pub in_cell : (x y column row : ℕ) → x / 64 ≡ column → y / 64 ≡ row →
    contains (cell_at column row) x y ≡ true
in_cell x y column row e f =
    contains_row (cell_at column row) x y (omega arith) (omega arith) (omega arith) (omega arith)

-- and those of others
pub not_in_cell : (x y column row : ℕ) → (x / 64 ≡ column → y / 64 ≡ row → ⊥) →
    contains (cell_at column row) x y ≡ false
not_in_cell x y column row apart =
    false_from_ne_true (contains (cell_at column row) x y)
    (λ e. let (x0, x1, y0, y1) = contains_true (cell_at column row) x y e in apart (omega arith) (omega arith))

-- the cell itself among cells
in_one : (i j column row : ℕ) → i ≡ column → j ≡ row → contains (one_cell column row) i j ≡ true
in_one i j column row e f =
    contains_row (one_cell column row) i j (omega arith) (omega arith) (omega arith) (omega arith)

not_in_one : (i j column row : ℕ) → (i ≡ column → j ≡ row → ⊥) →
    contains (one_cell column row) i j ≡ false
not_in_one i j column row apart =
    false_from_ne_true (contains (one_cell column row) i j)
    (λ e. let (x0, x1, y0, y1) = contains_true (one_cell column row) i j e in apart (omega arith) (omega arith))

-- a cell of the set is held by its marks, after which it loses those of the other
pub cell_lost : (column row : ℕ) (other old mid : Layers) →
    IsLayers other →
    AreAlike old other →
    IsSpread column row old mid →
    is_in other.full column row ≡ false →
    is_in other.used column row ≡ true →
    is_in mid.used column row ≡ true →
    HasLost (λ i j. nat_eq i column && nat_eq j row) other old
    (record {
      places = without_in (cell_at column row) other.places mid.places;
      full = mid.full;
      used = mid.used;
      noted = mid.noted;
    })
cell_lost column row other old mid sound alike spread no_full used own =
    let new : Layers =
    record {
      places = without_in (cell_at column row) other.places mid.places;
      full = mid.full;
      used = mid.used;
      noted = mid.noted;
    } in
    let wide = width-changed
    (λ x y was. was && not (contains (cell_at column row) x y && is_in other.places x y))
    mid.places in
    let high = height-changed
    (λ x y was. was && not (contains (cell_at column row) x y && is_in other.places x y))
    mid.places in
    record {
      sound = same_sizes mid new spread.sound wide high refl refl refl refl refl refl
          (whole-changed _ mid.places spread.sound.all_places) spread.sound.all_full
          spread.sound.all_used spread.sound.all_noted
          (λ x y p0 q0 e.
          let p : x < mid.places.width = rw wide at p0 in
          let q : y < mid.places.height = rw high at q0 in
          let there = at-changed
          (λ x y was. was && not (contains (cell_at column row) x y && is_in other.places x y))
          mid.places x y false spread.sound.all_places p q in
          spread.sound.marks_noted x y p q (and_parts (is_in mid.places x y) _ (sym there ∙ e)).0);
      alike = (wide ∙ spread.alike.0, high ∙ spread.alike.1);
      each = λ x y p q.
          let p1 : x < mid.places.width = rw spread.alike.0 p in
          let q1 : y < mid.places.height = rw spread.alike.1 q in
          let there = at-changed
          (λ x y was. was && not (contains (cell_at column row) x y && is_in other.places x y))
          mid.places x y false spread.sound.all_places p1 q1 in
          let was = spread.same x y p q in
          elim (cases_place (x / 64) column (y / 64) row) [
            | inl same ↦
                let e = same.0 in
                let f = same.1 in
                let inside = in_cell x y column row e f in
                let none : is_in mid.full (x / 64) (y / 64) ≡ false = rw (e, f) spread.parted in
                let some : is_in mid.used (x / 64) (y / 64) ≡ true = rw (e, f) own in
                let other_none : is_in other.full (x / 64) (y / 64) ≡ false = rw (e, f) no_full in
                let other_some : is_in other.used (x / 64) (y / 64) ≡ true = rw (e, f) used in
                let test : (nat_eq (x / 64) column && nat_eq (y / 64) row) ≡ true =
                grind (arith, nat_tests) in
                let before : in_set old x y ≡ is_in mid.places x y =
                sym was ∙ (rw (none, some) refl) in
                rw (there, none, some, inside, other_none, other_some, test, before) refl
            | inr apart ↦
                let outside = not_in_cell x y column row apart in
                let test : (nat_eq (x / 64) column && nat_eq (y / 64) row) ≡ false =
                grind (arith, nat_tests) in
                rw (there, outside, test, and_true, and_true) was
          ];
    }

-- ---- a cell that was whole

-- marks of all its places in place of the cell's
pub spread_full : (column row : ℕ) (l : Layers) (part : Rect) →
    IsLayers l →
    column < l.full.width →
    row < l.full.height →
    is_in l.full column row ≡ true →
    ((x y : ℕ) → x < l.places.width → y < l.places.height →
    contains part x y ≡ contains (cell_at column row) x y) →
    IsSpread column row l
    (record {
      places = filled part true l.places;
      full = filled (one_cell column row) false l.full;
      used = filled (one_cell column row) true l.used;
      noted = filled (notes_of part) true l.noted;
    })
spread_full column row l part sound p q full same_part =
    let new : Layers =
    record {
      places = filled part true l.places;
      full = filled (one_cell column row) false l.full;
      used = filled (one_cell column row) true l.used;
      noted = filled (notes_of part) true l.noted;
    } in
    let marked = sound-marked l part sound in
    record {
      sound = same_sizes (with_marks part l) new marked refl refl (width-changed _ l.full)
          (height-changed _ l.full) (width-changed _ l.used) (height-changed _ l.used) refl refl
          marked.all_places (whole-changed _ l.full sound.all_full)
          (whole-changed _ l.used sound.all_used) marked.all_noted marked.marks_noted;
      alike = (width-changed _ l.places, height-changed _ l.places);
      same = λ x y a b.
          let i = cell_below x l.places.width l.full.width sound.full_wide a in
          let j = cell_below y l.places.height l.full.height sound.full_high b in
          let i1 = cell_below x l.places.width l.used.width sound.used_wide a in
          let j1 = cell_below y l.places.height l.used.height sound.used_high b in
          let f = at-filled (one_cell column row) false l.full (x / 64) (y / 64) false
          sound.all_full i j in
          let u = at-filled (one_cell column row) true l.used (x / 64) (y / 64) false sound.all_used
          i1 j1 in
          let m = at-filled part true l.places x y false sound.all_places a b in
          elim (cases_place (x / 64) column (y / 64) row) [
            | inl same ↦
                let e = same.0 in
                let g = same.1 in
                let one = in_one (x / 64) (y / 64) column row e g in
                let inside : contains part x y ≡ true =
                same_part x y a b ∙ in_cell x y column row e g in
                let was : is_in l.full (x / 64) (y / 64) ≡ true = rw (e, g) full in
                rw (f, u, m, one, inside, was) refl
            | inr apart ↦
                let one = not_in_one (x / 64) (y / 64) column row apart in
                let outside : contains part x y ≡ false =
                same_part x y a b ∙ not_in_cell x y column row apart in
                rw (f, u, m, one, outside) refl
          ];
      parted =
          at-filled (one_cell column row) false l.full column row false sound.all_full p q
          ∙ (rw (in_one column row column row refl refl) refl);
    }

-- the part of all places that are a cell's
pub cell_part : (width height column row x y : ℕ) →
    x < width →
    y < height →
    contains (zone_of width height column row) x y ≡ contains (cell_at column row) x y
cell_part width height column row x y p q = grind (arith, nat_tests)

-- ---- the whole set

all_lost : (f u p of ou op s : Bool) →
    (f || (u && p)) ≡ (s && not (true && (not of && (ou && op)))) →
    ((f && not of) || ((u && not of) && p)) ≡ (s && not (of || (ou && op)))
all_lost f u p true ou op s e = rw (and_no f, and_no u, and_no s) refl
  where
    and_no : (b : Bool) → (b && false) ≡ false
    and_no true = refl
    and_no false = refl
all_lost f u p false ou op s e = rw (and_true f, and_true u) e

-- the marks of a set without the cells that another has whole
abbrev less_whole : Layers → Layers → Layers
less_whole other mid = record {
  places = mid.places;
  full = without other.full mid.full;
  used = without other.full mid.used;
  noted = mid.noted;
}

-- without the places of cells that the other set has whole, all its places are gone
pub layered-without : (other old mid : Layers) →
    IsLayers other →
    IsLayers old →
    AreAlike old other →
    HasLost (λ _ _. true) other old mid →
    layered (less_whole other mid) ≡ without (layered other) (layered old)
layered-without other old mid sound_other sound alike lost =
    layered_is (less_whole other mid) (without (layered other) (layered old))
    (whole-changed _ (layered old) (whole-layered old))
    (width-changed _ (layered old) ∙ sym lost.alike.0)
    (height-changed _ (layered old) ∙ sym lost.alike.1)
    (λ x y d p1 q1.
    let p = rw (lost.alike.0) at p1 in
    let q = rw (lost.alike.1) at q1 in
    let after = at-changed (λ x y was. was && not (is_in (layered other) x y)) (layered old) x y d
    (whole-layered old) p q in
    let was = at-layered old x y d p q in
    let there = at-layered other x y false (rw (← alike.0) p) (rw (← alike.1) q) in
    let i = cell_below x mid.places.width mid.full.width lost.sound.full_wide p1 in
    let j = cell_below y mid.places.height mid.full.height lost.sound.full_high q1 in
    let i1 = cell_below x mid.places.width mid.used.width lost.sound.used_wide p1 in
    let j1 = cell_below y mid.places.height mid.used.height lost.sound.used_high q1 in
    let f = at-changed (λ x y old. old && not (is_in other.full x y)) mid.full (x / 64) (y / 64)
    false lost.sound.all_full i j in
    let u = at-changed (λ x y old. old && not (is_in other.full x y)) mid.used (x / 64) (y / 64)
    false lost.sound.all_used i1 j1 in
    rw (f, u)
    (all_lost (is_in mid.full (x / 64) (y / 64)) (is_in mid.used (x / 64) (y / 64))
    (is_in mid.places x y) (is_in other.full (x / 64) (y / 64))
    (is_in other.used (x / 64) (y / 64)) (is_in other.places x y) (in_set old x y)
    (lost.each x y p q)
    ∙ (rw (← there, ← was) (sym after))))

-- which keeps its sizes
pub sound-without : (other mid : Layers) →
    IsLayers mid → IsLayers (less_whole other mid)
sound-without other mid sound =
    same_sizes mid (less_whole other mid) sound refl refl (width-changed _ mid.full)
    (height-changed _ mid.full) (width-changed _ mid.used) (height-changed _ mid.used) refl refl
    sound.all_places (whole-changed _ mid.full sound.all_full)
    (whole-changed _ mid.used sound.all_used) sound.all_noted sound.marks_noted
