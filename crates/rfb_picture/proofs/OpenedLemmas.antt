-- What a set says of each place once cells of it were opened, and places marked in them.
use Rattle.std.proofs.Common.{ℕ, Bool, true, false, ◌≡◌, ◌/◌, ◌<◌}
use Rattle.std.proofs.Common.{◌&&◌, ◌||◌, refl, sym, ◌∙◌, arith}
use Rattle.std.proofs.Common.{if◌then◌else◌, inl, inr}
use Rattle.std.proofs.lemmas.Bool.{cases_Bool, false≢true}
use Rattle.std.proofs.lemmas.Bool.Decides.{nat_tests}
use Rattle.rfb_picture.specs.declared.rect.Rect.{Rect}
use Rattle.rfb_picture.specs.declared.place_set.layers.Layers.{Layers}
use Rattle.rfb_picture.specs.Rect.{contains}
use Rattle.rfb_picture.specs.Grid.{filled}
use Rattle.rfb_picture.specs.Box.{is_in}
use Rattle.rfb_picture.specs.layout.Cells.{cell_at, one_cell, touched, word_places}
use Rattle.rfb_picture.specs.layout.PlaceSet.{in_set, layered, with_marks, without_marks, IsLayers, IsOpened}
use Rattle.rfb_picture.proofs.GridLemmas.{contains_true, width-changed, height-changed, whole-changed, at-filled}
use Rattle.rfb_picture.proofs.PlaceSetLemmas.{cell_below, layered_is, at-layered, whole-layered, same_sizes}
use Rattle.rfb_picture.proofs.NotedLemmas.{touched_cell, sound-cleared}

-- a place's mark counts in an open cell
open_mark : (f u p m was : Bool) →
    (f || u) ≡ true → (f || (u && p)) ≡ was →
    (f || (u && (if m then true else p))) ≡ (if m then true else was)
open_mark true u p true was o e = refl
open_mark false true p true was o e = refl
open_mark false false p true was o e = absurd (false≢true o)
open_mark f u p false was o e = e

unmarked : (f u p m was : Bool) →
    m ≡ false → (f || (u && p)) ≡ was →
    (f || (u && (if m then true else p))) ≡ (if m then true else was)
unmarked f u p m was e is = rw e is

-- with the marks of a rectangle's places, in cells that were opened
pub layered-part : (old new : Layers) (part : Rect) →
    IsLayers old →
    IsOpened (touched part) old new →
    layered (with_marks part new) ≡ filled part true (layered old)
layered-part old new part sound opens =
    layered_is (with_marks part new) (filled part true (layered old))
    (whole-changed _ (layered old) (whole-layered old))
    (width-changed _ (layered old) ∙ (sym opens.wide ∙ sym (width-changed _ new.places)))
    (height-changed _ (layered old) ∙ (sym opens.high ∙ sym (height-changed _ new.places)))
    (λ x y d p0 q0.
    let p1 : x < new.places.width = rw width-changed at p0 in
    let q1 : y < new.places.height = rw height-changed at q0 in
    let p = rw (opens.wide) at p1 in
    let q = rw (opens.high) at q1 in
    let there = at-filled part true new.places x y false opens.sound.all_places p1 q1 in
    let after = at-filled part true (layered old) x y d (whole-layered old) p q in
    let was = at-layered old x y d p q in
    let i = cell_below x old.places.width old.full.width sound.full_wide p in
    let j = cell_below y old.places.height old.full.height sound.full_high q in
    let f = is_in new.full (x / 64) (y / 64) in
    let u = is_in new.used (x / 64) (y / 64) in
    let m = is_in new.places x y in
    let step : (f || (u && (if contains part x y then true else m)))
    ≡ (if contains part x y then true else in_set old x y) =
    elim (cases_Bool (contains part x y)) [
      | inl e ↦ open_mark f u m (contains part x y) (in_set old x y)
          (opens.opened (x / 64) (y / 64) i j (touched_cell part x y e)) (opens.same x y p q)
      | inr e ↦ unmarked f u m (contains part x y) (in_set old x y) e (opens.same x y p q)
    ] in
    rw there (step ∙ (rw (← was) (sym after))))

-- a cell whose marks did not count says nothing until they are cleared
opened_mark : (b f u p : Bool) → (b ≡ true → f ≡ false) → (b ≡ true → u ≡ false) →
    (f || ((if b then true else u) && (if b then false else p))) ≡ (f || (u && p))
opened_mark true f u p no_f no_u = rw (no_f refl, no_u refl) refl
opened_mark false f u p no_f no_u = refl

-- a cell that was open stays so
still_open : (b f u : Bool) → (f || u) ≡ true → (f || (if b then true else u)) ≡ true
still_open true true u o = refl
still_open true false u o = refl
still_open false f u o = o

now_open : (b f u : Bool) → b ≡ true → (f || (if b then true else u)) ≡ true
now_open b true u e = refl
now_open b false u e = rw e refl

-- one cell was opened, which was neither full nor used
pub opened_cell : (l : Layers) (column row : ℕ) →
    IsLayers l →
    column < l.full.width →
    row < l.full.height →
    is_in l.full column row ≡ false →
    is_in l.used column row ≡ false →
    IsOpened (one_cell column row) l
    (record {
      places = filled (cell_at column row) false l.places;
      full = l.full;
      used = filled (one_cell column row) true l.used;
      noted = filled (word_places row column) false l.noted;
    })
opened_cell l column row sound p q no_full no_used =
    let new : Layers =
    record {
      places = filled (cell_at column row) false l.places;
      full = l.full;
      used = filled (one_cell column row) true l.used;
      noted = filled (word_places row column) false l.noted;
    } in
    let cleared = sound-cleared l column row sound in
    let used_at : (i j : ℕ) → i < l.full.width → j < l.full.height →
    is_in new.used i j
    ≡ (if contains (one_cell column row) i j then true else is_in l.used i j) =
    λ i j a b.
    let a1 : i < l.used.width = rw (sound.used_wide, ← sound.full_wide) a in
    let b1 : j < l.used.height = rw (sound.used_high, ← sound.full_high) b in
    at-filled (one_cell column row) true l.used i j false sound.all_used a1 b1 in
    record {
      sound = same_sizes (without_marks column row l) new cleared refl refl refl refl
          (width-changed _ l.used) (height-changed _ l.used) refl refl cleared.all_places
          sound.all_full (whole-changed _ l.used sound.all_used) cleared.all_noted
          cleared.marks_noted;
      wide = width-changed _ l.places;
      high = height-changed _ l.places;
      same_full = refl;
      same = λ x y a b.
          let i = cell_below x l.places.width l.full.width sound.full_wide a in
          let j = cell_below y l.places.height l.full.height sound.full_high b in
          let there = at-filled (cell_at column row) false l.places x y false sound.all_places a
          b in
          let cell : contains (cell_at column row) x y
          ≡ contains (one_cell column row) (x / 64) (y / 64) = grind (arith, nat_tests) in
          let is : contains (one_cell column row) (x / 64) (y / 64) ≡ true →
          (x / 64 ≡ column) × (y / 64 ≡ row) =
          λ c. let (c0, c1, c2, c3) = contains_true (one_cell column row) (x / 64) (y / 64) c in
          (omega arith, omega arith) in
          rw (used_at (x / 64) (y / 64) i j, there, cell)
          (opened_mark (contains (one_cell column row) (x / 64) (y / 64)) _ _ _
          (λ c. let e = is c in rw (e.0, e.1) no_full)
          (λ c. let e = is c in rw (e.0, e.1) no_used));
      kept = λ i j a b o.
          rw (used_at i j a b) (still_open (contains (one_cell column row) i j) _ _ o);
      opened = λ i j a b c.
          rw (used_at i j a b) (now_open (contains (one_cell column row) i j) _ _ c);
    }
