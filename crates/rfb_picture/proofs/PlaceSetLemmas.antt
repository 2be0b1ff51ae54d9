-- What a set of places says of each place, from the marks of its places and of its cells.
use Rattle.std.proofs.Common.{ℕ, Bool, true, false, ◌≡◌, ◌/◌, ◌^◌, ◌<◌, ◌&&◌, ◌||◌, refl, sym, ◌∙◌, arith}
use Rattle.std.proofs.Common.{if◌then◌else◌}
use Rattle.std.proofs.lemmas.Bool.{both_ways}
use Rattle.std.proofs.lemmas.Bool.Decides.{nat_tests}
use Rattle.rfb_picture.specs.declared.rect.Rect.{Rect}
use Rattle.rfb_picture.specs.declared.place_set.layers.Layers.{Layers}
use Rattle.rfb_picture.specs.Rect.{contains}
use Rattle.rfb_picture.specs.Grid.{Grid, IsGrid, at_or, filled, uniform}
use Rattle.rfb_picture.specs.Box.{is_in}
use Rattle.rfb_picture.specs.CellOrder.{cells_in}
use Rattle.rfb_picture.specs.layout.Cells.{touched, IsOfCells}
use Rattle.rfb_picture.specs.layout.PlaceSet.{in_set, layered, AreNoted, IsLayers}
use Rattle.rfb_picture.proofs.GridLemmas.{width-changed, height-changed, whole-changed}
use Rattle.rfb_picture.proofs.GridLemmas.{whole-uniform, width-uniform, height-uniform, at-uniform, at-filled}
use Rattle.rfb_picture.proofs.PlaneLemmas.{whole-marked, at-marked, marked_is}

-- ---- places and their cells

-- the cell of a place is one
pub cell_below : (x w n : ℕ) → n ≡ cells_in w → x < w → x / 64 < n
cell_below x w n e p = omega arith

-- a grid that says the same of each place is what the marks say
pub layered_is : (l : Layers) (g : Grid Bool) →
    IsGrid g →
    g.width ≡ l.places.width →
    g.height ≡ l.places.height →
    ((x y : ℕ) (d : Bool) → x < l.places.width → y < l.places.height →
    in_set l x y ≡ at_or g x y d) →
    layered l ≡ g
layered_is l g whole wide high each =
    marked_is l.places.width l.places.height (in_set l) g whole wide high each

-- what the marks say of a place
pub at-layered : (l : Layers) (x y : ℕ) (d : Bool) →
    x < l.places.width → y < l.places.height → at_or (layered l) x y d ≡ in_set l x y
at-layered l x y d p q = at-marked l.places.width l.places.height (in_set l) x y d p q

-- what they say by those of its cell
pub at-cells : (l : Layers) (x y : ℕ) (full used : Bool) → x < l.places.width → y < l.places.height →
    is_in l.full (x / 64) (y / 64) ≡ full → is_in l.used (x / 64) (y / 64) ≡ used →
    at_or (layered l) x y false ≡ (full || (used && is_in l.places x y))
at-cells l x y full used p q f u = at-layered l x y false p q ∙ (rw (f, u) refl)

pub whole-layered : (l : Layers) → IsGrid (layered l)
whole-layered l = whole-marked l.places.width l.places.height (in_set l)

-- marks of the same sizes
pub same_sizes : (l m : Layers) →
    IsLayers l →
    m.places.width ≡ l.places.width →
    m.places.height ≡ l.places.height →
    m.full.width ≡ l.full.width →
    m.full.height ≡ l.full.height →
    m.used.width ≡ l.used.width →
    m.used.height ≡ l.used.height →
    m.noted.width ≡ l.noted.width →
    m.noted.height ≡ l.noted.height →
    IsGrid m.places →
    IsGrid m.full →
    IsGrid m.used →
    IsGrid m.noted →
    AreNoted m →
    IsLayers m
same_sizes l m sound a b c d e f g h places full used notes marks = record {
  narrow = rw a sound.narrow;
  low = rw b sound.low;
  all_places = places;
  all_full = full;
  all_used = used;
  all_noted = notes;
  full_wide = rw (c, a) sound.full_wide;
  full_high = rw (d, b) sound.full_high;
  used_wide = rw (e, a) sound.used_wide;
  used_high = rw (f, b) sound.used_high;
  noted_wide = rw (g, b) sound.noted_wide;
  noted_high = rw (h, a) sound.noted_high;
  marks_noted = marks;
}

-- ---- no place

pub uniform_none : (g : Grid Bool) (w h i j : ℕ) →
    g ≡ uniform w h false → i < w → j < h → is_in g i j ≡ false
uniform_none g w h i j e p q = rw e (at-uniform w h false i j false p q)

-- where no cell is full or used, the set has no place
pub layered-none : (l : Layers) →
    IsLayers l →
    ((i j : ℕ) → i < l.full.width → j < l.full.height → is_in l.full i j ≡ false) →
    ((i j : ℕ) → i < l.used.width → j < l.used.height → is_in l.used i j ≡ false) →
    layered l ≡ uniform l.places.width l.places.height false
layered-none l sound full used =
    layered_is l (uniform l.places.width l.places.height false) (whole-uniform _ _ _)
    (width-uniform _ _ _) (height-uniform _ _ _)
    (λ x y d p q.
    let f = full (x / 64) (y / 64) (cell_below x l.places.width l.full.width sound.full_wide p)
    (cell_below y l.places.height l.full.height sound.full_high q) in
    let u = used (x / 64) (y / 64) (cell_below x l.places.width l.used.width sound.used_wide p)
    (cell_below y l.places.height l.used.height sound.used_high q) in
    let none : in_set l x y ≡ false = rw (f, u) refl in
    none ∙ sym (at-uniform l.places.width l.places.height false x y d p q))

-- a new set has no mark
pub fresh_sizes : {w h i j : ℕ} {l : Layers} → w < 2 ^ 16 → h < 2 ^ 16 →
    i ≡ cells_in w → j ≡ cells_in h →
    l.places ≡ uniform w h false → l.full ≡ uniform i j false → l.used ≡ uniform i j false →
    l.noted ≡ uniform h i false → IsLayers l
fresh_sizes {w = w} {h = h} {i = i} {j = j} {l = l} narrow low wide high places full used noted = record {
  narrow = rw (places, width-uniform) narrow;
  low = rw (places, height-uniform) low;
  all_places = rw places (whole-uniform w h false);
  all_full = rw full (whole-uniform i j false);
  all_used = rw used (whole-uniform i j false);
  all_noted = rw noted (whole-uniform h i false);
  full_wide = rw (places, full, width-uniform, width-uniform) wide;
  full_high = rw (places, full, height-uniform, height-uniform) high;
  used_wide = rw (places, used, width-uniform, width-uniform) wide;
  used_high = rw (places, used, height-uniform, height-uniform) high;
  noted_wide = rw (places, noted, height-uniform, width-uniform) refl;
  noted_high = rw (places, noted, width-uniform, height-uniform) wide;
  marks_noted = λ x y p q e.
      let p1 : x < w = rw (places, width-uniform) at p in
      let q1 : y < h = rw (places, height-uniform) at q in
      absurd (both_ways (is_in l.places x y) (uniform_none l.places w h x y places p1 q1) e);
}

-- so it has no place
pub layered-fresh : (w h i j : ℕ) {l : Layers} → IsLayers l →
    l.places ≡ uniform w h false → l.full ≡ uniform i j false → l.used ≡ uniform i j false →
    layered l ≡ uniform w h false
layered-fresh w h i j {l = l} sound places full used =
    let full_width : l.full.width ≡ i = rw full (width-uniform i j false) in
    let full_height : l.full.height ≡ j = rw full (height-uniform i j false) in
    let used_width : l.used.width ≡ i = rw used (width-uniform i j false) in
    let used_height : l.used.height ≡ j = rw used (height-uniform i j false) in
    let width : l.places.width ≡ w = rw places (width-uniform w h false) in
    let height : l.places.height ≡ h = rw places (height-uniform w h false) in
    layered-none l sound
    (λ a b p q. uniform_none l.full i j a b full (rw full_width at p) (rw full_height at q))
    (λ a b p q. uniform_none l.used i j a b used (rw used_width at p) (rw used_height at q))
    ∙ (rw (width, height) refl)

-- ---- whole cells

or_if : (b f t : Bool) → ((if b then true else f) || t) ≡ (if b then true else (f || t))
or_if true f t = refl
or_if false f t = refl

-- with the cells of a rectangle that has all their places
pub layered-full : (l : Layers) (inner : Rect) →
    IsLayers l →
    0 < inner.w →
    0 < inner.h →
    IsOfCells inner.x inner.w l.places.width →
    IsOfCells inner.y inner.h l.places.height →
    layered
    (record {
      places = l.places;
      full = filled (touched inner) true l.full;
      used = l.used;
      noted = l.noted;
    })
    ≡ filled inner true (layered l)
layered-full l inner sound wide high columns rows =
    layered_is (record {
      places = l.places;
      full = filled (touched inner) true l.full;
      used = l.used;
      noted = l.noted;
    }) (filled inner true (layered l))
    (whole-changed _ (layered l) (whole-layered l))
    (width-changed _ (layered l))
    (height-changed _ (layered l))
    (λ x y d p q.
    let i = cell_below x l.places.width l.full.width sound.full_wide p in
    let j = cell_below y l.places.height l.full.height sound.full_high q in
    let column = columns wide x p in
    let row = rows high y q in
    let same : contains (touched inner) (x / 64) (y / 64) ≡ contains inner x y =
    grind (arith, nat_tests, column, row) in
    let there = at-filled (touched inner) true l.full (x / 64) (y / 64) false sound.all_full i j in
    let after = at-filled inner true (layered l) x y d (whole-layered l) p q in
    let was = at-layered l x y d p q in
    rw (there, same, or_if) (rw (← was) (sym after)))
