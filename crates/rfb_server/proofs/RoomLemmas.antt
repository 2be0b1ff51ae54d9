-- Room for the rectangles of an update, cell by cell.
use Rattle.std.proofs.Common.{◌≡◌, ℕ, zero, suc, ◌+◌, ◌-◌, ◌*◌, ◌<◌, ◌≤◌, ◌&&◌, Bool, true, false, nat_eq, nat_lt}
use Rattle.std.proofs.Common.{Option, Some, None, is_some, if◌then◌else◌, refl, ap, subst, ◌∙◌, arith, inl, inr}
use Rattle.std.proofs.Common.{add-one}
use Rattle.std.specs.Int.{div_ceil}
use Rattle.std.proofs.lemmas.Bool.{cases_eq, cases_lt, both_ways}
use Rattle.std.proofs.lemmas.Bool.Decides.{nat_tests}
use Rattle.std.proofs.Math.Nat.{mul-le-mul_right, mul-le-mul_left}
use Rattle.rfb_server.specs.Room.{GrowsWithin, sum_below, some_below, has_asked, cell_room}
use Rattle.rfb_pixel.specs.Format.{PixelFormat, size_of}
use Rattle.rfb_picture.specs.declared.rect.Rect.{Rect}
use Rattle.rfb_picture.specs.Rect.{contains}
use Rattle.rfb_picture.specs.Area.{Places, asked_at}
use Rattle.rfb_picture.specs.Box.{IsTight, IsClear, IsBox, HasBox, is_in}
use Rattle.rfb_picture.specs.Grid.{Grid}
use Rattle.rfb_picture.proofs.GridLaws.{contains_true, contains_row}
use Rattle.rfb_server.specs.Cells.{cell_of, IsCell}
use Rattle.rfb_server.specs.update.Sends.{IsCost, AreCosts, may_need}

-- ---- sums

pub sum_same : (f g : ℕ → ℕ) (n : ℕ) → ((i : ℕ) → i < n → f i ≡ g i) → sum_below f n ≡ sum_below g n
sum_same f g zero same = refl
sum_same f g (suc n) same = rw (sum_same f g n (λ i l. same i (omega arith)), same n (omega arith)) refl

pub sum_more : (cost : ℕ → ℕ) (n : ℕ) → sum_below cost (n + 1) ≡ sum_below cost n + cost n
sum_more cost n = ap (sum_below cost) (add-one n)

-- a sum of more is no less
pub sum_order : (cost : ℕ → ℕ) (n m : ℕ) → n ≤ m → sum_below cost n ≤ sum_below cost m
sum_order cost n zero l = let e : n ≡ 0 = omega arith in rw e (omega arith)
sum_order cost n (suc m) l =
    elim (cases_eq n (suc m)) [
      | inl e ↦ rw e (omega arith)
      | inr other ↦ omega (arith, sum_order cost n m (omega arith))
    ]

-- ---- costs

-- the cost of one cell more
abbrev pub with_cost : ℕ → ℕ → (ℕ → ℕ) → ℕ → ℕ
with_cost n c cost i = if nat_eq i n then c else cost i

with_here : (n c : ℕ) (cost : ℕ → ℕ) → with_cost n c cost n ≡ c
with_here n c cost = grind (arith, nat_tests)

with_other : (n c : ℕ) (cost : ℕ → ℕ) (i : ℕ) → i < n → with_cost n c cost i ≡ cost i
with_other n c cost i l = grind (arith, nat_tests)

pub sum_with : (n c : ℕ) (cost : ℕ → ℕ) → sum_below (with_cost n c cost) (n + 1) ≡ sum_below cost n + c
sum_with n c cost =
    sum_more (with_cost n c cost) n
    ∙ (rw (sum_same (with_cost n c cost) cost n (with_other n c cost), with_here n c cost) refl)

-- the costs of the first cells, and none of the others
abbrev pub cut : ℕ → (ℕ → ℕ) → ℕ → ℕ
cut n cost i = if nat_lt i n then cost i else 0

cut_before : (n : ℕ) (cost : ℕ → ℕ) (i : ℕ) → i < n → cut n cost i ≡ cost i
cut_before n cost i l = grind (arith, nat_tests)

cut_after : (n : ℕ) (cost : ℕ → ℕ) (i : ℕ) → n ≤ i → cut n cost i ≡ 0
cut_after n cost i l = grind (arith, nat_tests)

pub sum_cut : (n m : ℕ) (cost : ℕ → ℕ) → n ≤ m → sum_below (cut n cost) m ≡ sum_below cost n
sum_cut n zero cost l = let e : n ≡ 0 = omega arith in rw e refl
sum_cut n (suc m) cost l =
    elim (cases_eq n (suc m)) [
      | inl e ↦ subst (λ (k : ℕ). sum_below (cut n cost) k ≡ sum_below cost n) e
          (sum_same (cut n cost) cost n (cut_before n cost))
      | inr other ↦
          let rest = sum_cut n m cost (omega arith) in
          let none = cut_after n cost m (omega arith) in
          omega (arith, rest, none)
    ]

module _ (width height across : ℕ) (p : ℕ → ℕ → Bool) (form : PixelFormat) where
  pub costs_none : (cost : ℕ → ℕ) → AreCosts width height across p form 0 cost
  costs_none cost = λ i cell l is. absurd (omega arith)

  pub costs_more : (n c : ℕ) (cost : ℕ → ℕ) → AreCosts width height across p form n cost →
      ((cell : Rect) → IsCell width height across n cell → IsCost p form cell c) →
      AreCosts width height across p form (n + 1) (with_cost n c cost)
  costs_more n c cost before here = λ i cell l is.
      elim (cases_eq i n) [
        | inl e ↦
            let is' : IsCell width height across n cell = subst (λ (k : ℕ). IsCell width height across k cell) e is in
            let same : with_cost n c cost i ≡ c = rw e (with_here n c cost) in
            rw same (here cell is')
        | inr other ↦
            let same : with_cost n c cost i ≡ cost i = with_other n c cost i (omega arith) in
            rw same (before i cell (omega arith) is)
      ]

  -- cells without such a place cost nothing
  pub costs_skip : (n m : ℕ) (cost : ℕ → ℕ) → AreCosts width height across p form n cost →
      ((x y : ℕ) → x < width → y < height → n ≤ cell_of across x y → cell_of across x y < m → p x y ≡ false) →
      AreCosts width height across p form m (cut n cost)
  costs_skip n m cost before none = λ i cell l is.
      elim (cases_lt i n) [
        | inl less ↦ rw (cut_before n cost i less) (before i cell less is)
        | inr more ↦
            rw (cut_after n cost i more)
            (λ r tight a b c d.
            let (j, inside, e) = tight.left in
            let (x0, x1, y0, y1) = contains_true r r.x j inside in
            let there : contains cell r.x j ≡ true =
            contains_row cell r.x j (omega arith) (omega arith) (omega arith) (omega arith) in
            let of_cell : cell_of across r.x j ≡ i = is.inside r.x j there in
            absurd (both_ways (p r.x j)
            (none r.x j (omega (arith, is.held)) (omega (arith, is.held)) (omega arith) (omega arith)) e))
      ]

  -- an edge of a rectangle in a cell is a place of the cell
  edge : (n : ℕ) (cell other r : Rect) (x y : ℕ) → IsCell width height across n cell →
      IsCell width height across n other →
      cell.x ≤ r.x → r.x + r.w ≤ cell.x + cell.w → cell.y ≤ r.y → r.y + r.h ≤ cell.y + cell.h →
      contains r x y ≡ true → contains other x y ≡ true
  edge n cell other r x y is that a b d e c =
      let (x0, x1, y0, y1) = contains_true r x y c in
      let there : contains cell x y ≡ true =
      contains_row cell x y (omega arith) (omega arith) (omega arith) (omega arith) in
      let (f, g, h, i) = contains_true cell x y there in
      that.all x y (omega (arith, is.held)) (omega (arith, is.held)) (is.inside x y there)

  -- a rectangle whose edges have such a place is no larger than the cell that it lies in
  in_cell : (n : ℕ) (other cell r : Rect) → IsCell width height across n other → IsCell width height across n cell →
      IsTight p r → cell.x ≤ r.x → r.x + r.w ≤ cell.x + cell.w → cell.y ≤ r.y → r.y + r.h ≤ cell.y + cell.h →
      (r.w ≤ other.w) × (r.h ≤ other.h)
  in_cell n other cell r that is tight a b c d =
      let (j0, c0, m0) = tight.left in
      let (j1, c1, m1) = tight.right in
      let (i2, c2, m2) = tight.top in
      let (i3, c3, m3) = tight.bottom in
      let l = contains_true other r.x j0 (edge n cell other r r.x j0 is that a b c d c0) in
      let g = contains_true other (r.x + r.w - 1) j1 (edge n cell other r (r.x + r.w - 1) j1 is that a b c d c1) in
      let t = contains_true other i2 r.y (edge n cell other r i2 r.y is that a b c d c2) in
      let u = contains_true other i3 (r.y + r.h - 1) (edge n cell other r i3 (r.y + r.h - 1) is that a b c d c3) in
      (omega (arith, l, g), omega (arith, t, u))

  pub cost_cell : (n : ℕ) (other cell : Rect) → IsCell width height across n other → IsCell width height across n cell →
      IsCost p form cell (12 + other.h * other.w * size_of form)
  cost_cell n other cell that is = λ r tight a b c d.
      let (w, h) = in_cell n other cell r that is tight a b c d in
      let rows : r.h * r.w ≤ other.h * r.w = mul-le-mul_right r.w h in
      let columns : other.h * r.w ≤ other.h * other.w = mul-le-mul_left other.h w in
      let all : r.h * r.w ≤ other.h * other.w = omega arith in
      let bytes : r.h * r.w * size_of form ≤ other.h * other.w * size_of form = mul-le-mul_right (size_of form) all in
      omega arith

  -- a cell in which no place is such costs nothing, so any number is enough
  pub cost_nothing : (cost n : ℕ) (other cell : Rect) → IsCell width height across n other →
      IsCell width height across n cell →
      IsClear p other.x (other.x + other.w) other.y (other.y + other.h) → IsCost p form cell cost
  cost_nothing cost n other cell that is none = λ r tight a b c d.
      let (j, inside, here) = tight.left in
      let (x0, x1, y0, y1) = contains_true other r.x j (edge n cell other r r.x j is that a b c d inside) in
      absurd (both_ways (p r.x j) (none r.x j (omega arith) (omega arith) (omega arith) (omega arith)) here)

  -- where all cells cost nothing no place is such
  pub none_without_room : (cost : ℕ → ℕ) (n : ℕ) (cell : Rect) (x y : ℕ) →
      AreCosts width height across p form n cost → sum_below cost n ≤ 0 →
      cell_of across x y < n → IsCell width height across (cell_of across x y) cell →
      contains cell x y ≡ true → p x y ≡ true → ⊥
  none_without_room cost n cell x y costs none below is inside here =
      let (a, b, c, d) = contains_true cell x y inside in
      let more = sum_more cost (cell_of across x y) in
      let order = sum_order cost (cell_of across x y + 1) n (omega arith) in
      let at : contains (record { x = x; y = y; w = 1; h = 1 }) x y ≡ true = contains_row
      (record { x = x; y = y; w = 1; h = 1 }) x y (omega arith) (omega arith) (omega arith) (omega arith) in
      let last : x + 1 - 1 ≡ x = omega arith in
      let lower : y + 1 - 1 ≡ y = omega arith in
      let tight : IsTight p (record { x = x; y = y; w = 1; h = 1 }) = record {
        some = (omega arith, omega arith);
        left = (y, at, here);
        right = (y, rw last at, rw last here);
        top = (x, at, here);
        bottom = (x, rw lower at, rw lower here);
      } in
      let cost_is = costs (cell_of across x y) cell below is (record { x = x; y = y; w = 1; h = 1 }) tight (omega arith)
      (omega arith) (omega arith) (omega arith) in
      omega (arith, cost_is, more, order, none)

-- few columns and rows have few places
pub few_places : (w h size : ℕ) → w ≤ 64 → h ≤ 64 → size ≤ 4 → h * w * size ≤ 16384
few_places w h size a b c =
    let rows : h * w ≤ 64 * w = mul-le-mul_right w b in
    let all : h * w ≤ 4096 = omega arith in
    let bytes : h * w * size ≤ 4096 * size = mul-le-mul_right size all in
    omega arith

-- and such a screen has few cells
pub few_cells : (w h : ℕ) → w ≤ 4096 → h ≤ 4096 → div_ceil w 64 * div_ceil h 64 ≤ 4096
few_cells w h a b =
    let across : div_ceil w 64 ≤ 64 = omega arith in
    let down : div_ceil h 64 ≤ 64 = omega arith in
    let some : div_ceil w 64 * div_ceil h 64 ≤ 64 * div_ceil h 64 = mul-le-mul_right (div_ceil h 64) across in
    omega arith

-- ---- how much room there is at most

-- a cell more costs at most what it may
pub one_cell_more : (most : ℕ → ℕ) (at index room cost : ℕ) → at ≤ index →
    room ≤ sum_below most at → cost ≤ most index →
    room + cost ≤ sum_below most (index + 1)
one_cell_more most at index room cost after before one =
    let order = sum_order most at index after in
    let more = sum_more most index in
    omega (arith, order, more, before, one)

pub all_cells : (most : ℕ → ℕ) (at all room : ℕ) → at ≤ all → room ≤ sum_below most at → room ≤ sum_below most all
all_cells most at all room within before = omega (arith, sum_order most at all within, before)

-- the head of an update, its copies and its cells
pub room_within : (old len usable room most new : ℕ) → usable ≤ 16 → room ≤ most →
    GrowsWithin old (len + (4 + 16 * usable + room)) new → GrowsWithin old (len + (260 + most)) new
room_within old len usable room most new few cells (inl twice) = inl twice
room_within old len usable room most new few cells (inr needed) = inr (omega (arith, few, cells, needed))

-- ---- whether a place of a cell is asked

-- it is so of one of the first numbers, where it is so of that one
some_at : (p : ℕ → Bool) (n i : ℕ) → i < n → p i ≡ true → some_below p n ≡ true
some_at p zero i l here = absurd (omega arith)
some_at p (suc n) i l here =
    elim (cases_lt i n) [
      | inl less ↦ let before : some_below p n ≡ true = some_at p n i less here in rw before refl
      | inr more ↦
          let e : i ≡ n = omega arith in
          let last : p n ≡ true = subst (λ (k : ℕ). p k ≡ true) e here in
          grind (arith, nat_tests)
    ]

-- a place of a cell that has a box is asked
pub box_asked : (area : Places) (cell box : Rect) → IsBox (asked_at area) cell box → has_asked area cell ≡ true
box_asked area cell box is =
    let (j, inside, here) = is.tight.left in
    let (x0, x1, y0, y1) = contains_true box box.x j inside in
    let (l, r, t, b) = is.within in
    let x_is : box.x ≡ cell.x + (box.x - cell.x) = omega arith in
    let y_is : j ≡ cell.y + (j - cell.y) = omega arith in
    some_at (λ j. some_below (λ i. asked_at area (cell.x + i) (cell.y + j)) cell.w) cell.h (j - cell.y) (omega arith)
    (some_at (λ i. asked_at area (cell.x + i) (cell.y + (j - cell.y))) cell.w (box.x - cell.x) (omega arith)
    (subst (λ (x : ℕ). asked_at area x (cell.y + (j - cell.y)) ≡ true) x_is
    (subst (λ (y : ℕ). asked_at area box.x y ≡ true) y_is here)))

-- where the asked places of a cell have a box, one is; and where they have none, none is
pub found_asked : (area : Places) (cell : Rect) (found : Option Rect) → HasBox (asked_at area) cell found →
    is_some found ≡ true → has_asked area cell ≡ true
found_asked area cell None box e = absurd cc
found_asked area cell (Some r) box e = box_asked area cell r box

pub unfound_asked : (area : Places) (cell : Rect) (found : Option Rect) → HasBox (asked_at area) cell found →
    is_some found ≡ false → IsClear (asked_at area) cell.x (cell.x + cell.w) cell.y (cell.y + cell.h)
unfound_asked area cell (Some r) box e = absurd cc
unfound_asked area cell None box e = box

-- its first place is
pub corner_asked : (area : Places) (cell : Rect) → 0 < cell.w → 0 < cell.h →
    asked_at area cell.x cell.y ≡ true → has_asked area cell ≡ true
corner_asked area cell wide high here =
    let x_is : cell.x ≡ cell.x + 0 = omega arith in
    let y_is : cell.y ≡ cell.y + 0 = omega arith in
    some_at (λ j. some_below (λ i. asked_at area (cell.x + i) (cell.y + j)) cell.w) cell.h 0 high
    (some_at (λ i. asked_at area (cell.x + i) (cell.y + 0)) cell.w 0 wide
    (subst (λ (x : ℕ). asked_at area x (cell.y + 0) ≡ true) x_is
    (subst (λ (y : ℕ). asked_at area cell.x y ≡ true) y_is here)))

-- where one is, the room of the cell is that of all of it
pub room_asked : (form : PixelFormat) (area : Places) (cell : Rect) → has_asked area cell ≡ true →
    cell_room form area cell ≡ 12 + cell.h * cell.w * size_of form
room_asked form area cell asked = rw asked refl

-- where none is, no place of it is marked and asked
pub none_asked : (marks : Grid Bool) (area : Places) (cell : Rect) →
    IsClear (asked_at area) cell.x (cell.x + cell.w) cell.y (cell.y + cell.h) →
    IsClear (may_need marks area) cell.x (cell.x + cell.w) cell.y (cell.y + cell.h)
none_asked marks area cell clear = λ x y a b c d. by (is_in marks x y) (asked_at area x y) (clear x y a b c d)
  where
    by : (marked asked : Bool) → asked ≡ false → (marked && asked) ≡ false
    by marked asked not_asked = grind (arith, nat_tests)
