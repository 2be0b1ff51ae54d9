-- Places of a copy that have the wanted pixel, counted part by part and row by row.
use Rattle.std.proofs.Common.{◌≡◌, ◌∙◌, ℕ, zero, suc, ◌+◌, ◌-◌, ◌*◌, ◌<◌, ◌≤◌, Bool, true, false, nat_eq, Option, sym}
use Rattle.std.proofs.Common.{ap, refl, arith}
use Rattle.std.proofs.Math.Nat.{suc-mul, mul-le-mul}
use Rattle.std.specs.Bool.{OnFalse}
use Rattle.std.proofs.lemmas.Bool.Decides.{nat_tests}
use Rattle.rfb_pixel.specs.declared.colour.Colour.{Colour}
use Rattle.rfb_pixel.specs.Format.{PixelFormat}
use Rattle.rfb_picture.specs.declared.rect.Rect.{Rect}
use Rattle.rfb_picture.specs.Grid.{Grid}
use Rattle.rfb_server.specs.declared.hint.Hint.{Hint}
use Rattle.rfb_server.specs.declared.session.Session.{Session}
use Rattle.rfb_server.specs.Composition.{count_row, count_rows}
use Rattle.rfb_server.specs.update.Copies.{is_right_from}
use Rattle.rfb_server.specs.update.Gains.{MayCopy, line, part, right_before, right_after}
use Rattle.rfb_server.proofs.CountLemmas.{row_same, rows_more}
use Rattle.rfb_server.proofs.BitCountLemmas.{row_split, row_le}

-- a place is judged by the same one, if that lies as far from the source of a part of the rectangle
pub same_source : (screen : Grid Colour) (known : Grid (Option ℕ)) (form : PixelFormat)
    (to part : Rect) (sx sy px py x y : ℕ) →
    px + (x - part.x) ≡ sx + (x - to.x) → py + (y - part.y) ≡ sy + (y - to.y) →
    is_right_from screen known form part px py x y ≡ is_right_from screen known form to sx sy x y
same_source screen known form to part sx sy px py x y column row = rw (column, row) refl

-- the places of a row up to a column, and those from it on
row_joined : (p q : ℕ → ℕ → Bool) (from y at to : ℕ) → from ≤ at → at ≤ to →
    ((i : ℕ) → i < to - at → q (at + i) y ≡ p (at + i) y) →
    count_row p from y (at - from) + count_row q at y (to - at) ≡ count_row p from y (to - from)
row_joined p q from y at to order rest same =
    let parts : to - from ≡ at - from + (to - at) = omega arith in
    let column : from + (at - from) ≡ at = omega arith in
    let split = row_split p from y (at - from) (to - at) in
    let after = rw column at split in
    let here = row_same q p at y (to - at) same in
    ap (λ n. count_row p from y (at - from) + n) here ∙ sym after ∙ sym (ap (count_row p from y) parts)

-- ---- the rows that are left

rows_on : (p : ℕ → ℕ → Bool) (x y w k j : ℕ) →
    (count_rows p x y w k ≤ count_rows p x y w (k + j)) × (count_rows p x y w (k + j) ≤ count_rows p x y w k + j * w)
rows_on p x y w k zero = let all : k + 0 ≡ k = omega arith in rw all (omega arith, omega arith)
rows_on p x y w k (suc j) =
    let next : k + suc j ≡ suc (k + j) = omega arith in
    let more = rows_on p x y w k j in
    let row = row_le p x (y + (k + j)) w in
    rw next (omega (arith, more), omega (arith, more, row, suc-mul j w))

-- they add no place twice, and lose none
pub rows_left : (p : ℕ → ℕ → Bool) (x y w k h : ℕ) → k ≤ h →
    (count_rows p x y w k ≤ count_rows p x y w h) × (count_rows p x y w h ≤ count_rows p x y w k + (h - k) * w)
rows_left p x y w k h order =
    let all : k + (h - k) ≡ h = omega arith in
    rw all at (rows_on p x y w k (h - k))

-- of the first `h` rows at least `n` places are marked, and at most `left` more
abbrev pub Reaches : (ℕ → ℕ → Bool) → Rect → ℕ → ℕ → ℕ → Type 0
Reaches p to h n left = (n ≤ count_rows p to.x to.y to.w h) × (count_rows p to.x to.y to.w h ≤ n + left)

-- ---- rows and parts of a rectangle that takes over what is known from (sx, sy) on

module _ (screen : Grid Colour) (s : Session) (to : Rect) (sx sy : ℕ) where
  abbrev right : ℕ → ℕ → Bool
  right = is_right_from screen s.known s.format to sx sy

  -- one row is counted in the copy of it alone
  pub line_same : (row : ℕ) →
      count_row (is_right_from screen s.known s.format (record to { y = to.y + row; h = 1 }) sx (sy + row))
      to.x (to.y + row) to.w ≡ count_row right to.x (to.y + row) to.w
  line_same row =
      row_same (is_right_from screen s.known s.format (record to { y = to.y + row; h = 1 }) sx (sy + row)) right
      to.x (to.y + row) to.w
      (λ i l. same_source screen s.known s.format to (record to { y = to.y + row; h = 1 }) sx sy sx (sy + row)
      (to.x + i) (to.y + row) refl (omega arith))

  -- and adds to those above it
  line_added : (row n m : ℕ) → n ≡ count_rows right to.x to.y to.w row →
      m ≡ count_row (is_right_from screen s.known s.format (record to { y = to.y + row; h = 1 }) sx (sy + row))
      to.x (to.y + row) to.w →
      n + m ≡ count_rows right to.x to.y to.w (row + 1)
  line_added row n m above here =
      rw (above, here)
      (ap (λ k. count_rows right to.x to.y to.w row + k) (line_same row) ∙ sym (rows_more right to.x to.y to.w row))

  -- the rows that are left below it have no more places than these have
  line_left : (row n m h : ℕ) → row < h → n ≡ count_rows right to.x to.y to.w row →
      m ≡ count_row (is_right_from screen s.known s.format (record to { y = to.y + row; h = 1 }) sx (sy + row))
      to.x (to.y + row) to.w →
      Reaches right to h (n + m) ((h - row - 1) * to.w)
  line_left row n m h less above here =
      let rest : h - row - 1 ≡ h - (row + 1) = omega arith in
      rw (line_added row n m above here, rest) (rows_left right to.x to.y to.w (row + 1) h (omega arith))

  -- as the places of a row from one column up to another, counted alone, add to those before
  part_added : (x next px n m : ℕ) → to.x ≤ x → x ≤ next → px ≡ sx + (x - to.x) →
      n ≡ count_row right to.x to.y (x - to.x) →
      m ≡ count_row (is_right_from screen s.known s.format (record to { x = x; w = next - x }) px sy)
      x to.y (next - x) →
      n + m ≡ count_row right to.x to.y (next - to.x)
  part_added x next px n m order rest from before here =
      rw (before, here)
      (row_joined right (is_right_from screen s.known s.format (record to { x = x; w = next - x }) px sy)
      to.x to.y x next order rest
      (λ i l. same_source screen s.known s.format to (record to { x = x; w = next - x }) sx sy px sy (x + i) to.y
      (omega arith) (omega arith)))

-- a row more of a copy, counted before it or after it
module _ (screen : Grid Colour) (s : Session) (copy one : Hint) (row n m : ℕ) (is : one ≡ line copy row) where
  pub before_row : n ≡ count_rows (right_before screen s copy) copy.to.x copy.to.y copy.to.w row →
      m ≡ count_row (right_before screen s one) one.to.x one.to.y one.to.w →
      n + m ≡ count_rows (right_before screen s copy) copy.to.x copy.to.y copy.to.w (row + 1)
  before_row above here = line_added screen s copy.to copy.to.x copy.to.y row n m above (rw is at here)

  pub after_row : n ≡ count_rows (right_after screen s copy) copy.to.x copy.to.y copy.to.w row →
      m ≡ count_row (right_after screen s one) one.to.x one.to.y one.to.w →
      n + m ≡ count_rows (right_after screen s copy) copy.to.x copy.to.y copy.to.w (row + 1)
  after_row above here = line_added screen s copy.to copy.sx copy.sy row n m above (rw is at here)

  -- and the rows up to row `h`, that one among them, have at least as many
  pub before_left : (h : ℕ) → row < h →
      n ≡ count_rows (right_before screen s copy) copy.to.x copy.to.y copy.to.w row →
      m ≡ count_row (right_before screen s one) one.to.x one.to.y one.to.w →
      Reaches (right_before screen s copy) copy.to h (n + m) ((h - row - 1) * copy.to.w)
  before_left h less above here = line_left screen s copy.to copy.to.x copy.to.y row n m h less above (rw is at here)

  pub after_left : (h : ℕ) → row < h →
      n ≡ count_rows (right_after screen s copy) copy.to.x copy.to.y copy.to.w row →
      m ≡ count_row (right_after screen s one) one.to.x one.to.y one.to.w →
      Reaches (right_after screen s copy) copy.to h (n + m) ((h - row - 1) * copy.to.w)
  after_left h less above here = line_left screen s copy.to copy.sx copy.sy row n m h less above (rw is at here)

-- ---- parts of a row

-- so many places of a row are marked up to a column
pub record IsCountTo (p : ℕ → ℕ → Bool) (row : Rect) (x n : ℕ) : Type 0 where
  pub order : (row.x ≤ x) × (x ≤ row.x + row.w)
  pub value : n ≡ count_row p row.x row.y (x - row.x)
  pub few : n ≤ x - row.x

-- and up to the end of a part more
module _ (screen : Grid Colour) (s : Session) (row one : Hint) (x next n m : ℕ)
    (rest : x ≤ next) (last : next ≤ row.to.x + row.to.w) (is : one ≡ part row x next)
    (few : m ≤ one.to.w) where
  pub before_part : IsCountTo (right_before screen s row) row.to x n →
      m ≡ count_row (right_before screen s one) one.to.x one.to.y one.to.w →
      IsCountTo (right_before screen s row) row.to next (n + m)
  before_part before here = record {
    order = (omega (arith, before.order), last);
    value = part_added screen s row.to row.to.x row.to.y x next x n m before.order.0 rest
        (omega (arith, before.order)) before.value (rw is at here);
    few = omega (arith, before.order, before.few, rw is at few);
  }

  pub after_part : IsCountTo (right_after screen s row) row.to x n →
      m ≡ count_row (right_after screen s one) one.to.x one.to.y one.to.w →
      IsCountTo (right_after screen s row) row.to next (n + m)
  after_part before here = record {
    order = (omega (arith, before.order), last);
    value = part_added screen s row.to row.sx row.sy x next (row.sx + (x - row.to.x)) n m before.order.0 rest
        refl before.value (rw is at here);
    few = omega (arith, before.order, before.few, rw is at few);
  }

-- ---- how many there can be

-- of no more rows and columns than a screen has
pub few_places : (n m : ℕ) → n ≤ 4096 → m ≤ 4096 → n * m ≤ 4096 * 4096
few_places n m high wide = mul-le-mul high wide

pub few_rows : (p : ℕ → ℕ → Bool) (x y w k : ℕ) → w ≤ 4096 → k ≤ 4096 → count_rows p x y w k ≤ 4096 * 4096
few_rows p x y w k wide high =
    omega (arith, rows_left p x y w 0 k (omega arith), few_places (k - 0) w (omega arith) wide)

-- nor of what may be copied
pub few_in : (s : Session) (copy : Hint) (n m : ℕ) → MayCopy s.known copy → n ≤ copy.to.h →
    m ≤ copy.to.w →
    n * m ≤ 4096 * 4096
few_in s copy n m may high wide =
    few_places n m (omega (arith, may.target.1, s.alike.rows, high))
    (omega (arith, may.target.0, s.alike.columns, wide))

pub few_lines : (p : ℕ → ℕ → Bool) (s : Session) (copy : Hint) (row : ℕ) → MayCopy s.known copy →
    row ≤ copy.to.h →
    count_rows p copy.to.x copy.to.y copy.to.w row ≤ 4096 * 4096
few_lines p s copy row may order =
    few_rows p copy.to.x copy.to.y copy.to.w row (omega (arith, may.target.0, s.alike.columns))
    (omega (arith, may.target.1, s.alike.rows, order))

-- where a row has fewer places than columns, the rectangle has fewer than its own
pub rows_short : (p : ℕ → ℕ → Bool) (x y w k h : ℕ) → k < h → count_rows p x y w (k + 1) < (k + 1) * w →
    count_rows p x y w h < h * w
rows_short p x y w k h order short =
    let j = h - (k + 1) in
    let sum : k + 1 + j ≡ h = omega arith in
    let split : (k + 1 + j) * w ≡ (k + 1) * w + j * w = grind arith in
    let all : h * w ≡ (k + 1) * w + j * w = ap (λ n. n * w) (sym sum) ∙ split in
    omega (arith, short, all, rows_left p x y w (k + 1) h (omega arith))

pub not_all : (p : ℕ → ℕ → Bool) (x y w k h : ℕ) → k ≤ h → (k < h → count_rows p x y w (k + 1) < (k + 1) * w) →
    OnFalse (nat_eq k h) (count_rows p x y w h < h * w)
not_all p x y w k h order short = by (nat_eq k h) refl
  where
    by : (b : Bool) → nat_eq k h ≡ b → OnFalse b (count_rows p x y w h < h * w)
    by true e = tt
    by false e =
        let other : k < h = grind (arith, nat_tests) in
        rows_short p x y w k h other (short other)
