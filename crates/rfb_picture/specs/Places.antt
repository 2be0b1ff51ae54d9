-- Sets of places: all places of a rectangle, a set without another, the places of a row as bits.
use Rattle.std.specs.Prelude.{ℕ, Bool, true, false, ◌≡◌, ◌+◌, ◌*◌, ◌/◌, ◌<◌, ◌≤◌, ◌&&◌, not, nat_eq, nat_le, nat_lt}
use Rattle.std.specs.Int.{bit_at}
use Rattle.rfb_picture.specs.declared.rect.Rect.{Rect}
use Rattle.rfb_picture.specs.Rect.{contains}
use Rattle.rfb_picture.specs.Grid.{Grid, changed}
use Rattle.rfb_picture.specs.Box.{is_in}

-- every place of the rectangle is marked
abbrev pub AllMarked : (ℕ → ℕ → Bool) → Rect → Type 0
AllMarked p r = (x y : ℕ) → contains r x y ≡ true → p x y ≡ true

-- the set without the places of another
abbrev pub without : Grid Bool → Grid Bool → Grid Bool
without other g = changed (λ x y old. old && not (is_in other x y)) g

-- bit i of the word is set
abbrev pub has_bit : ℕ → ℕ → Bool
has_bit word i = nat_eq (bit_at word i) 1

-- bit i of the word says whether the place i columns right of (x, y) is in the set; past the
-- right edge no bit is set
abbrev pub HasRowBits : Grid Bool → ℕ → ℕ → ℕ → Type 0
HasRowBits g x y word =
    (i : ℕ) → i < 64 → has_bit word i ≡ (nat_lt (x + i) g.width && is_in g (x + i) y)

-- bit i of the word says whether the place i columns right of the cell of column `from` is marked
-- and lies from that column up to another
abbrev pub HasBitsBetween : (ℕ → ℕ → Bool) → ℕ → ℕ → ℕ → ℕ → Type 0
HasBitsBetween p y from to word = (i : ℕ) → i < 64 →
    let x = from / 64 * 64 + i in
    has_bit word i ≡ ((nat_le from x && nat_lt x to) && p x y)

-- no place of row y from one column up to another is marked
abbrev pub NoneInRow : (ℕ → ℕ → Bool) → ℕ → ℕ → ℕ → Type 0
NoneInRow p y from to = (x : ℕ) → from ≤ x → x < to → p x y ≡ false
