-- What of a screen needs sending, as a session finds it.
use Rattle.std.specs.Prelude.{◌≡◌, ℕ, ◌+◌, ◌-◌, ◌*◌, ◌/◌, ◌<◌, ◌≤◌, Bool, true, false, not, ◌&&◌, Option, Some, None}
use Rattle.std.specs.Prelude.{MatchOption}
use Rattle.rfb_pixel.specs.declared.colour.Colour.{Colour}
use Rattle.rfb_pixel.specs.Format.{PixelFormat}
use Rattle.rfb_picture.specs.declared.rect.Rect.{Rect}
use Rattle.rfb_picture.specs.Rect.{contains}
use Rattle.rfb_picture.specs.Grid.{Grid, at_or}
use Rattle.rfb_picture.specs.Area.{Places}
use Rattle.rfb_picture.specs.Box.{IsClear, IsBox}
use Rattle.rfb_picture.specs.Places.{NoneInRow, has_bit}
use Rattle.rfb_server.specs.Request.{needs_at, differs}
use Rattle.rfb_server.specs.Claims.{is_stale}
use Rattle.rfb_server.specs.declared.session.update.quiet.Quiet.{Quiet}
use Rattle.rfb_server.specs.declared.session.update.needs.Columns.{Columns}
use Rattle.rfb_server.specs.declared.session.Session.{Session}

-- a place of that screen needs sending
abbrev pub needs_of : Grid Colour → Session → ℕ → ℕ → Bool
needs_of screen session x y = needs_at screen session.known session.area session.format x y

-- the place lies in the rectangle, and in a row that counts
abbrev pub is_quiet : Quiet → ℕ → ℕ → Bool
is_quiet quiet x y = contains quiet.area x y && not (is_stale quiet.stale y)

-- no such place needs sending, by what is known, asked and shown
abbrev pub AreQuiet : Grid Colour → Grid (Option ℕ) → Places → PixelFormat → Quiet → Type 0
AreQuiet screen known area form quiet = (x y : ℕ) → x < known.width → y < known.height →
    is_quiet quiet x y ≡ true → needs_at screen known area form x y ≡ false

-- so it is for a session
abbrev pub IsQuiet : Grid Colour → Session → Quiet → Type 0
IsQuiet screen session quiet =
    AreQuiet screen session.known session.area session.format quiet

-- it is some of the rows of the cell
pub record IsPartOf (cell rows : Rect) : Type 0 where
  pub left : rows.x ≡ cell.x
  pub wide : rows.w ≡ cell.w
  pub top : cell.y ≤ rows.y
  pub bottom : rows.y + rows.h ≤ cell.y + cell.h

-- the first marked place of row y from one column up to another is at that column, which is the
-- last of them where there is none
pub record IsFirst (p : ℕ → ℕ → Bool) (y from to column : ℕ) : Type 0 where
  pub order : (from ≤ column) × (column ≤ to)
  pub none : NoneInRow p y from column
  pub here : column < to → p column y ≡ true

-- after that column, and up to another, no place of row y is marked; it is the first column of
-- them, or after a marked place
pub record IsEnd (p : ℕ → ℕ → Bool) (y from to column : ℕ) : Type 0 where
  pub order : (from ≤ column) × (column ≤ to)
  pub none : NoneInRow p y column to
  pub here : from < column → p (column - 1) y ≡ true

-- row y of the zone has a marked place
abbrev pub HasInRow : (ℕ → ℕ → Bool) → Rect → ℕ → Type 0
HasInRow p zone y = (x : ℕ) × (zone.x ≤ x) × (x < zone.x + zone.w) × (p x y ≡ true)

-- the zone's last row with a marked place, which is not above row `top`
pub record IsLastOf (p : ℕ → ℕ → Bool) (zone : Rect) (top row : ℕ) : Type 0 where
  pub order : (top ≤ row) × (row < zone.y + zone.h)
  pub below : IsClear p zone.x (zone.x + zone.w) (row + 1) (zone.y + zone.h)
  pub some : HasInRow p zone row

-- all marked places of the zone's rows from `top` to `bottom` are of these columns, whose first and
-- last one have one each
pub record SpansRows (p : ℕ → ℕ → Bool) (zone : Rect) (top bottom : ℕ) (columns : Columns)
    : Type 0 where
  pub order : (zone.x ≤ columns.first) × (columns.first < columns.end)
      × (columns.end ≤ zone.x + zone.w)
  pub left : IsClear p zone.x columns.first top (bottom + 1)
  pub right : IsClear p columns.end (zone.x + zone.w) top (bottom + 1)
  pub first : (y : ℕ) × (top ≤ y) × (y ≤ bottom) × (p columns.first y ≡ true)
  pub last : (y : ℕ) × (top ≤ y) × (y ≤ bottom) × (p (columns.end - 1) y ≡ true)

-- bit i is for the place i columns right of the cell of column `from`. Where that lies from that
-- column up to another, and is known, the bit says whether it has another pixel than the wanted one
abbrev pub TellsOther : (ℕ → ℕ → ℕ) → Grid (Option ℕ) → ℕ → ℕ → ℕ → ℕ → Type 0
TellsOther wanted known y from to word = (i pixel : ℕ) → i < 64 →
    from ≤ from / 64 * 64 + i → from / 64 * 64 + i < to →
    at_or known (from / 64 * 64 + i) y None ≡ Some pixel →
    has_bit word i ≡ differs (wanted (from / 64 * 64 + i) y) (Some pixel)

-- the least rectangle that holds the marked places of the zone, if it has some
abbrev pub HasBox : (ℕ → ℕ → Bool) → Rect → Option Rect → Type 0
HasBox p zone found =
    MatchOption found (IsClear p zone.x (zone.x + zone.w) zone.y (zone.y + zone.h))
    (λ r. IsBox p zone r)

-- the rows of the zone above row y
abbrev pub rows_above : Rect → ℕ → Rect
rows_above zone y = record zone { h = y - zone.y }
