-- How much room a composing asks for at most.
use Rattle.std.specs.Prelude.{ℕ, zero, suc, ◌+◌, ◌*◌, ◌≤◌, ◌⊎◌, ◌||◌, Bool, false}
use Rattle.std.specs.Prelude.{if◌then◌else◌}
use Rattle.std.specs.Int.{div_ceil}
use Rattle.rfb_pixel.specs.Format.{PixelFormat, size_of}
use Rattle.rfb_picture.specs.declared.rect.Rect.{Rect}
use Rattle.rfb_picture.specs.Area.{Places, asked_at}
use Rattle.rfb_server.specs.declared.session.Session.{Session}
use Rattle.rfb_server.specs.Cells.{cell_at}
use Rattle.rfb_server.specs.Model.{Notes, notes_in}

-- the sum of the first costs
abbrev pub sum_below : (ℕ → ℕ) → ℕ → ℕ
sum_below cost zero = 0
sum_below cost (suc n) = sum_below cost n + cost n

-- it is so of one of the first numbers
abbrev pub some_below : (ℕ → Bool) → ℕ → Bool
some_below p zero = false
some_below p (suc n) = some_below p n || p n

-- a place of the rectangle is asked
abbrev pub has_asked : Places → Rect → Bool
has_asked area r =
    some_below (λ j. some_below (λ i. asked_at area (r.x + i) (r.y + j)) r.w) r.h

-- for a cell with an asked place, the head of a rectangle, 12 bytes, and all its pixels; for
-- another nothing
abbrev pub cell_room : PixelFormat → Places → Rect → ℕ
cell_room form area cell =
    if has_asked area cell then 12 + cell.h * cell.w * size_of form else 0

-- of the first cells of 64 by 64 places, on a screen of that size
abbrev pub cells_room : ℕ → ℕ → PixelFormat → Places → ℕ → ℕ
cells_room width height form area n =
    sum_below (λ i. cell_room form area (cell_at width height i)) n

-- of an update its head and sixteen copies, 260 bytes, and its cells
abbrev pub room_for : Notes → ℕ
room_for notes = 260 + cells_room notes.known.width notes.known.height notes.form notes.area
    (div_ceil notes.known.width 64 * div_ceil notes.known.height 64)

abbrev pub update_room : Session → ℕ
update_room session = room_for (notes_in session)

-- there is no more room than twice as much as there was, or than is needed
abbrev pub GrowsWithin : ℕ → ℕ → ℕ → Type 0
GrowsWithin old needed new = (new ≤ 2 * old) ⊎ (new ≤ needed)
